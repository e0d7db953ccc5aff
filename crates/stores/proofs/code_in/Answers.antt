use native.Mathlib.Omega.{arith}
use borrow.Author.Tests.{eq-eqb, ne_eqb}
use Rattle.machine.specs.Entries.{pick}
use Rattle.machine.specs.Leaves.{code_in}
use Rattle.stores.proofs.Laws.{code_small}
use Rattle.stores.proofs.code_in.Goals as goal

pub returns-then-env-eq0 : goal.returns-then-env-eq0
unfolding code_in pick
returns-then-env-eq0 c =
    record {
      value = rw (eq-eqb _ 0 c.if-env-eq0.true);
      upper_bound = omega arith;
    }

pub returns : goal.returns
unfolding code_in pick
returns c =
    record {
      value = rw (ne_eqb _ 0 c.if-env-eq0.false, ← c.binding_at-latest.ensures);
      upper_bound = rw c.binding_at-latest.ensures (code_small _ _);
    }
