use native.Mathlib.Omega.{arith}
use Rattle.entering.proofs.Laws.{guard_fuel, guard_depth, guard_enters}
use Rattle.entering.proofs.guard.Goals as goal

pub returns-then-units-eq0 : goal.returns-then-units-eq0
returns-then-units-eq0 c =
    record {
      by_index = (λ b k w o. guard_fuel _ _ _ c.if-units-eq0.true);
      ending_bound = omega arith;
      below = tt;
    }

pub returns-then-depth-eq0 : goal.returns-then-depth-eq0
returns-then-depth-eq0 c =
    record {
      by_index = (λ b k w o. guard_depth _ _ _ c.if-units-eq0.false c.if-depth-eq0.true);
      ending_bound = omega (arith, c.if-units-eq0.false);
      below = tt;
    }

pub returns : goal.returns
returns c =
    record {
      by_index = (λ b k w o. guard_enters _ _ _ c.if-units-eq0.false c.if-depth-eq0.false);
      ending_bound = omega (arith, c.if-units-eq0.false);
      below = omega (arith, c.if-depth-eq0.false);
    }
