use mathlib.Core.Path.{◌∙◌, refl, sym}
use native.Mathlib.Omega.{arith}
use Rattle.judge.specs.Scopes.{scope_step}
use Rattle.scopes.proofs.Laws.{scopes_end, scopes_more, scopes_start}
use Rattle.scopes.proofs.give_scopes.Goals as goal

pub loop-i-init : goal.loop-i-init
loop-i-init c = record { rest = scopes_start _ _ _ _; as_long = refl }

pub loop-i-preserved : goal.loop-i-preserved
unfolding scope_step
loop-i-preserved c = record {
  rest = rw (← c.loop-i.invariant.rest) (rw (
    scopes_more _ _ c.loop-i-test.true,
    ← c.inner-below.ensures,
    ← c.outer-beside.ensures,
    ← c.row_after-row.ensures,
    ← c.child_at.ensures,
    ← c.next_at.ensures,
    c.give_scope-in-loop-i.ensures,
    c.give_scope.ensures,
  ));
  as_long = omega (arith, c.give_scope.auto, c.give_scope-in-loop-i.auto, c.loop-i.invariant.as_long);
}

pub returns : goal.returns
returns c = sym (scopes_end _ _ c.loop-i-test.false _ _ _ _) ∙ c.loop-i.invariant.rest
