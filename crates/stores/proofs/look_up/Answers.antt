use mathlib.Core.Path.{ap, ◌∙◌}
use Prim.Native.Nat.{ℕ}
use Rattle.machine.specs.Leaves.{walk}
use Rattle.stores.proofs.Laws.{none_done, some_left, one_less, none_left, walk_none, walk_ends, walk_finds, walk_goes_on}
use Rattle.stores.proofs.look_up.Goals as goal

pub loop-init : goal.loop-init
loop-init c = ap (λ (j : ℕ). walk c.args.bindings.now c.args.c j c.args.env) (none_done c.args.n)

pub returns-then-at-eq0 : goal.returns-then-at-eq0
returns-then-at-eq0 c = walk_ends _ _ _ _ (some_left _ _ c.loop-test.true) c.if-at-eq0.true ∙ c.loop.invariant

pub returns-then-found-c : goal.returns-then-found-c
returns-then-found-c c =
    walk_finds _ _ _ _ (some_left _ _ c.loop-test.true) c.if-at-eq0.false _ c.binding_at-found.ensures c.if-found-c.true ∙ c.loop.invariant

pub loop-preserved : goal.loop-preserved
loop-preserved c =
    rw (c.step-at.ensures, one_less c.args.n c.loop.counter)
    (walk_goes_on _ _ _ _ (some_left _ _ c.loop-test.true) c.if-at-eq0.false _ c.binding_at-found.ensures c.if-found-c.false ∙ c.loop.invariant)

pub returns : goal.returns
returns c = walk_none _ _ _ _ (none_left _ _ c.loop-test.false) ∙ c.loop.invariant
