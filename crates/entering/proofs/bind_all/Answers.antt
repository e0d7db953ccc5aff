use mathlib.Core.Path.{ap, ◌∙◌}
use Prim.Native.Nat.{ℕ, ◌+◌}
use Rattle.machine.specs.Leaves.{bind_all_at}
use Rattle.stores.proofs.Laws.{all_left, some_left, one_less, none_left}
use Rattle.entering.proofs.Laws.{bind_goes_on, bind_ends}
use Rattle.entering.proofs.bind_all.Goals as goal

pub loop-next-init : goal.loop-next-init
loop-next-init c =
    ap (λ (j : ℕ). bind_all_at c.args.tree.now j c.args.q c.args.call.first c.args.waiting.now c.args.k c.args.env c.args.bindings.now)
    (all_left c.args.k c.args.call.given)

pub loop-next-preserved : goal.loop-next-preserved
loop-next-preserved c =
    rw (one_less (c.args.k + c.args.call.given) c.loop-next.next)
    (bind_goes_on _ _ _ _ _ _ _ _ _ _ _ _ (some_left _ _ c.loop-next-test.true) c.next_at-next_param.ensures c.row_at-value.ensures c.add_binding.ensures
    c.row_after-from.ensures.value ∙ c.loop-next.invariant)

pub returns : goal.returns
returns c = bind_ends _ _ _ _ _ _ _ _ (none_left _ _ c.loop-next-test.false) ∙ c.loop-next.invariant
