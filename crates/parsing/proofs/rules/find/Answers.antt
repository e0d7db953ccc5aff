use mathlib.Core.Path.{sym, ◌∙◌}
use Rattle.parsing.proofs.Finding.{ended, it_is, it_is_not}
use Rattle.parsing.proofs.rules.find.Goals as goal

pub returns-then-kind-packed : goal.returns-then-kind-packed
returns-then-kind-packed c =
    sym (c.loop-packed.invariant ∙ it_is c.args.rules.now c.args.kind c.loop-packed.packed-index c.loop-packed-test.true c.if-kind-packed.true)

pub loop-packed-preserved : goal.loop-packed-preserved
loop-packed-preserved c =
    c.loop-packed.invariant ∙ it_is_not c.args.rules.now c.args.kind c.loop-packed.packed-index c.loop-packed-test.true c.if-kind-packed.false

pub returns : goal.returns
returns c = sym (c.loop-packed.invariant ∙ ended c.args.rules.now c.args.kind c.loop-packed.packed-index c.loop-packed-test.false)
