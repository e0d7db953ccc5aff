use Rattle.gate.specs.Lent.{limits_of}
use Rattle.gate.proofs.Ways.{long_text, beyond_limits, within_given, made_limits, made_admitted, not_made}
use Rattle.gate.proofs.run.Goals as goal

pub returns-then-text-gt-TEXT_BYTES : goal.returns-then-text-gt-TEXT_BYTES
returns-then-text-gt-TEXT_BYTES c =
    long_text (limits_of c.args.fuel c.args.depth c.args.most_bindings c.args.most_cells c.args.most_numbers) c.args.text.now c.args.tree.now c.args.words.now c.args.stack.now c.args.scopes.now c.args.notes.now c.args.waiting.now c.args.bindings.now c.args.cells.now c.args.output.now
    c.if-text-gt-TEXT_BYTES.true c.refused.ensures

pub run_within-requires : goal.run_within-requires
run_within-requires c = (made_admitted (limits_of c.args.fuel c.args.depth c.args.most_bindings c.args.most_cells c.args.most_numbers) c.in-Some.limits c.make_limits.ensures c.in-Some.is, c.if-text-gt-TEXT_BYTES.false)

pub returns-in-Some : goal.returns-in-Some
returns-in-Some c =
    within_given c.args.text.now c.args.tree.now c.args.words.now c.args.stack.now c.args.scopes.now c.args.notes.now c.args.waiting.now c.args.bindings.now c.args.cells.now c.args.output.now
    (made_limits c.in-Some.limits c.make_limits.ensures c.in-Some.is).1 c.run_within.ensures

pub returns-in-None : goal.returns-in-None
returns-in-None c =
    beyond_limits (limits_of c.args.fuel c.args.depth c.args.most_bindings c.args.most_cells c.args.most_numbers) c.args.text.now c.args.tree.now c.args.words.now c.args.stack.now c.args.scopes.now c.args.notes.now c.args.waiting.now c.args.bindings.now c.args.cells.now c.args.output.now
    c.if-text-gt-TEXT_BYTES.false (not_made c.make_limits.ensures c.in-None.is) c.refused-in-None.ensures
