use borrow.Author.Tests.{not-true, not-false}
use Rattle.gate.specs.Steps.{numbers_of}
use Rattle.gate.proofs.Ways.{small_table, tree_room, accepted_run, refused_run}
use Rattle.gate.proofs.run_within.Goals as goal

pub returns-then-not-tables_suffice : goal.returns-then-not-tables_suffice
returns-then-not-tables_suffice c =
    small_table (numbers_of c.args.limits) c.args.text.now c.args.tree.now c.args.words.now c.args.stack.now c.args.scopes.now c.args.notes.now c.args.waiting.now c.args.bindings.now c.args.cells.now c.args.output.now
    c.requires.1 c.requires.0 c.tables_suffice.ensures (not-true c.tables_suffice.result c.if-not-tables_suffice.true-raw) c.refused.ensures

pub run_tree-requires : goal.run_tree-requires
run_tree-requires c = (
  c.requires.0,
  tree_room (numbers_of c.args.limits) c.args.text.now c.args.tree.now c.args.words.now c.args.stack.now c.args.scopes.now c.args.notes.now c.args.waiting.now c.args.bindings.now c.args.cells.now c.args.output.now
      c.requires.1 c.requires.0 c.tables_suffice.ensures c.check.new.tree (not-false c.tables_suffice.result c.if-not-tables_suffice.false-raw) c.check.auto.tree,
)

pub returns : goal.returns
returns c =
    accepted_run (numbers_of c.args.limits) c.args.text.now c.args.tree.now c.args.words.now c.args.stack.now c.args.scopes.now c.args.notes.now c.args.waiting.now c.args.bindings.now c.args.cells.now c.args.output.now
    c.requires.1 c.requires.0 c.tables_suffice.ensures (not-false c.tables_suffice.result c.if-not-tables_suffice.false-raw) c.check.result c.check.ensures
    c.in_default.is c.run_tree.ensures

pub returns-in-Err : goal.returns-in-Err
returns-in-Err c =
    refused_run (numbers_of c.args.limits) c.args.text.now c.args.tree.now c.args.words.now c.args.stack.now c.args.scopes.now c.args.notes.now c.args.waiting.now c.args.bindings.now c.args.cells.now c.args.output.now
    c.requires.1 c.requires.0 c.tables_suffice.ensures (not-false c.tables_suffice.result c.if-not-tables_suffice.false-raw) c.check.result c.check.ensures
    _ c.in-Err.is c.into.ensures c.clear_words.ensures c.refused-in-Err.ensures
