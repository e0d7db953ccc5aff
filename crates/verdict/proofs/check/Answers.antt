-- `check`: the two early answers are the promise's own cases; what reading and judging leave gives the others.
use mathlib.Core.Path.{◌∙◌, sym}
use borrow.Author.Tests.{not-false, not-true}
use Rattle.language.specs.Promises.{Check}
use Rattle.verdict.proofs.Promised.{fits, none_promised, tree_promised}
use Rattle.verdict.proofs.check.Goals as goal

pub returns-then-text-gt-TEXT_BYTES : goal.returns-then-text-gt-TEXT_BYTES
returns-then-text-gt-TEXT_BYTES c = Check.too_long c.if-text-gt-TEXT_BYTES.true

pub returns-then-not-tables_suffice : goal.returns-then-not-tables_suffice
returns-then-not-tables_suffice c =
    Check.too_small c.if-text-gt-TEXT_BYTES.false (sym c.tables_suffice.ensures ∙ not-true c.tables_suffice.result c.if-not-tables_suffice.true-raw)

pub judge_tree-requires : goal.judge_tree-requires
judge_tree-requires c =
    let room = sym c.tables_suffice.ensures ∙ not-false c.tables_suffice.result c.if-not-tables_suffice.false-raw in
    fits _ _ _ _ c.args.scopes.now c.args.notes.now c.if-text-gt-TEXT_BYTES.false room c.read.ensures c.in-Ok.is c.read.auto.tree

pub returns-in-Ok : goal.returns-in-Ok
returns-in-Ok c =
    let room = sym c.tables_suffice.ensures ∙ not-false c.tables_suffice.result c.if-not-tables_suffice.false-raw in
    tree_promised _ _ _ _ _ _ c.if-text-gt-TEXT_BYTES.false room c.read.ensures c.in-Ok.is c.judge_tree.ensures

pub returns-in-Err : goal.returns-in-Err
returns-in-Err c =
    let room = sym c.tables_suffice.ensures ∙ not-false c.tables_suffice.result c.if-not-tables_suffice.false-raw in
    none_promised _ _ _ _ _ _ c.if-text-gt-TEXT_BYTES.false room _ c.read.ensures c.in-Err.is c.into.ensures c.clear_words.ensures c.clear_words-in-Err.ensures
