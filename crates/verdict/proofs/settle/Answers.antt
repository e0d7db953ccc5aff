-- `settle`: both tables are zeros when they are lent to the judge, and are cleared again.
use Rattle.verdict.proofs.Clearing.{part_long, settled}
use Rattle.std.proofs.Common.{rules}
use Rattle.verdict.proofs.settle.Goals as goal

pub slice_bounds-first_refused-end-2 : goal.slice_bounds-first_refused-end-2
slice_bounds-first_refused-end-2 c = part_long 4096 c.clear_words.new.words (search rules)

pub slice_bounds-first_refused-end-4 : goal.slice_bounds-first_refused-end-4
slice_bounds-first_refused-end-4 c = part_long 4096 c.clear_words-2.new.words (search rules)

pub returns : goal.returns
returns c =
    settled 4096 _ _ _ _ _ _ c.clear_words.new.words c.clear_words-2.new.words c.first_refused-judged.new.scopes c.first_refused-judged.new.notes _ _ c.requires.1 c.requires.2 c.clear_words.ensures c.clear_words-2.ensures
    c.first_refused-judged.ensures c.first_refused-judged.auto.scopes c.first_refused-judged.auto.notes c.clear_words-3.ensures c.clear_words-4.ensures
