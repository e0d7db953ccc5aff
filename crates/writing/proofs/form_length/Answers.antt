use mathlib.Core.Path.{sym, subst}
use native.Mathlib.Omega.{arith}
use Rattle.writing.proofs.Turns.{word_found, none_found, Counting, counting_first, own_length, own_some, counting_more, counting_done}
use Rattle.writing.proofs.form_length.Goals as goal

pub loop-word-init : goal.loop-word-init
loop-word-init c = counting_first c.args.text.now c.requires.1

pub slice_bounds-past_word-count : goal.slice_bounds-past_word-count
slice_bounds-past_word-count c = let t = word_found c.args.text.now c.loop-word.at c.next_word.ensures c.in-Some.is in omega (arith, t.past)

pub slice_bounds-past_word-start : goal.slice_bounds-past_word-start
slice_bounds-past_word-start c = let t = word_found c.args.text.now c.loop-word.at c.next_word.ensures c.in-Some.is in omega (arith, t.past)

pub slice_bounds-past_word-end : goal.slice_bounds-past_word-end
slice_bounds-past_word-end c = let t = word_found c.args.text.now c.loop-word.at c.next_word.ensures c.in-Some.is in t.within

pub past_word-n-requires : goal.past_word-n-requires
past_word-n-requires c = let t = word_found c.args.text.now c.loop-word.at c.next_word.ensures c.in-Some.is in (
  omega (arith, c.loop-word.invariant.few, c.loop-word.invariant.inside, c.requires.0),
  omega (arith, own_length c.args.text.now c.loop-word.at c.loop-word.n c.loop-word.invariant _ _ t, t.within, c.requires.0),
  own_some c.args.text.now c.loop-word.at c.loop-word.n c.loop-word.invariant _ _ t,
)

pub loop-word-smaller : goal.loop-word-smaller
loop-word-smaller c = let t = word_found c.args.text.now c.loop-word.at c.next_word.ensures c.in-Some.is in omega (arith, t.from, t.past, t.within)

pub loop-word-preserved : goal.loop-word-preserved
loop-word-preserved c =
    subst (Counting c.args.text.now c.in-Some.word.end) (sym c.past_word-n.ensures)
    (counting_more c.args.text.now c.loop-word.at c.loop-word.n c.loop-word.invariant _ _
    (word_found c.args.text.now c.loop-word.at c.next_word.ensures c.in-Some.is))

pub returns : goal.returns
returns c =
    counting_done c.args.text.now c.loop-word.at c.loop-word.n c.loop-word.invariant
    (none_found c.args.text.now c.loop-word.at c.next_word.ensures c.in_default.is c.loop-word.invariant.left c.loop-word.invariant.are)
