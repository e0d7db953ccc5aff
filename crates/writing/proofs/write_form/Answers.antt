use native.Mathlib.Omega.{arith}
use Rattle.writing.proofs.Turns.{word_found, none_found, own_some, room_for, writing_first, writing_more, writing_done}
use Rattle.writing.proofs.write_form.Goals as goal

pub loop-word-init : goal.loop-word-init
loop-word-init c = writing_first c.args.text.now c.args.page.now c.requires.0

pub slice_bounds-put_word-count : goal.slice_bounds-put_word-count
slice_bounds-put_word-count c = let t = word_found c.args.text.now c.loop-word.at c.next_word.ensures c.in-Some.is in omega (arith, t.past)

pub slice_bounds-put_word-start : goal.slice_bounds-put_word-start
slice_bounds-put_word-start c = let t = word_found c.args.text.now c.loop-word.at c.next_word.ensures c.in-Some.is in omega (arith, t.past)

pub slice_bounds-put_word-end : goal.slice_bounds-put_word-end
slice_bounds-put_word-end c = let t = word_found c.args.text.now c.loop-word.at c.next_word.ensures c.in-Some.is in t.within

pub put_word-n-requires : goal.put_word-n-requires
put_word-n-requires c = let t = word_found c.args.text.now c.loop-word.at c.next_word.ensures c.in-Some.is in (
  own_some c.args.text.now c.loop-word.at c.loop-word.n c.loop-word.invariant.counting _ _ t,
  omega (
    arith,
    room_for c.args.text.now c.loop-word.at c.loop-word.n
        c.loop-word.invariant.counting _ _ t,
    c.loop-word.invariant.long,
    c.requires.1,
  ),
)

pub loop-word-smaller : goal.loop-word-smaller
loop-word-smaller c = let t = word_found c.args.text.now c.loop-word.at c.next_word.ensures c.in-Some.is in omega (arith, t.from, t.past, t.within)

pub loop-word-preserved : goal.loop-word-preserved
loop-word-preserved c =
    writing_more c.args.text.now c.args.page.now c.loop-word.page c.loop-word.at c.loop-word.n c.loop-word.invariant _ _
    (word_found c.args.text.now c.loop-word.at c.next_word.ensures c.in-Some.is) c.put_word-n.result
    c.put_word-n.new.page c.put_word-n.ensures.0 c.put_word-n.ensures.1 c.put_word-n.auto.page

pub returns : goal.returns
returns c =
    writing_done c.args.text.now c.args.page.now c.loop-word.page c.loop-word.at c.loop-word.n c.loop-word.invariant
    (none_found c.args.text.now c.loop-word.at c.next_word.ensures c.in_default.is c.loop-word.invariant.counting.left
    c.loop-word.invariant.counting.are) c.requires.1
