use native.Mathlib.Omega.{arith}
use Rattle.writing.proofs.Pieces.{below, first_room, second_room, third_room, written}
use Rattle.writing.proofs.put_word.Goals as goal

pub keeps_sign-minus-requires : goal.keeps_sign-minus-requires
keeps_sign-minus-requires c = below c.args.word.now c.skipped_of-from.result c.requires.0 c.skipped_of-from.ensures

pub put_gap-m-requires : goal.put_gap-m-requires
put_gap-m-requires c =
    first_room c.args.word.now c.args.page.now c.args.n c.skipped_of-from.result c.keeps_sign-minus.result c.requires.0 c.requires.1
    c.skipped_of-from.ensures c.keeps_sign-minus.ensures

pub put_sign-k-requires : goal.put_sign-k-requires
put_sign-k-requires c =
    second_room c.args.word.now c.args.page.now c.args.n c.skipped_of-from.result c.keeps_sign-minus.result c.requires.0 c.requires.1
    c.skipped_of-from.ensures c.keeps_sign-minus.ensures c.put_gap-m.result c.put_gap-m.new.page c.put_gap-m.ensures

pub slice_bounds-copy-count : goal.slice_bounds-copy-count
slice_bounds-copy-count c = omega (arith, below c.args.word.now c.skipped_of-from.result c.requires.0 c.skipped_of-from.ensures)

pub slice_bounds-copy-start : goal.slice_bounds-copy-start
slice_bounds-copy-start c = omega (arith, below c.args.word.now c.skipped_of-from.result c.requires.0 c.skipped_of-from.ensures)

pub copy-requires : goal.copy-requires
copy-requires c =
    third_room c.args.word.now c.args.page.now c.args.n c.skipped_of-from.result c.keeps_sign-minus.result c.requires.0 c.requires.1
    c.skipped_of-from.ensures c.keeps_sign-minus.ensures c.put_gap-m.result c.put_gap-m.new.page c.put_gap-m.ensures c.put_sign-k.result
    c.put_sign-k.new.page c.put_sign-k.ensures

pub returns : goal.returns
returns c =
    written c.args.word.now c.args.page.now c.args.n c.skipped_of-from.result c.keeps_sign-minus.result c.requires.0 c.requires.1
    c.skipped_of-from.ensures c.keeps_sign-minus.ensures c.put_gap-m.result c.put_gap-m.new.page c.put_gap-m.ensures c.put_sign-k.result
    c.put_sign-k.new.page c.put_sign-k.ensures c.copy.result c.copy.new.page c.copy.ensures
