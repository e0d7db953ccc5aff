use native.Mathlib.Omega.{arith}
use Rattle.writing.proofs.Pieces.{below, gap_bound, sign_bound, counted}
use Rattle.writing.proofs.past_word.Goals as goal

pub keeps_sign-minus-requires : goal.keeps_sign-minus-requires
keeps_sign-minus-requires c = below c.args.word.now c.skipped_of-from.result c.requires.2 c.skipped_of-from.ensures

pub past_gap-requires : goal.past_gap-requires
past_gap-requires c = c.requires.0

pub past_sign-requires : goal.past_sign-requires
past_sign-requires c = gap_bound c.args.n c.past_gap.result c.requires.0 c.past_gap.ensures

pub overflow_sub-result : goal.overflow_sub-result
overflow_sub-result c = omega (arith, below c.args.word.now c.skipped_of-from.result c.requires.2 c.skipped_of-from.ensures)

pub overflow_add-result : goal.overflow_add-result
overflow_add-result c =
    omega (
      arith,
      sign_bound c.past_gap.result c.past_sign.result c.keeps_sign-minus.result
          (gap_bound c.args.n c.past_gap.result c.requires.0 c.past_gap.ensures) c.past_sign.ensures,
      c.requires.1,
    )

pub returns : goal.returns
returns c =
    counted c.args.word.now c.args.n c.skipped_of-from.result c.keeps_sign-minus.result c.past_gap.result c.past_sign.result c.skipped_of-from.ensures
    c.keeps_sign-minus.ensures c.past_gap.ensures c.past_sign.ensures
