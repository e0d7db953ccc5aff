use mathlib.Core.Path.{◌∙◌, refl}
use native.Mathlib.Omega.{arith}
use Rattle.judging.proofs.Laws.{judge_more, judge_end}
use Rattle.judging.proofs.Told.{told_none, number_answered, told_answered}
use Rattle.judging.proofs.notes.judge.Goals as goal

pub loop-i-init : goal.loop-i-init
loop-i-init c = record { told = told_none; rest = refl }

pub loop-i-preserved : goal.loop-i-preserved
loop-i-preserved c = record {
  told = rw c.answer_after-so_far.ensures (told_answered _ _ _ (omega (arith, c.requires, c.loop-i.auto.i)) c.loop-i.invariant.told);
  rest = rw (← c.loop-i.invariant.rest) (rw (
    judge_more _ c.loop-i-test.true,
    ← c.note_of-note.ensures,
    c.put.ensures,
    c.answer_after-so_far.ensures,
    number_answered,
  ));
}

pub returns : goal.returns
returns c = record {
  answer = c.loop-i.invariant.told;
  notes = judge_end _ c.loop-i-test.false _ _ _ _ _ ∙ c.loop-i.invariant.rest;
}
