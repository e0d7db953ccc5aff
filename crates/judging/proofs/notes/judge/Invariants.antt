use mathlib.Core.Path.{◌≡◌}
use Rattle.judge.specs.Judge.{judge_down}
use Rattle.judging.specs.Flaws.{judgement, number}
use Rattle.judging.proofs.notes.judge.Given as goal

abbrev pub invariant-loop-i : goal.invariant-loop-i
invariant-loop-i l = record {
  told : l.so_far ≡ judgement (number l.so_far);
  rest : judge_down l.text l.tree l.scopes l.i (number l.so_far) l.notes ≡ judge_down l.text l.tree l.scopes l.count 0 l.initial.notes;
}
