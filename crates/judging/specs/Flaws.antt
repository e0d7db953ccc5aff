-- The judge's answer as code gives it. The model's number says the same: 0, or the number after the refused node's, and 65536 more for a doubled parameter.
use Rattle.std.specs.Prelude.{ℕ, ◌+◌, ◌-◌, eqb, ltb, Result, Ok, Err}
use Rattle.judge.specs.Scopes.{pick}
use Rattle.judging.specs.declared.Flaw.{Flaw}
use Rattle.judging.specs.declared.Flaw.TheVariants.{«Type», Double}

unfoldable pub judgement : ℕ → Result (Unit {0}) Flaw
judgement n =
    pick (eqb n 0) (λ _. Ok tt) λ _.
    pick (ltb n 65537) (λ _. Err («Type» (n - 1))) λ _. Err (Double (n - 65537))

abbrev pub number : Result (Unit {0}) Flaw → ℕ
number (Ok u) = 0
number (Err («Type» i)) = i + 1
number (Err (Double i)) = i + 65537

-- the answer after the node i got the note r
unfoldable pub answered : ℕ → ℕ → Result (Unit {0}) Flaw → Result (Unit {0}) Flaw
answered r i so_far = pick (eqb r 65536) (λ _. Err («Type» i)) λ _. pick (eqb r 131072) (λ _. Err (Double i)) λ _. so_far
