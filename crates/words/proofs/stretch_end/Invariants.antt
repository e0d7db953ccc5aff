use Rattle.std.proofs.Common.{◌≡◌, ℕ, ◌+◌, ◌-◌, Bool, length, drop}
use Rattle.language.specs.Words.{stretch}
use Rattle.words.specs.Tests.{TestsBytes}
use Rattle.words.proofs.stretch_end.Given as goal

abbrev pub invariant-loop-end : goal.invariant-loop-end
invariant-loop-end g l =
    (p : ℕ → Bool) → TestsBytes (goal.F-post g l.passes) p → l.end + length (stretch p (drop l.end l.text)) ≡ l.at + length (stretch p (drop l.at l.text))

abbrev pub decreases-loop-end : goal.decreases-loop-end
decreases-loop-end g l = length l.text - l.end
