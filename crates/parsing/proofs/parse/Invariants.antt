use Rattle.std.proofs.Common.{◌≡◌, ◌≤◌, ◌+◌, length, drop}
use Rattle.parsing.specs.Steps.{run}
use Rattle.parsing.proofs.parse.Given as goal

abbrev pub invariant-loop-word : goal.invariant-loop-word
invariant-loop-word l = (l.m ≤ l.word-index)
    × (length l.words ≤ l.at + l.word-index)
    × (l.at ≤ length l.stack)
    × (length l.tree ≡ length l.initial.tree)
    × (run l.end l.words (drop l.top l.initial.stack) l.initial.tree 0 ≡ run l.end (drop l.word-index l.words) (drop l.at l.stack) l.tree l.m)
