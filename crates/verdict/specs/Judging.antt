-- What judging a tree answers and leaves: the judge's answer over tables of zeros, those tables zero again, and the tree only if it is accepted.
-- k is the tables' fixed size.
use Rattle.std.specs.Prelude.{ℕ, ◌≡◌, List, take, replicate, Result, Ok, Err}
use Rattle.limits.specs.Cleared.{zeroed}
use Rattle.judge.specs.Scopes.{place_at}
use Rattle.judge.specs.Judge.{verdict_of}
use Rattle.judging.specs.Flaws.{judgement}
use Rattle.judging.specs.declared.Flaw.{Flaw}
use Rattle.judging.specs.declared.Flaw.TheVariants as flaw
use Rattle.verdict.specs.declared.Refusal.{Refusal}
use Rattle.verdict.specs.declared.Refusal.TheVariants.{«Type», Double}
use Rattle.verdict.specs.Answers.{Verdict}

-- the judge's answer on n nodes of the tree words: which node is the first to end whose own rule is not met, if any
unfoldable pub refused_node : ℕ → List ℕ → List ℕ → ℕ → Result (Unit {0}) Flaw
refused_node k text tree n = judgement (verdict_of text tree n (replicate k 0) (replicate k 0))

pub record Settled (k : ℕ) (text tree : List ℕ) (n : ℕ) (scopes notes : List ℕ) (r : Result (Unit {0}) Flaw) (scopes' notes' : List ℕ) : Type 0 where
  pub answer : r ≡ refused_node k text tree n
  pub scopes_zero : scopes' ≡ zeroed 0 k scopes
  pub notes_zero : notes' ≡ zeroed 0 k notes

-- TYPE or DOUBLE at the node's place
abbrev pub refusal_at : List ℕ → Flaw → Refusal
refusal_at tree (flaw.«Type» node) = «Type» (place_at tree node)
refusal_at tree (flaw.Double node) = Double (place_at tree node)

abbrev pub verdict_at : List ℕ → Result (Unit {0}) Flaw → Verdict
verdict_at tree (Ok accepted) = Ok tt
verdict_at tree (Err f) = Err (refusal_at tree f)

-- the tree, or zeros
abbrev pub tree_left : ℕ → List ℕ → Result (Unit {0}) Flaw → List ℕ
tree_left k tree (Ok accepted) = tree
tree_left k tree (Err f) = zeroed 0 k tree

pub record Judging (k : ℕ) (text tree : List ℕ) (n : ℕ) (scopes notes : List ℕ) (r : Verdict) (tree' scopes' notes' : List ℕ) : Type 0 where
  pub answer : r ≡ verdict_at (take k tree) (refused_node k text (take k tree) n)
  pub left_tree : tree' ≡ tree_left k tree (refused_node k text (take k tree) n)
  pub scopes_zero : scopes' ≡ zeroed 0 k scopes
  pub notes_zero : notes' ≡ zeroed 0 k notes
