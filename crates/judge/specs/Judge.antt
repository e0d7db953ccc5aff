-- The backward pass: a note for each node, the last first, and the first refused node in the order in which nodes end.
-- A node with the note 65536 or 131072 has only fine nodes below it, so none of these is below another, and the first of them in the text ends first.
use Rattle.std.specs.Prelude.{ℕ, zero, suc, ◌+◌, ◌-◌, ◌%◌, Bool, true, false, List, eqb, length, get_or, set}
use Rattle.judge.specs.Scopes.{pick, kind_at, child_at, next_at, scopes_of}
use Rattle.judge.specs.Rules.{own_by}

-- every node of a row from y on has a note that is no refusal
unfoldable pub fine_from : List ℕ → List ℕ → ℕ → ℕ → Bool
fine_from t N zero y = true
fine_from t N (suc n) y =
    pick (eqb y 0) (λ _. true) λ _.
    pick (eqb (get_or N y 0 % 65536) 0) (λ _. false) λ _. fine_from t N n (next_at t y)

-- what is no type and no outcome is a refusal
unfoldable pub ruled : ℕ → ℕ
ruled r = pick (eqb r 131072) (λ _. r) λ _. pick (eqb (r % 65536) 0) (λ _. 65536) λ _. r

-- the note of a node that is refused itself
unfoldable pub refuses : ℕ → Bool
refuses r = pick (eqb r 65536) (λ _. true) λ _. eqb r 131072

-- the note of the node i
unfoldable pub note_of : List ℕ → List ℕ → List ℕ → List ℕ → ℕ → ℕ
note_of x t S N i = pick (fine_from t N (length t) (child_at t i)) (λ _. ruled (own_by (kind_at t i) x t S N i)) λ _. 0

-- the answer so far, and the notes: 0, or the number after the refused node's, and for a doubled parameter 65536 more
pub record Judged : Type 0 where
  pub at : ℕ
  pub notes : List ℕ

abbrev pub judged : ℕ → List ℕ → Judged
judged at N = record { at = at; notes = N }

-- the answer after the node i got the note r
unfoldable pub answer : ℕ → ℕ → ℕ → ℕ
answer r i at = pick (refuses r) (λ _. r + i - 65535) λ _. at

-- the nodes below i, the last first
unfoldable pub judge_down : List ℕ → List ℕ → List ℕ → ℕ → ℕ → List ℕ → Judged
judge_down x t S zero at N = record { at = at; notes = N }
judge_down x t S (suc i) at N = judge_down x t S i (answer (note_of x t S N i) i at) (set N i (note_of x t S N i))

-- both passes over the first n nodes
unfoldable pub verdict_of : List ℕ → List ℕ → ℕ → List ℕ → List ℕ → ℕ
verdict_of x t n S N = (judge_down x t (scopes_of x t n S) n 0 N).at
