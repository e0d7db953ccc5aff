-- One more round of each loop's definition, where `i` rounds of `n` are over, a command that is not the last, what the answers are, and both passes together.
use Prim.Native.Nat.{ℕ, zero, suc, ◌+◌, ◌-◌, ◌<◌, ◌≤◌}
use mathlib.Core.Path.{◌≡◌, refl, sym, ap, ◌∙◌}
use mathlib.Core.Bool.{Bool, true, false, true≢false}
use mathlib.Core.List.{List}
use native.Mathlib.Omega.{arith}
use Rattle.std.proofs.Common.{rules}
use lib.Dec.{ltb}
use lib.ListN.{get_or, set}
use borrow.Author.Tests.{ne_eqb}
use Rattle.std.specs.Prelude.{Option, Some, IfSome}
use Rattle.judge.specs.Scopes.{pick, next_at, scopes_of}
use Rattle.judge.specs.Rules.{last_from, goes_with, flow_from}
use Rattle.judge.specs.Judge.{fine_from, judge_down, answer, note_of, Judged, judged, verdict_of}
use Rattle.nodes.specs.Nodes.{some_node}
use Rattle.nodes.proofs.Found.{is_some}

left : (n i : ℕ) → i < n → n - i ≡ suc (n - (i + 1))
left n i h = omega arith

over : (n i : ℕ) → n ≤ i → n - i ≡ 0
over n i h = omega arith

module _ (n i : ℕ) (h : i < n) where
  pub last_more : (t : List ℕ) (y : ℕ) → last_from t (n - i) y ≡ last_from t (suc (n - (i + 1))) y
  last_more t y = ap (λ j. last_from t j y) (left n i h)

  pub flow_more : (t N : List ℕ) (s y : ℕ) → flow_from t N (n - i) s y ≡ flow_from t N (suc (n - (i + 1))) s y
  flow_more t N s y = ap (λ j. flow_from t N j s y) (left n i h)

  pub fine_more : (t N : List ℕ) (y : ℕ) → fine_from t N (n - i) y ≡ fine_from t N (suc (n - (i + 1))) y
  fine_more t N y = ap (λ j. fine_from t N j y) (left n i h)

module _ (n i : ℕ) (h : n ≤ i) where
  pub last_end : (t : List ℕ) (y : ℕ) → last_from t (n - i) y ≡ y
  unfolding last_from
  last_end t y = ap (λ j. last_from t j y) (over n i h)

  pub flow_end : (t N : List ℕ) (s y : ℕ) → flow_from t N (n - i) s y ≡ 65536
  unfolding flow_from
  flow_end t N s y = ap (λ j. flow_from t N j s y) (over n i h)

  pub fine_end : (t N : List ℕ) (y : ℕ) → fine_from t N (n - i) y ≡ true
  unfolding fine_from
  fine_end t N y = ap (λ j. fine_from t N j y) (over n i h)

-- a command that is not the last: what it returns goes with what may be returned before it, or not
abbrev going : List ℕ → List ℕ → ℕ → ℕ → Bool
going t N s f = pick (ltb f 196608) (λ _. true) (λ _. goes_with t N s f)

went : (b g : Bool) (h : ℕ → ℕ) (s f : ℕ) → pick b (λ _. true) (λ _. g) ≡ true →
    h (pick b (λ _. s) (λ _. f)) ≡ (pick b (λ _. h s) λ _. pick g (λ _. h f) λ _. 65536)
went true g h s f e = refl
went false g h s f e = rw e

stopped : (b g : Bool) (m n : ℕ) → pick b (λ _. true) (λ _. g) ≡ false → 65536 ≡ (pick b (λ _. m) λ _. pick g (λ _. n) λ _. 65536)
stopped true g m n e = absurd (true≢false e)
stopped false g m n e = rw e

module _ (n i : ℕ) (h : i < n) (t N : List ℕ) (s y : ℕ) {f v : ℕ} {g : Bool} (e : f ≡ get_or N y 0) (d : v ≡ next_at t y) (l : v ≡ 0 → ⊥)
    (p : g ≡ going t N s f) where
  on : flow_from t N (n - i) s y ≡
      (pick (ltb f 196608) (λ _. flow_from t N (n - (i + 1)) s v) λ _. pick (goes_with t N s f) (λ _. flow_from t N (n - (i + 1)) f v) λ _. 65536)
  unfolding flow_from
  on = rw (flow_more n i h t N s y, ← e, ← d, ne_eqb v 0 l)

  pub flow_on : g ≡ true → {r : ℕ} → r ≡ pick (ltb f 196608) (λ _. s) (λ _. f) → flow_from t N (n - (i + 1)) r v ≡ flow_from t N (n - i) s y
  flow_on q o = rw (on, o) (went (ltb f 196608) (goes_with t N s f) (λ x. flow_from t N (n - (i + 1)) x v) s f (sym p ∙ q))

  pub flow_stop : g ≡ false → 65536 ≡ flow_from t N (n - i) s y
  flow_stop q = rw on (stopped (ltb f 196608) (goes_with t N s f) _ _ (sym p ∙ q))

-- where one of two tests holds by itself, the other changes nothing
pub twice : (b : Bool) (m n : ℕ) → pick b (λ _. m) (λ _. n) ≡ (pick b (λ _. m) λ _. pick b (λ _. m) λ _. n)
twice true m n = refl
twice false m n = refl

-- a node's number is not 0, and is as small as what it is taken from
pub not_root : (n : ℕ) {b : ℕ} → Some b ≡ some_node n → b ≡ 0 → ⊥
unfolding some_node
not_root zero h e = absurd cc
not_root (suc n) h e = omega (arith, is_some (suc n) h)

pub small : (n : ℕ) {r : Option ℕ} → r ≡ some_node n → n < 65536 → IfSome r (λ t. t < 65536)
unfolding some_node
small zero e l = rw e (search rules)
small (suc n) e l = rw e l

pub judge_more : (k : ℕ) → 0 < k → (x t S : List ℕ) (at : ℕ) (N : List ℕ) →
    judge_down x t S k at N ≡ judge_down x t S (k - 1) (answer (note_of x t S N (k - 1)) (k - 1) at) (set N (k - 1) (note_of x t S N (k - 1)))
unfolding judge_down
judge_more k h x t S at N = ap (λ j. judge_down x t S j at N) (one k h)
  where
    one : (k : ℕ) → 0 < k → k ≡ suc (k - 1)
    one k h = omega arith

pub judge_end : (k : ℕ) → k ≤ 0 → (x t S : List ℕ) (at : ℕ) (N : List ℕ) → judged at N ≡ judge_down x t S k at N
unfolding judge_down
judge_end zero h x t S at N = refl
judge_end (suc k) h x t S at N = absurd (omega arith)

pub both_passes : (x t : List ℕ) (n r : ℕ) (S N S' N' : List ℕ) → S' ≡ scopes_of x t n S → judged r N' ≡ judge_down x t S' n 0 N → r ≡ verdict_of x t n S N
unfolding verdict_of
both_passes x t n r S N S' N' s j = ap (λ (o : Judged). o.at) j ∙ ap (λ (l : List ℕ). (judge_down x t l n 0 N).at) s
