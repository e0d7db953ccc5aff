-- What stands in a program after codes were written.
use mathlib.Core.Path.{◌≡◌, refl, sym, ap, ◌∙◌}
use mathlib.Core.Bool.{Bool, true, false}
use mathlib.Core.List.{List, [], ◌∷◌, ◌++◌}
use Prim.Native.Nat.{ℕ, zero, suc, ◌+◌, ◌≤◌, ◌<◌}
use native.Mathlib.Omega.{arith}
use borrow.Author.Tests.{lt-ltb, le-ltb, ltb-true, ltb-false}
use lib.Dec.{ltb}
use lib.ListN.{length, get_or, take, drop, length-set, length-take, get_or-eq_default}
use lib.Seq.{get_or-set_same, get_or-set_other, get_or-take, get_or-drop, take-set-le}
use Rattle.machine.specs.Entries.{pick}
use Rattle.machine.specs.Program.{tree_in, codes_in, bounds_in}
use Rattle.coding.specs.Pen.{Pen, pen, stored, writes}

-- ---- the parts of a program

pub tree_read : (p : List ℕ) (i : ℕ) → i < 4096 → get_or p i 0 ≡ get_or (tree_in p) i 0
unfolding tree_in
tree_read p i h = sym (get_or-take 4096 p i 0 h)

pub tree_past : (p : List ℕ) (i : ℕ) → 4096 ≤ i → 0 ≡ get_or (tree_in p) i 0
unfolding tree_in
tree_past p i h = sym (get_or-eq_default (take 4096 p) 0 (let l = length-take 4096 p in omega (arith, l, h)))

pub code_read : (p : List ℕ) (i : ℕ) → i < 4096 → get_or (codes_in p) i 0 ≡ get_or p (4096 + i) 0
unfolding codes_in
code_read p i h = get_or-take 4096 (drop 4096 p) i 0 h ∙ get_or-drop 4096 p i 0

pub code_past : (p : List ℕ) (i : ℕ) → 4096 ≤ i → get_or (codes_in p) i 0 ≡ 0
unfolding codes_in
code_past p i h = get_or-eq_default (take 4096 (drop 4096 p)) 0 (let l = length-take 4096 (drop 4096 p) in omega (arith, l, h))

pub tree_stored : (p : List ℕ) (i c : ℕ) → tree_in (stored p i c) ≡ tree_in p
unfolding tree_in stored
tree_stored p i c = take-set-le 4096 p (4096 + i) c (omega arith)

pub bounds_stored : (p : List ℕ) (i c : ℕ) → i < 4096 → bounds_in (stored p i c) ≡ bounds_in p
unfolding bounds_in stored
bounds_stored p i c h =
    rw (
      get_or-set_other p (4096 + i) 8192 c 0 (λ e. omega (arith, e, h)),
      get_or-set_other p (4096 + i) 8193 c 0 (λ e. omega (arith, e, h)),
      get_or-set_other p (4096 + i) 8194 c 0 (λ e. omega (arith, e, h)),
    )

pub length_stored : (p : List ℕ) (i c : ℕ) → length (stored p i c) ≡ length p
unfolding stored
length_stored p i c = length-set p (4096 + i) c

-- ---- writing

pub writes_nil : (w : Pen) → writes w [] ≡ w
unfolding writes
writes_nil w = refl

pub writes_one : (w : Pen) (c : ℕ) (l : List ℕ) → w.at < 4096 → writes w (c ∷ l) ≡ writes (pen (stored w.prog w.at c) (suc w.at)) l
unfolding writes pick
writes_one w c l h = rw (lt-ltb w.at 4096 h)

pub writes_full : (w : Pen) (l : List ℕ) → 4096 ≤ w.at → writes w l ≡ w
unfolding writes pick
writes_full w [] h = refl
writes_full w (c ∷ l) h = rw (le-ltb w.at 4096 h)

-- what holds of a pen whatever is written with it
module _ (P : Pen → Type 0) (on : (w : Pen) (c : ℕ) → w.at < 4096 → P w → P (pen (stored w.prog w.at c) (suc w.at))) where
  pub writes_keep : (w : Pen) (l : List ℕ) → P w → P (writes w l)
  unfolding writes pick
  writes_keep w [] h = h
  writes_keep w (c ∷ l) h = by (ltb w.at 4096) (λ e. writes_keep (pen (stored w.prog w.at c) (suc w.at)) l (on w c (ltb-true w.at 4096 e) h))
    where
      by : (t : Bool) → (t ≡ true → P (writes (pen (stored w.prog w.at c) (suc w.at)) l)) →
          P (pick t (λ _. writes (pen (stored w.prog w.at c) (suc w.at)) l) λ _. w)
      by true e = e refl
      by false e = h

pub writes_tree : (w : Pen) (l : List ℕ) → tree_in (writes w l).prog ≡ tree_in w.prog
writes_tree w l = writes_keep (λ v. tree_in v.prog ≡ tree_in w.prog) (λ v c h e. tree_stored v.prog v.at c ∙ e) w l refl

pub writes_bounds : (w : Pen) (l : List ℕ) → bounds_in (writes w l).prog ≡ bounds_in w.prog
writes_bounds w l = writes_keep (λ v. bounds_in v.prog ≡ bounds_in w.prog) (λ v c h e. bounds_stored v.prog v.at c h ∙ e) w l refl

pub writes_on : (w : Pen) (l : List ℕ) → w.at ≤ (writes w l).at
writes_on w l = writes_keep (λ v. w.at ≤ v.at) (λ v c h e. omega (arith, h, e)) w l (omega arith)

pub writes_most : (w : Pen) (l : List ℕ) → w.at ≤ 4096 → (writes w l).at ≤ 4096
writes_most w l h = writes_keep (λ v. v.at ≤ 4096) (λ v c h e. omega (arith, h, e)) w l h

pub writes_append : (w : Pen) (a b : List ℕ) → writes w (a ++ b) ≡ writes (writes w a) b
unfolding writes pick
writes_append w [] b = refl
writes_append w (c ∷ a) b =
    by (ltb w.at 4096) (writes_append (pen (stored w.prog w.at c) (suc w.at)) a b) (λ e. writes_full w b (ltb-false w.at 4096 e))
  where
    by : (t : Bool) →
        writes (pen (stored w.prog w.at c) (suc w.at)) (a ++ b) ≡ writes (writes (pen (stored w.prog w.at c) (suc w.at)) a) b →
        (t ≡ false → writes w b ≡ w) →
        pick t (λ _. writes (pen (stored w.prog w.at c) (suc w.at)) (a ++ b)) (λ _. w) ≡
        writes (pick t (λ _. writes (pen (stored w.prog w.at c) (suc w.at)) a) λ _. w) b
    by true e f = e
    by false e f = sym (f refl)

-- a code that is written, then codes behind it
pub writes_node : (p : List ℕ) (i c : ℕ) (a b : List ℕ) → i < 4096 → writes (pen p i) (c ∷ a ++ b) ≡ writes (writes (pen (stored p i c) (i + 1)) a) b
writes_node p i c a b h =
    writes_one (pen p i) c (a ++ b) h ∙ (ap (λ (j : ℕ). writes (pen (stored p i c) j) (a ++ b)) (omega arith) ∙ writes_append (pen (stored p i c) (i + 1)) a b)

-- what is written is read back: before the pen nothing changes, behind it the codes stand, and zeros where there were zeros
pub written_before : (w : Pen) (l : List ℕ) (j : ℕ) → j < w.at → get_or (writes w l).prog (4096 + j) 0 ≡ get_or w.prog (4096 + j) 0
unfolding stored
written_before w l j h =
    (writes_keep (λ v. (w.at ≤ v.at) × (get_or v.prog (4096 + j) 0 ≡ get_or w.prog (4096 + j) 0)) step w l (omega arith, refl)).1
  where
    step : (v : Pen) (c : ℕ) → v.at < 4096 → (w.at ≤ v.at) × (get_or v.prog (4096 + j) 0 ≡ get_or w.prog (4096 + j) 0) →
        (w.at ≤ suc v.at) × (get_or (stored v.prog v.at c) (4096 + j) 0 ≡ get_or w.prog (4096 + j) 0)
    step v c r e = (omega (arith, e.0), get_or-set_other v.prog (4096 + v.at) (4096 + j) c 0 (λ q. omega (arith, q, e.0, h)) ∙ e.1)

pub written_behind : (w : Pen) (l : List ℕ) (j : ℕ) → w.at + j < 4096 → 8192 ≤ length w.prog → ((k : ℕ) → w.at + k < 4096 → get_or w.prog (4096 + (w.at + k)) 0 ≡ 0) →
    get_or (writes w l).prog (4096 + (w.at + j)) 0 ≡ get_or l j 0
unfolding writes pick stored
written_behind w [] j h n z = z j h
written_behind w (c ∷ l) zero h n z =
    rw (lt-ltb w.at 4096 (omega (arith, h))) (ap (λ (k : ℕ). get_or (writes (pen (stored w.prog w.at c) (suc w.at)) l).prog k 0) (omega arith) ∙
    (written_before (pen (stored w.prog w.at c) (suc w.at)) l w.at (omega arith) ∙ here))
  where
    here : get_or (stored w.prog w.at c) (4096 + w.at) 0 ≡ c
    here = get_or-set_same w.prog (4096 + w.at) c 0 (omega (arith, h, n))
written_behind w (c ∷ l) (suc j) h n z =
    rw (lt-ltb w.at 4096 (omega (arith, h))) (ap (λ (k : ℕ). get_or (writes (pen (stored w.prog w.at c) (suc w.at)) l).prog k 0) (omega arith) ∙
    written_behind (pen (stored w.prog w.at c) (suc w.at)) l j (omega (arith, h)) (let e = length_stored w.prog w.at c in omega (arith, e, n)) zeros)
  where
    zeros : (k : ℕ) → suc w.at + k < 4096 → get_or (stored w.prog w.at c) (4096 + (suc w.at + k)) 0 ≡ 0
    zeros k r =
        get_or-set_other w.prog (4096 + w.at) (4096 + (suc w.at + k)) c 0 (λ q. omega (arith, q)) ∙
        (ap (λ (m : ℕ). get_or w.prog m 0) (omega arith) ∙ z (suc k) (omega (arith, r)))
