-- Lines, a byte at a time, and where they lie.
use mathlib.Core.Path.{◌≡◌}
use mathlib.Core.Bool.{Bool, true, false, cond}
use mathlib.Core.List.{List, [], ◌∷◌}
use Prim.Native.Nat.{ℕ, zero, suc, ◌+◌, ◌-◌, ◌≤◌, min}
use native.Mathlib.Numerals.{add-one}
use native.Mathlib.Omega.{arith}
use lib.Dec.{eqb}
use lib.ListN.{length, drop, get_or, length-drop}
use borrow.Author.Tests.{eq-eqb, ne_eqb}
use Rattle.spots.specs.declared.Spot.{Spot}
use Rattle.spots.specs.Lines.{ends_before, start_of, before_end, end_of, spot_of}

module _ (text : List ℕ) (i : ℕ) where
  pub ends_more : get_or text i 0 ≡ 10 → ends_before text (i + 1) ≡ ends_before text i + 1
  ends_more e = rw (add-one i) (simp (eq-eqb (get_or text i 0) 10 e))

  pub ends_same : (get_or text i 0 ≡ 10 → ⊥) → ends_before text (i + 1) ≡ ends_before text i
  ends_same e = rw (add-one i) (simp (ne_eqb (get_or text i 0) 10 e) (omega arith))

  pub starts_here : get_or text i 0 ≡ 10 → start_of text (i + 1) ≡ i + 1
  starts_here e = rw add-one (simp (eq-eqb (get_or text i 0) 10 e))

  pub starts_before : (get_or text i 0 ≡ 10 → ⊥) → start_of text (i + 1) ≡ start_of text i
  starts_before e = rw add-one (simp (ne_eqb (get_or text i 0) 10 e))

-- ---- a line starts at or before its place, and ends from it on and within the text
start_or : (t : Bool) (p s : ℕ) → s ≤ p → cond t (suc p) s ≤ suc p
start_or true p s h = omega arith
start_or false p s h = omega arith

pub start_le : (text : List ℕ) (p : ℕ) → start_of text p ≤ p
start_le text zero = omega arith
start_le text (suc p) = start_or (eqb (get_or text p 0) 10) p (start_of text p) (start_le text p)

one_at_most : (t : Bool) (n p : ℕ) → n ≤ p → n + cond t 1 0 ≤ suc p
one_at_most true n p h = omega arith
one_at_most false n p h = omega arith

pub ends_le : (text : List ℕ) (p : ℕ) → ends_before text p ≤ p
ends_le text zero = omega arith
ends_le text (suc p) = one_at_most (eqb (get_or text p 0) 10) (ends_before text p) p (ends_le text p)

before_or : (t : Bool) (n m : ℕ) → n ≤ m → cond t 0 (suc n) ≤ suc m
before_or true n m h = omega arith
before_or false n m h = omega arith

before_le : (s : List ℕ) → before_end s ≤ length s
before_le [] = omega arith
before_le (b ∷ s) = before_or (eqb b 10) (before_end s) (length s) (before_le s)

pub end_le : (text : List ℕ) (p : ℕ) → p ≤ length text → end_of text p ≤ length text
end_le text p h = omega (arith, before_le (drop p text), length-drop p text)

-- ---- a spot is made of its parts
pub spot_made : (text : List ℕ) (at place ended start end : ℕ) →
    place ≡ min at (length text) → ended ≡ ends_before text place → start ≡ start_of text place → end ≡ end_of text place →
    record { line = ended + 1; column = place - start + 1; place = place; start = start; end = end } ≡ spot_of text at
spot_made text at place ended start end p e s f = rw (e, s, f, p)

-- a spot's line lies around its place and within the text
pub record Lies (text : List ℕ) (s : Spot) : Type 0 where
  pub first : s.start ≤ s.place
  pub last : s.place ≤ s.end
  pub within : s.end ≤ length text

pub lies : (text : List ℕ) (at : ℕ) {s : Spot} → s ≡ spot_of text at → Lies text s
lies text at {s} e =
    let p = min at (length text) in
    rw e (record { first = start_le text p; last = omega arith; within = end_le text p (omega arith) })
