-- The claims of the two rows.
use mathlib.Core.Path.{◌≡◌, refl, sym, ap, ◌∙◌}
use mathlib.Core.Logic.{inl, inr}
use mathlib.Core.Bool.{Bool, true, false, cond}
use mathlib.Core.List.{List, [], ◌∷◌, ◌++◌, map, append_assoc}
use Prim.Native.Nat.{ℕ, zero, suc, ◌+◌, ◌-◌, ◌<◌}
use native.Mathlib.Nat.{not-suc-le-zero, le_of_suc-le-suc}
use native.Mathlib.Omega.{arith}
use lib.Dec.{eqb, ltb}
use lib.ListN.{length, take, drop, get_or, length-map, get_or-append}
use lib.Seq.{take-append-le, take-append-add, take-take, get_or-append-add, get_or-take, get_or-drop}
use borrow.Author.Tests.{ltb-false}
use Rattle.spots.specs.declared.Spot.{Spot}
use Rattle.spots.specs.Lines.{spot_of}
use Rattle.spots.specs.Shown.{shown, under, part, from_of, to_of, marks, line_around, line_shown, caret_under, caret_shown}
use Rattle.spots.specs.Claims.{Plain, AllPlain, RowsPlain, shown_before, CaretUnder, PlaceShown}
use Rattle.spots.proofs.Lines.{Lies, lies}
use Rattle.spots.proofs.Drawing.{part_length, map_append}

-- ---- what a log may hold
between : (s t : Bool) (b : ℕ) → ltb b 32 ≡ s → ltb 126 b ≡ t → Plain (cond s 63 (cond t 63 b))
between true t b e f = inr (omega arith, omega arith)
between false true b e f = inr (omega arith, omega arith)
between false false b e f = inr (ltb-false b 32 e, ltb-false 126 b f)

shown_plain : (b : ℕ) → Plain (shown b)
shown_plain b = by (eqb b 9) (eqb b 13)
  where
    by : (s t : Bool) → Plain (cond s 9 (cond t 32 (cond (ltb b 32) 63 (cond (ltb 126 b) 63 b))))
    by true t = inl refl
    by false true = inr (omega arith, omega arith)
    by false false = between (ltb b 32) (ltb 126 b) b refl refl

under_plain : (b : ℕ) → Plain (under b)
under_plain b = by (eqb b 9)
  where
    by : (t : Bool) → Plain (cond t 9 32)
    by true = inl refl
    by false = inr (omega arith, omega arith)

map_plain : (f : ℕ → ℕ) → ((b : ℕ) → Plain (f b)) → (l : List ℕ) → AllPlain (map f l)
map_plain f h [] = tt
map_plain f h (b ∷ l) = (h b, map_plain f h l)

append_plain : (a b : List ℕ) → AllPlain a → AllPlain b → AllPlain (a ++ b)
append_plain [] b p q = q
append_plain (x ∷ a) b p q = (p.0, append_plain a b p.1 q)

marks_plain : (t : Bool) (b : ℕ) → Plain b → AllPlain (marks t b)
marks_plain true b p = (p, (p, tt))
marks_plain false b p = tt

line_plain : (text : List ℕ) (s : Spot) → AllPlain (line_around text s)
line_plain text s =
    let from = from_of s.start s.place in
    let to = to_of s.place s.end in
    let dot : Plain 46 = inr (omega arith, omega arith) in
    append_plain (marks (ltb s.start from) 46) (map shown (part text from to) ++ marks (ltb to s.end) 46)
    (marks_plain (ltb s.start from) 46 dot)
    (append_plain (map shown (part text from to)) (marks (ltb to s.end) 46) (map_plain shown shown_plain (part text from to))
    (marks_plain (ltb to s.end) 46 dot))

caret_plain : (text : List ℕ) (s : Spot) → AllPlain (caret_under text s)
caret_plain text s =
    let from = from_of s.start s.place in
    let blank : Plain 32 = inr (omega arith, omega arith) in
    let caret : Plain 94 = inr (omega arith, omega arith) in
    append_plain (marks (ltb s.start from) 32) (map under (part text from s.place) ++ (94 ∷ []))
    (marks_plain (ltb s.start from) 32 blank)
    (append_plain (map under (part text from s.place)) (94 ∷ []) (map_plain under under_plain (part text from s.place)) (caret, tt))

pub rows_plain : RowsPlain
unfolding line_shown caret_shown
rows_plain text at = (line_plain text (spot_of text at), caret_plain text (spot_of text at))

-- ---- the caret and the place
map_take : (f : ℕ → ℕ) (n : ℕ) (l : List ℕ) → take n (map f l) ≡ map f (take n l)
map_take f zero l = refl
map_take f (suc n) [] = refl
map_take f (suc n) (b ∷ l) = ap (λ (m : List ℕ). f b ∷ m) (map_take f n l)

under_shown : (b : ℕ) → under (shown b) ≡ under b
under_shown b = by (eqb b 9) (eqb b 13) (ltb b 32) (ltb 126 b) refl
  where
    by : (s t u v : Bool) → eqb b 9 ≡ s → under (cond s 9 (cond t 32 (cond u 63 (cond v 63 b)))) ≡ cond s 9 32
    by true t u v e = refl
    by false true u v e = refl
    by false false true v e = refl
    by false false false true e = refl
    by false false false false e = ap (λ (k : Bool). cond k 9 32) e

map_under : (l : List ℕ) → map under (map shown l) ≡ map under l
map_under [] = refl
map_under (b ∷ l) = rw (under_shown b) (ap (λ (m : List ℕ). under b ∷ m) (map_under l))

marks_under : (t : Bool) → map under (marks t 46) ≡ marks t 32
marks_under true = refl
marks_under false = refl

shown_at_lem : (l : List ℕ) (n : ℕ) → n < length l → get_or (map shown l) n 0 ≡ shown (get_or l n 0)
shown_at_lem [] n h = absurd (not-suc-le-zero h)
shown_at_lem (b ∷ l) zero h = refl
shown_at_lem (b ∷ l) (suc n) h = shown_at_lem l n (le_of_suc-le-suc h)

module _ (text : List ℕ) (s : Spot) (h : Lies text s) where
  abbrev from : ℕ
  from = from_of s.start s.place

  abbrev to : ℕ
  to = to_of s.place s.end

  abbrev head : List ℕ
  head = marks (ltb s.start from) 46

  abbrev tail : List ℕ
  tail = marks (ltb to s.end) 46

  shown_long : length (map shown (part text from to)) ≡ to - from
  shown_long = length-map (part text from to) shown ∙ part_length text from to (omega (arith, h))

  shown_front : take (s.place - from) (map shown (part text from to)) ≡ map shown (part text from s.place)
  shown_front =
      map_take shown (s.place - from) (part text from to) ∙
      ap (λ (l : List ℕ). map shown l) (take-take (s.place - from) (to - from) (drop from text) (omega (arith, h)))

  line_front : take (shown_before s) (line_around text s) ≡ head ++ map shown (part text from s.place)
  line_front =
      take-append-add head (map shown (part text from to) ++ tail) (s.place - from) ∙
      ap (λ (l : List ℕ). head ++ l)
      (take-append-le (s.place - from) (map shown (part text from to)) tail (omega (arith, h, shown_long)) ∙ shown_front)

  caret_is : caret_under text s ≡ map under (take (shown_before s) (line_around text s)) ++ (94 ∷ [])
  caret_is =
      let e : map under (take (shown_before s) (line_around text s)) ≡ marks (ltb s.start from) 32 ++ map under (part text from s.place) =
      ap (λ (l : List ℕ). map under l) line_front ∙ map_append under head (map shown (part text from s.place)) ∙
      rw (marks_under (ltb s.start from), map_under (part text from s.place)) refl in
      sym (ap (λ (l : List ℕ). l ++ (94 ∷ [])) e ∙ append_assoc (marks (ltb s.start from) 32) (map under (part text from s.place)) (94 ∷ []))

  place_is : s.place < s.end → get_or (line_around text s) (shown_before s) 0 ≡ shown (get_or text s.place 0)
  place_is k =
      let n = s.place - from in
      let m = map shown (part text from to) in
      let g : from + n ≡ s.place = omega (arith, h) in
      get_or-append-add head (m ++ tail) n 0 ∙ get_or-append m tail 0 n (omega (arith, h, shown_long)) ∙
      shown_at_lem (part text from to) n (omega (arith, h, part_length text from to (omega (arith, h)))) ∙
      ap (λ (b : ℕ). shown b) (get_or-take (to - from) (drop from text) n 0 (omega (arith, h)) ∙ get_or-drop from text n 0 ∙ ap (λ (j : ℕ). get_or text j 0) g)

pub caret_under_place : CaretUnder
unfolding line_shown caret_shown
caret_under_place text at = caret_is text (spot_of text at) (lies text at refl)

pub place_shown : PlaceShown
unfolding line_shown
place_shown text at k = place_is text (spot_of text at) (lies text at refl) k
