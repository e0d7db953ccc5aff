-- Adding to the front of a table, part by part, and what it comes to.
use mathlib.Core.Path.{◌≡◌, refl, sym, ap, subst, ◌∙◌}
use mathlib.Core.Bool.{Bool, true, false}
use mathlib.Core.List.{List, [], ◌∷◌, ◌++◌, map, append_assoc, append-nil}
use Prim.Native.Nat.{ℕ, suc, ◌+◌, ◌-◌, ◌≤◌, ◌<◌}
use native.Mathlib.Numerals.{add-one}
use native.Mathlib.Omega.{arith}
use lib.ListN.{length, take, drop, set, get_or, length-append, length-set, length-take, length-drop, length-map}
use lib.Seq.{take-suc, take-suc-set, get_or-drop}
use lib.Dec.{ltb}
use Rattle.spots.specs.declared.Spot.{Spot}
use Rattle.spots.specs.declared.Row.TheVariants.{Line, Caret}
use Rattle.spots.specs.Lines.{spot_of}
use Rattle.spots.specs.Shown.{drawn, part, from_of, to_of, marks, line_around, line_shown, caret_under, caret_shown}
use Rattle.spots.specs.Written.{Added, Written}
use Rattle.spots.proofs.Lines.{lies}

pub added_none : (n : ℕ) (l : List ℕ) → Added n l [] n l
added_none n l = record { count = omega arith; bytes = sym (append-nil (take n l)); size = refl }

pub added_one : (l : List ℕ) (n b : ℕ) → n < length l → Added n l (b ∷ []) (n + 1) (set l n b)
added_one l n b h = record { count = refl; bytes = rw add-one (take-suc-set l n b h); size = length-set l n b }

pub added_then : {n m r : ℕ} {a b c x y : List ℕ} → Added n a x m b → Added m b y r c → Added n a (x ++ y) r c
added_then {n} {m} {r} {a} {b} {c} {x} {y} p q =
    record {
      count = omega (arith, p.count, q.count, length-append x y);
      bytes = q.bytes ∙ ap (λ (l : List ℕ). l ++ y) p.bytes ∙ append_assoc (take n a) x y;
      size = q.size ∙ p.size;
    }

pub unmarked : (t : Bool) (n b : ℕ) (l : List ℕ) → t ≡ false → Added n l (marks t b) n l
unmarked true n b l e = absurd (omega (arith, let z : ◌≡◌ {A = ℕ} 0 1 = cc in z))
unmarked false n b l e = added_none n l

pub marked : (t : Bool) {n m r b : ℕ} {l k j : List ℕ} → t ≡ true → Added n l (b ∷ []) m k → Added m k (b ∷ []) r j → Added n l (marks t b) r j
marked true e p q = added_then p q
marked false e p q = absurd (omega (arith, let z : ◌≡◌ {A = ℕ} 0 1 = cc in z))

pub written : {want : List ℕ} {r : ℕ} {a b : List ℕ} → Added 0 a want r b → length want ≤ length a → Written want r b
written {want} {r} {a} {b} p h =
    record {
      bytes = p.bytes;
      count = omega (arith, p.count);
      within = omega (arith, p.count, p.size);
      long = omega (arith, p.count, ap length p.bytes);
    }

-- ---- a part of a text, drawn byte by byte
pub map_append : (f : ℕ → ℕ) (a b : List ℕ) → map f (a ++ b) ≡ map f a ++ map f b
map_append f [] b = refl
map_append f (x ∷ a) b = ap (λ (l : List ℕ). f x ∷ l) (map_append f a b)

module _ (text : List ℕ) (from to : ℕ) where
  pub part_length : to ≤ length text → length (part text from to) ≡ to - from
  part_length h = omega (arith, length-take (to - from) (drop from text), length-drop from text)

  pub part_more : (i : ℕ) → from ≤ i → i < length text → part text from (i + 1) ≡ part text from i ++ (get_or text i 0 ∷ [])
  part_more i h k =
      let s : i + 1 - from ≡ suc (i - from) = omega arith in
      let g : from + (i - from) ≡ i = omega arith in
      let e : get_or (drop from text) (i - from) 0 ≡ get_or text i 0 = get_or-drop from text (i - from) 0 ∙ ap (λ (j : ℕ). get_or text j 0) g in
      ap (λ (j : ℕ). take j (drop from text)) s ∙ take-suc (drop from text) (i - from) 0 (omega (arith, length-drop from text)) ∙
      ap (λ (b : ℕ). part text from i ++ (b ∷ [])) e

  pub part_none : part text from from ≡ []
  part_none =
      let e : from - from ≡ 0 = omega arith in
      ap (λ (j : ℕ). take j (drop from text)) e

-- the bytes from one place up to i are drawn behind the first n
pub record Drawing (text : List ℕ) (from to : ℕ) (f : ℕ → ℕ) (before : List ℕ) (n : ℕ) (after : List ℕ) (m i : ℕ) : Type 0 where
  pub least : from ≤ i
  pub most : i ≤ to
  pub added : Added n before (map f (part text from i)) m after
  pub count : m ≡ n + (i - from)
  pub size : length after ≡ length before

module _ (text : List ℕ) (from to : ℕ) (f : ℕ → ℕ) (before : List ℕ) (n : ℕ) where
  pub drawing_first : from ≤ to → Drawing text from to f before n before n from
  drawing_first h =
      record {
        least = omega arith;
        most = h;
        added = subst (λ (l : List ℕ). Added n before (map f l) n before) (sym (part_none text from to)) (added_none n before);
        count = omega arith;
        size = refl;
      }

  pub drawing_more : {after next : List ℕ} {m r i b : ℕ} → to ≤ length text → i < to → Drawing text from to f before n after m i →
      b ≡ f (get_or text i 0) → Added m after (b ∷ []) r next → Drawing text from to f before n next r (i + 1)
  drawing_more {after} {next} {m} {r} {i} {b} w h d e p =
      let l : map f (part text from (i + 1)) ≡ map f (part text from i) ++ (b ∷ []) =
      ap (λ (s : List ℕ). map f s) (part_more text from to i d.least (omega arith)) ∙
      map_append f (part text from i) (get_or text i 0 ∷ []) ∙ ap (λ (x : ℕ). map f (part text from i) ++ (x ∷ [])) (sym e) in
      record {
        least = omega (arith, d.least);
        most = omega arith;
        added = subst (λ (s : List ℕ). Added n before s r next) (sym l) (added_then d.added p);
        count = omega (arith, d.count, p.count, d.least);
        size = p.size ∙ d.size;
      }

  pub drawing_done : {after : List ℕ} {m i : ℕ} → to ≤ i → Drawing text from to f before n after m i →
      Added n before (map f (part text from to)) m after
  drawing_done {after} {m} {i} h d =
      let e : i ≡ to = omega (arith, d.most) in
      subst (λ (j : ℕ). Added n before (map f (part text from j)) m after) e d.added

pub marks_few : (t : Bool) (b : ℕ) → length (marks t b) ≤ 2
marks_few true b = omega arith
marks_few false b = omega arith

pub drawn_count : (f : ℕ → ℕ) (text : List ℕ) (from to : ℕ) {b c : List ℕ} {n m : ℕ} →
    to ≤ length text → Added n b (map f (part text from to)) m c → m ≡ n + (to - from)
drawn_count f text from to h p = omega (arith, p.count, length-map (part text from to) f, part_length text from to h)

-- ---- the two rows
module _ (text : List ℕ) (at : ℕ) {s : Spot} {from : ℕ} (e : s ≡ spot_of text at) (f : from ≡ from_of s.start s.place) where
  pub line_written : {to n m r : ℕ} {a b c d : List ℕ} → to ≡ to_of s.place s.end → Added 0 a (marks (ltb s.start from) 46) n b →
      Added n b (map (drawn Line) (part text from to)) m c → Added m c (marks (ltb to s.end) 46) r d → length a ≡ 128 →
      Written (line_shown text at) r d
  unfolding line_shown
  line_written {to} {n} {m} {r} {a} {b} {c} {d} g p q t h =
      let l = lies text at e in
      let w : line_around text s ≡ marks (ltb s.start from) 46 ++ (map (drawn Line) (part text from to) ++ marks (ltb to s.end) 46) =
      rw (f, g) in
      let k : Added 0 a (line_around text s) r d = rw w (added_then p (added_then q t)) in
      subst (λ (v : Spot). Written (line_around text v) r d) e
      (written k
      (omega
      (arith, k.count, p.count, t.count, marks_few (ltb s.start from) 46, marks_few (ltb to s.end) 46, drawn_count (drawn Line) text from to (omega arith) q)))

  pub caret_written : {n m r : ℕ} {a b c d : List ℕ} → Added 0 a (marks (ltb s.start from) 32) n b →
      Added n b (map (drawn Caret) (part text from s.place)) m c → Added m c (94 ∷ []) r d → length a ≡ 128 →
      Written (caret_shown text at) r d
  unfolding caret_shown
  caret_written {n} {m} {r} {a} {b} {c} {d} p q t h =
      let l = lies text at e in
      let w : caret_under text s ≡ marks (ltb s.start from) 32 ++ (map (drawn Caret) (part text from s.place) ++ (94 ∷ [])) = rw f in
      let k : Added 0 a (caret_under text s) r d = rw w (added_then p (added_then q t)) in
      subst (λ (v : Spot). Written (caret_under text v) r d) e
      (written k
      (omega (arith, k.count, p.count, t.count, marks_few (ltb s.start from) 32, drawn_count (drawn Caret) text from s.place (omega arith) q)))
