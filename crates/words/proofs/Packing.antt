-- Words of bytes 1 to 255 are the same exactly where their numbers are: so a key word is found by its number.
use mathlib.Core.Path.{◌≡◌, refl, sym, ap, subst, ◌∙◌}
use mathlib.Core.Bool.{Bool, true, false, ◌&&◌, ◌||◌, cond}
use mathlib.Core.List.{List, [], ◌∷◌, reverse, reverse_aux, reverse-reverse}
use mathlib.Core.Option.{Option, some}
use Prim.Native.Nat.{ℕ, ◌+◌, ◌*◌, ◌≤◌, ◌<◌, min}
use native.Mathlib.Omega.{arith}
use lib.Dec.{T, leb, eqb, leb→le}
use borrow.Author.Tests.{leb-true, leb-false, eq-eqb, ne_eqb}
use Rattle.language.specs.Bytes.{bytes_of, same_bytes}
use Rattle.language.specs.Words.{Mark, Spelling, means, is_letter, is_digit, is_plain, stretch, key_words, mark_of}
use Rattle.language.proofs.Typing.Names.{same_names}
use Rattle.std.specs.Prelude as code
use Rattle.words.specs.declared.Mark as words
use Rattle.words.specs.Marks.{mark_for, marked, pack, cap, mark_packed}

-- ---- tests
both : (a b : Bool) → T (a && b) → T a × T b
both true b t = (tt, t)
both false b t = absurd t

true_is : (t : Bool) → t ≡ true → T t
true_is t e = subst T (sym e) tt

-- ---- bytes 1 to 255
record Byte (b : ℕ) : Type 0 where
  low : 1 ≤ b
  high : b ≤ 255

data Bytes : List ℕ → Type 0 where
  nil : Bytes []
  cons : {b : ℕ} {s : List ℕ} → Byte b → Bytes s → Bytes (b ∷ s)

turned : {l r : List ℕ} → Bytes l → Bytes r → Bytes (reverse_aux l r)
turned nil q = q
turned (cons h p) q = turned p (cons h q)

-- ---- the number, last byte first
little : List ℕ → ℕ
little [] = 0
little (b ∷ s) = little s * 256 + b

pack_little : (l r : List ℕ) → pack (little r) l ≡ little (reverse_aux l r)
unfolding little
pack_little [] r = refl
pack_little (b ∷ l) r = pack_little l (b ∷ r)

little_one : {l r : List ℕ} → Bytes l → Bytes r → little l ≡ little r → l ≡ r
unfolding little
little_one nil nil e = refl
little_one nil (cons h q) e = absurd (omega (arith, h.low))
little_one (cons h p) nil e = absurd (omega (arith, h.low))
little_one (cons {b = a} {s = s} h p) (cons {b = b} {s = t} k q) e =
    let x : a ≡ b = omega (arith, h.high, k.high) in
    let y : little s ≡ little t = omega (arith, h.high, k.high) in
    rw (x, little_one p q y) refl

pack_one : {l r : List ℕ} → Bytes l → Bytes r → pack 0 l ≡ pack 0 r → l ≡ r
unfolding little
pack_one {l} {r} p q e =
    let z : reverse l ≡ reverse r = little_one (turned p nil) (turned q nil) (sym (pack_little l []) ∙ e ∙ pack_little r []) in
    sym (reverse-reverse l) ∙ ap reverse z ∙ reverse-reverse r

-- ---- the same bytes, the same number
same_packed : {l r : List ℕ} → Bytes l → Bytes r → eqb (pack 0 l) (pack 0 r) ≡ same_bytes r l
same_packed {l} {r} p q = by (same_bytes r l) refl
  where
    by : (t : Bool) → same_bytes r l ≡ t → eqb (pack 0 l) (pack 0 r) ≡ t
    by true e = eq-eqb (pack 0 l) (pack 0 r) (ap (pack 0) (sym ((same_names r l).0 (true_is _ e))))
    by false e =
        ne_eqb (pack 0 l) (pack 0 r) (λ z. subst T e ((same_names r l).1 (sym (pack_one p q z))))

-- ---- a table of spellings: bytes 1 to 255, packed below the cap
abbrev good : List ℕ → Bool
good [] = true
good (b ∷ s) = (leb 1 b && leb b 255) && good s

abbrev tabled : List Spelling → Bool
tabled [] = true
tabled (means t m ∷ ms) = (good (bytes_of t) && leb (pack 0 (bytes_of t) + 1) cap) && tabled ms

good_bytes : (l : List ℕ) → T (good l) → Bytes l
good_bytes [] t = nil
good_bytes (b ∷ l) t =
    let p = both (leb 1 b && leb b 255) (good l) t in
    let q = both (leb 1 b) (leb b 255) p.0 in
    cons (record { low = leb→le 1 b q.0; high = leb→le b 255 q.1 }) (good_bytes l p.1)

eqb_kept : (n x : ℕ) → x < cap → eqb (min n cap) x ≡ eqb n x
eqb_kept n x h = by (leb n cap) refl
  where
    by : (t : Bool) → leb n cap ≡ t → eqb (min n cap) x ≡ eqb n x
    by true e =
        let l = leb-true n cap e in
        let z : min n cap ≡ n = omega arith in
        ap (λ (m : ℕ). eqb m x) z
    by false e =
        let l = leb-false n cap e in
        ne_eqb (min n cap) x (λ q. omega arith) ∙ sym (ne_eqb n x (λ q. omega arith))

found : (t : Bool) (m : Mark) (n : code.Option words.Mark) (o : Option Mark) → n ≡ marked o → cond t (code.Some (mark_for m)) n ≡ marked (cond t (some m) o)
found true m n o e = refl
found false m n o e = e

in_table : (w : List ℕ) → Bytes w → (ms : List Spelling) → T (tabled ms) → mark_packed (min (pack 0 w) cap) ms ≡ marked (mark_of ms w)
in_table w p [] t = refl
in_table w p (means s m ∷ ms) t =
    let h = both (good (bytes_of s) && leb (pack 0 (bytes_of s) + 1) cap) (tabled ms) t in
    let g = both (good (bytes_of s)) (leb (pack 0 (bytes_of s) + 1) cap) h.0 in
    let below : pack 0 (bytes_of s) < cap = omega (arith, leb→le (pack 0 (bytes_of s) + 1) cap g.1) in
    rw (eqb_kept (pack 0 w) (pack 0 (bytes_of s)) below, same_packed p (good_bytes (bytes_of s) g.0))
    (found (same_bytes (bytes_of s) w) m _ (mark_of ms w) (in_table w p ms h.1))

-- ---- letters and digits
or_case : (u v : Bool) {P : Type 0} → (T u → P) → (T v → P) → T (u || v) → P
or_case true v f g t = f tt
or_case false v f g t = g t

span : (b lo hi : ℕ) → 1 ≤ lo → hi ≤ 255 → T (leb lo b && leb b hi) → Byte b
span b lo hi p q t =
    let h = both (leb lo b) (leb b hi) t in
    let x = leb→le lo b h.0 in
    let y = leb→le b hi h.1 in
    record { low = omega arith; high = omega arith }

plain_byte : (b : ℕ) → T (is_plain b) → Byte b
plain_byte b t =
    or_case (is_letter b) (is_digit b)
    (or_case (leb 65 b && leb b 90) (leb 97 b && leb b 122) (span b 65 90 (omega arith) (omega arith)) (span b 97 122 (omega arith) (omega arith)))
    (span b 48 57 (omega arith) (omega arith)) t

plain_bytes : (w : List ℕ) → stretch is_plain w ≡ w → Bytes w
plain_bytes [] e = nil
plain_bytes (b ∷ w) e = by (is_plain b) refl e (plain_bytes w)
  where
    by : (t : Bool) → is_plain b ≡ t → cond t (b ∷ stretch is_plain w) [] ≡ b ∷ w → (stretch is_plain w ≡ w → Bytes w) → Bytes (b ∷ w)
    by true f e' more = let z : stretch is_plain w ≡ w = cc in cons (plain_byte b (true_is _ f)) (more z)
    by false f e' more = let z : ◌≡◌ {A = ℕ} 0 1 = cc in absurd (omega arith)

-- a word of letters and digits is a key word exactly where its number is in the table
pub key_word_lem : (w : List ℕ) → stretch is_plain w ≡ w → mark_packed (min (pack 0 w) cap) key_words ≡ marked (mark_of key_words w)
key_word_lem w e = in_table w (plain_bytes w e) key_words tt
