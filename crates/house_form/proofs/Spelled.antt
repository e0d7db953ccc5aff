-- A word that is spelled is read back, wherever no letter or digit stands behind it.
use mathlib.Core.Path.{◌≡◌, refl, sym, ◌∙◌, ap}
use mathlib.Core.Bool.{Bool, true, false, cond, ◌&&◌, ◌||◌}
use mathlib.Core.List.{List, [], ◌∷◌, ◌++◌}
use mathlib.Core.Option.{Option, none, some}
use Prim.Native.Nat.{ℕ, suc, ◌+◌, ◌-◌, ◌≤◌}
use native.Mathlib.Omega.{arith}
use borrow.Author.Tests.{leb-true, lt-leb, ne_eqb}
use lib.Dec.{eqb, leb}
use lib.IntN.{ℤ, pos, negsuc, neg_ℤ}
use lib.ListN.{length}
use Rattle.language.specs.Syntax.{Name, at}
use Rattle.language.specs.Bytes.{bytes_of}
use Rattle.language.specs.Answers.{NUMBER, Result, refuse}
use Rattle.language.specs.Numbers.{in_range}
use Rattle.language.specs.Words.{Mark, k_lbr, k_rbr, k_lpar, k_rpar, k_semi, k_colon, k_comma, k_star, k_arrow, k_const, k_fun, k_rec, k_var, k_proc, k_echo, k_set, k_if, k_while, k_call, k_return, kif, kand, kor, kbool, kint, kvar, kadr, kvec, kalloc, knth, klen, kvset, Word, mark, number, named, is_sep, is_letter, is_digit, is_plain, stretch, key_words, mark_of, Front, gap, word, bad, spelled, decimal, numeral, minus, front, before, words_from}
use Rattle.house_form.specs.House.{mark_text, digits, spelling}
use Rattle.house_form.proofs.Digits.{whole_tail, whole_before, digits_headed, digits_whole, digits_decimal, digit_range}

-- a name, and a word as a text can have it
abbrev pub NameLike : Name → Type 0
NameLike [] = ⊥
NameLike (b ∷ s) = (is_letter b ≡ true) × (stretch is_plain (b ∷ s) ≡ b ∷ s) × (mark_of key_words (b ∷ s) ≡ none)

abbrev pub Good : Word → Type 0
Good (mark m p) = Unit {0}
Good (number p z) = in_range z ≡ true
Good (named (at p x)) = NameLike x

abbrev pub put : ℕ → Word → Word  -- a word at another place
put i (mark m p) = mark m i
put i (number p z) = number i z
put i (named (at p x)) = named (at i x)

-- ---- which case of `front` a byte meets

pick2 : {A : Type 0} (t u : Bool) (x y z : A) → t ≡ false → u ≡ true → cond t x (cond u y z) ≡ y
pick2 t u x y z p q = rw (p, q)

pick3 : {A : Type 0} (t u v : Bool) (w x y z : A) → t ≡ false → u ≡ false → v ≡ true → cond t w (cond u x (cond v y z)) ≡ y
pick3 t u v w x y z p q r = rw (p, q, r)

no_sep : (b : ℕ) → 33 ≤ b → is_sep b ≡ false
no_sep b h =
    rw (ne_eqb b 32 λ e. omega (arith, e), ne_eqb b 9 λ e. omega (arith, e), ne_eqb b 10 λ e. omega (arith, e), ne_eqb b 13 λ e. omega (arith, e))

letter_range : (b : ℕ) → is_letter b ≡ true → 65 ≤ b
letter_range b e = go (leb 65 b) (leb b 90) (leb 97 b) (leb b 122) refl refl refl refl e
  where
    go : (t u v w : Bool) → leb 65 b ≡ t → leb b 90 ≡ u → leb 97 b ≡ v → leb b 122 ≡ w → ((t && u) || (v && w)) ≡ true → 65 ≤ b
    go true u v w p q r s e = leb-true 65 b p
    go false u true w p q r s e = let h = leb-true 97 b r in omega (arith, h)
    go false u false w p q r s e = let z : ◌≡◌ {A = ℕ} 0 1 = cc in absurd (omega arith)

pub letter_no_digit : (b : ℕ) → is_letter b ≡ true → is_digit b ≡ false
letter_no_digit b l = let r = letter_range b l in go (leb 48 b) (lt-leb b 57 (omega (arith, r)))
  where
    go : (t : Bool) → leb b 57 ≡ false → (t && leb b 57) ≡ false
    go true e = e
    go false e = refl

pub letter_no_minus : (b : ℕ) → is_letter b ≡ true → eqb b 45 ≡ false
letter_no_minus b l = let r = letter_range b l in ne_eqb b 45 λ e. omega (arith, r, e)

no_letter : (b : ℕ) → b ≤ 57 → is_letter b ≡ false
no_letter b h = let p : leb 65 b ≡ false = lt-leb 65 b (omega arith) in let q : leb 97 b ≡ false = lt-leb 97 b (omega arith) in rw (p, q)

-- ---- what begins with a spelled word

pub record Begun (w : Word) (i : ℕ) (rest : List ℕ) : Type 0 where
  pub first : ℕ
  pub more : List ℕ
  pub is : spelling w ≡ first ∷ more
  pub begins : front i first (more ++ rest) ≡ word (put i w) (length more)

module _ (i : ℕ) (rest : List ℕ) (plain : stretch is_plain rest ≡ []) (digit : stretch is_digit rest ≡ []) where
  front_letter : (b : ℕ) (s : List ℕ) → is_letter b ≡ true → stretch is_plain (b ∷ s) ≡ b ∷ s → front i b (s ++ rest) ≡ spelled i (b ∷ s)
  front_letter b s l w =
      let r = letter_range b l in
      pick2 (is_sep b) (is_letter b) _ _ _ (no_sep b (omega (arith, r))) l ∙ ap (spelled i) (whole_before is_plain (b ∷ s) rest w plain)

  spelled_as : (b : ℕ) (s : List ℕ) (o : Option Mark) → mark_of key_words (b ∷ s) ≡ o →
      spelled i (b ∷ s) ≡ elim o as (λ _. Front) [ none ↦ word (named (at i (b ∷ s))) (length s) | some m ↦ word (mark m i) (length s) ]
  spelled_as b s o e =
      let q : length (b ∷ s) - 1 ≡ length s = omega arith in
      ap (λ (o : Option Mark). elim o as (λ _. Front) [ none ↦ word (named (at i (b ∷ s))) (length (b ∷ s) - 1) | some m ↦ word (mark m i) (length (b ∷ s) - 1) ]) e ∙
      ap (λ (n : ℕ). elim o as (λ _. Front) [ none ↦ word (named (at i (b ∷ s))) n | some m ↦ word (mark m i) n ]) q

  key : (m : Mark) (p b : ℕ) (s : List ℕ) → bytes_of (mark_text m) ≡ b ∷ s → is_letter b ≡ true → stretch is_plain (b ∷ s) ≡ b ∷ s → mark_of key_words (b ∷ s) ≡ some m → Begun (mark m p) i rest
  key m p b s e l w k = record { first = b; more = s; is = e; begins = front_letter b s l w ∙ spelled_as b s (some m) k }

  mark_begun : (m : Mark) (p : ℕ) → Begun (mark m p) i rest
  mark_begun k_lbr p = record { first = 91; more = []; is = refl; begins = refl }
  mark_begun k_rbr p = record { first = 93; more = []; is = refl; begins = refl }
  mark_begun k_lpar p = record { first = 40; more = []; is = refl; begins = refl }
  mark_begun k_rpar p = record { first = 41; more = []; is = refl; begins = refl }
  mark_begun k_semi p = record { first = 59; more = []; is = refl; begins = refl }
  mark_begun k_colon p = record { first = 58; more = []; is = refl; begins = refl }
  mark_begun k_comma p = record { first = 44; more = []; is = refl; begins = refl }
  mark_begun k_star p = record { first = 42; more = []; is = refl; begins = refl }
  mark_begun k_arrow p = record { first = 45; more = 62 ∷ []; is = refl; begins = refl }
  mark_begun k_const p = key k_const p _ _ refl refl refl refl
  mark_begun k_fun p = key k_fun p _ _ refl refl refl refl
  mark_begun k_rec p = key k_rec p _ _ refl refl refl refl
  mark_begun k_var p = key k_var p _ _ refl refl refl refl
  mark_begun k_proc p = key k_proc p _ _ refl refl refl refl
  mark_begun k_echo p = key k_echo p _ _ refl refl refl refl
  mark_begun k_set p = key k_set p _ _ refl refl refl refl
  mark_begun k_if p = key k_if p _ _ refl refl refl refl
  mark_begun k_while p = key k_while p _ _ refl refl refl refl
  mark_begun k_call p = key k_call p _ _ refl refl refl refl
  mark_begun k_return p = key k_return p _ _ refl refl refl refl
  mark_begun kif p = key kif p _ _ refl refl refl refl
  mark_begun kand p = key kand p _ _ refl refl refl refl
  mark_begun kor p = key kor p _ _ refl refl refl refl
  mark_begun kbool p = key kbool p _ _ refl refl refl refl
  mark_begun kint p = key kint p _ _ refl refl refl refl
  mark_begun kvar p = key kvar p _ _ refl refl refl refl
  mark_begun kadr p = key kadr p _ _ refl refl refl refl
  mark_begun kvec p = key kvec p _ _ refl refl refl refl
  mark_begun kalloc p = key kalloc p _ _ refl refl refl refl
  mark_begun knth p = key knth p _ _ refl refl refl refl
  mark_begun klen p = key klen p _ _ refl refl refl refl
  mark_begun kvset p = key kvset p _ _ refl refl refl refl

  name_begun : (p : ℕ) (x : Name) → NameLike x → Begun (named (at p x)) i rest
  name_begun p [] h = absurd h
  name_begun p (b ∷ s) (l, w, k) = record { first = b; more = s; is = refl; begins = front_letter b s l w ∙ spelled_as b s none k }

  in_numeral : (z : ℤ) (m : ℕ) → in_range z ≡ true → numeral i z m ≡ word (number i z) m
  in_numeral z m e = ap (λ (t : Bool). cond t (word (number i z) m) (bad NUMBER)) e

  number_begun : (p : ℕ) (z : ℤ) → in_range z ≡ true → Begun (number p z) i rest
  number_begun p (pos n) e =
      let d = digits_headed n in
      let h = d.head in let r = d.rest in
      let g = digit_range h d.digit in
      let w : stretch is_digit (h ∷ r) ≡ h ∷ r = rw d.is at (digits_whole n) in
      let v : decimal 0 (h ∷ r) ≡ n = rw d.is at (digits_decimal n) in
      record {
        first = h;
        more = r;
        is = d.is;
        begins =
            pick3 (is_sep h) (is_letter h) (is_digit h) _ _ _ _ (no_sep h (omega (arith, g))) (no_letter h g.1) d.digit ∙
            (ap (λ (l : List ℕ). numeral i (pos (decimal 0 l)) (length (stretch is_digit (r ++ rest)))) (whole_before is_digit (h ∷ r) rest w digit) ∙
            (ap (λ (l : List ℕ). numeral i (pos (decimal 0 (h ∷ r))) (length l)) (whole_before is_digit r rest (whole_tail is_digit h r w).1 digit) ∙
            (ap (λ (k : ℕ). numeral i (pos k) (length r)) v ∙ in_numeral (pos n) (length r) e)));
      }
  number_begun p (negsuc n) e =
      let d = digits_headed (suc n) in
      let h = d.head in let r = d.rest in
      let g = digit_range h d.digit in
      let w : stretch is_digit (h ∷ r) ≡ h ∷ r = rw d.is at (digits_whole (suc n)) in
      let v : decimal 0 (h ∷ r) ≡ suc n = rw d.is at (digits_decimal (suc n)) in
      record {
        first = 45;
        more = digits (suc n);
        is = refl;
        begins =
            ap (λ (l : List ℕ). minus i (l ++ rest)) d.is ∙
            (pick2 (eqb h 62) (is_digit h) _ _ _ (ne_eqb h 62 λ q. omega (arith, g, q)) d.digit ∙
            (ap (λ (l : List ℕ). numeral i (neg_ℤ (pos (decimal 0 l))) (length l)) (whole_before is_digit (h ∷ r) rest w digit) ∙
            (ap (λ (k : ℕ). numeral i (neg_ℤ (pos k)) (length (h ∷ r))) v ∙
            (in_numeral (negsuc n) (length (h ∷ r)) e ∙ ap (λ (l : List ℕ). word (number i (negsuc n)) (length l)) (sym d.is)))));
      }

  begun : (w : Word) → Good w → Begun w i rest
  begun (mark m p) g = mark_begun m p
  begun (number p z) g = number_begun p z g
  begun (named (at p x)) g = name_begun p x g

-- ---- and is read

passed : (s rest : List ℕ) (i : ℕ) → words_from (s ++ rest) (length s) i ≡ words_from rest 0 (i + length s)
unfolding words_from
passed [] rest i = let q : i + 0 ≡ i = omega arith in rw q
passed (b ∷ s) rest i = let q : i + suc (length s) ≡ (i + 1) + length s = omega arith in passed s rest (i + 1) ∙ ap (words_from rest 0) (sym q)

first_read : (b : ℕ) (s : List ℕ) (i : ℕ) (w : Word) (m : ℕ) → front i b s ≡ word w m → words_from (b ∷ s) 0 i ≡ before w (words_from s m (i + 1))
unfolding words_from
first_read b s i w m e =
    ap (λ (f : Front). elim f as (λ _. Result (List Word)) [ gap ↦ words_from s 0 (i + 1) | word w more ↦ before w (words_from s more (i + 1)) | bad r ↦ refuse r i ]) e

pub word_back : (w : Word) → Good w → (i : ℕ) (rest : List ℕ) → stretch is_plain rest ≡ [] → stretch is_digit rest ≡ [] →
    words_from (spelling w ++ rest) 0 i ≡ before (put i w) (words_from rest 0 (i + length (spelling w)))
word_back w g i rest plain digit =
    let b = begun i rest plain digit w g in
    let q : (i + 1) + length b.more ≡ i + length (spelling w) = rw b.is (omega arith) in
    ap (λ (l : List ℕ). words_from (l ++ rest) 0 i) b.is ∙
    (first_read b.first (b.more ++ rest) i (put i w) (length b.more) b.begins ∙
    ap (before (put i w)) (passed b.more rest (i + 1) ∙ ap (words_from rest 0) q))
