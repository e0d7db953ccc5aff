-- What begins at a place, by its first byte: the code's answers against the language's.
use mathlib.Core.Path.{◌≡◌, refl, sym, ap, subst, ◌∙◌}
use mathlib.Core.Bool.{Bool, true, false, cond, ◌||◌}
use mathlib.Core.List.{List, [], ◌∷◌}
use mathlib.Core.Option.{Option, none, some}
use Prim.Native.Nat.{ℕ, suc, ◌+◌, ◌-◌, ◌≤◌, ◌<◌}
use native.Mathlib.Numerals.{add-one}
use native.Mathlib.Omega.{arith}
use lib.Dec.{T, eqb}
use lib.IntN.{ℤ, pos, neg_ℤ}
use lib.ListN.{length, drop, get_or, drop_of_length-le}
use lib.Seq.{drop-cons, drop-drop}
use borrow.Author.Tests.{eq-eqb, ne_eqb}
use Rattle.language.specs.Answers.{BYTE, NUMBER}
use Rattle.language.specs.Numbers.{in_range}
use Rattle.language.specs.Syntax.{at}
use Rattle.language.specs.Words.{Mark, k_arrow}
use Rattle.language.specs.Words.{mark, number, named, is_sep, is_letter, is_digit, is_plain, stretch, symbols, key_words, mark_of}
use Rattle.language.specs.Words.{Front, gap, word, bad, spelled, decimal, numeral, minus, symbol, front, name_at}
use Rattle.numerals.specs.Written.{written, number_front, read_number}
use Rattle.amounts.specs.declared.AmountError.TheVariants.{Range}
use Rattle.numerals.proofs.Fronts.{at_front, digit_no_gap, digit_no_letter, number_digit, number_minus, minus_none}
use Rattle.std.specs.Prelude as code
use Rattle.std.specs.Prelude.{None, Some, Ok, Err, MatchOption, MatchResult, IsOkAnd}
use Rattle.words.specs.declared.Mark as words
use Rattle.words.specs.declared.Mark.TheVariants.{Arrow}
use Rattle.words.specs.declared.Token.{Token}
use Rattle.words.specs.declared.Token.TheVariants as token
use Rattle.words.specs.declared.Word as found
use Rattle.words.specs.declared.WordError.{WordError}
use Rattle.words.specs.declared.WordError.TheVariants as error
use Rattle.words.specs.Marks.{mark_for, marked}
use Rattle.words.specs.Next.{Next, begun, next_in, next_from, Found, found_word, found_there, told, found_from, amount_found, read_found}
use Rattle.words.proofs.Stretches.{name_some}

-- ---- what begins at a place
module _ (s : List ℕ) (i : ℕ) (h : i < length s) where
  abbrev first : ℕ
  first = get_or s i 0

  abbrev behind : List ℕ
  behind = drop (i + 1) s

  abbrev after : Next
  after = next_in behind (i + 1)

  split_here : drop i s ≡ first ∷ behind
  split_here = rw (add-one, drop-cons s i 0 h) refl

  next_here : next_from s i ≡ begun i (front i first behind) after
  unfolding next_in
  next_here = ap (λ (l : List ℕ). next_in l i) split_here

  told_here : (f : Front) → front i first behind ≡ f → found_from s i ≡ told (begun i f after)
  told_here f e = ap told (next_here ∙ ap (λ (g : Front). begun i g after) e)

-- ---- letters and digits
-- what a word of letters and digits is, by its mark
abbrev pub token_of : code.Option words.Mark → Token
token_of None = token.Name
token_of (Some m) = token.Mark m

token_from : (o : code.Option words.Mark) {t : Token} → MatchOption o (t ≡ token.Name) (λ m. t ≡ token.Mark m) → t ≡ token_of o
token_from None h = h
token_from (Some m) h = h

spelled_told : (i : ℕ) (n : Next) (w : List ℕ) (e : ℕ) → e ≡ i + 1 + (length w - 1)
    → found_word (token_of (marked (mark_of key_words w))) i e ≡ told (begun i (spelled i w) n)
spelled_told i n w e ends = by (mark_of key_words w)
  where
    by : (o : Option Mark)
        → found_word (token_of (marked o)) i e
        ≡ told (begun i (elim o as (λ _. Front) [ none ↦ word (named (at i w)) (length w - 1) | some m ↦ word (mark m i) (length w - 1) ]) n)
    by none = ap (found_word token.Name i) ends
    by (some m) = ap (found_word (token.Mark (mark_for m)) i) ends

differs : (p : ℕ → Bool) (b c : ℕ) → p b ≡ true → p c ≡ false → eqb b c ≡ false
differs p b c t f = ne_eqb b c (λ q. absurd (subst T (sym t ∙ ap p q ∙ f) tt))

letter_no_gap : (b : ℕ) → is_letter b ≡ true → is_sep b ≡ false
letter_no_gap b t = simp (differs is_letter b 32 t refl, differs is_letter b 9 t refl, differs is_letter b 10 t refl, differs is_letter b 13 t refl)

-- ---- what begins, by tests on its first byte
yes : (t : Bool) (x y : Front) → t ≡ true → cond t x y ≡ x
yes t x y e = rw e refl

no : (t : Bool) (x y : Front) → t ≡ false → cond t x y ≡ y
no t x y e = rw e refl

front_letter : (i b : ℕ) (s : List ℕ) → is_letter b ≡ true → front i b s ≡ spelled i (stretch is_plain (b ∷ s))
front_letter i b s t = no (is_sep b) _ _ (letter_no_gap b t) ∙ yes (is_letter b) _ _ t

front_digit : (i b : ℕ) (s : List ℕ) → is_digit b ≡ true → front i b s ≡ numeral i (pos (decimal 0 (stretch is_digit (b ∷ s)))) (length (stretch is_digit s))
front_digit i b s d = no (is_sep b) _ _ (digit_no_gap b d) ∙ no (is_letter b) _ _ (digit_no_letter b d) ∙ yes (is_digit b) _ _ d

long : (t u : Bool) (b : ℕ) (x : List ℕ) → t ≡ true → 0 < length (cond (t || u) (b ∷ x) [])
long true u b x e = omega arith
long false u b x e = absurd (subst T (sym e) tt)

module _ (s : List ℕ) (i : ℕ) (h : i < length s) (t : is_letter (get_or s i 0) ≡ true) where
  name_here : name_at s i ≡ stretch is_plain (first s i h ∷ behind s i h)
  name_here = name_some s i h t ∙ ap (stretch is_plain) (split_here s i h)

  name_long : 0 < length (name_at s i)
  name_long = subst (λ (w : List ℕ). 0 < length w) (sym name_here) (long (is_letter (get_or s i 0)) (is_digit (get_or s i 0)) (get_or s i 0) _ t)

  told_spelled : found_from s i ≡ told (begun i (spelled i (name_at s i)) (after s i h))
  told_spelled = told_here s i h (spelled i (name_at s i)) (front_letter i (get_or s i 0) (behind s i h) t ∙ ap (spelled i) (sym name_here))

  -- a word that was read there, with its end and its mark
  pub found_spelled : (w : List ℕ) (e : ℕ) (key : code.Option words.Mark) → w ≡ name_at s i → e ≡ i + length w → key ≡ marked (mark_of key_words w)
      → {t : Token} → MatchOption key (t ≡ token.Name) (λ m. t ≡ token.Mark m) → found_word t i e ≡ found_from s i
  found_spelled w e key is ends q x =
      let v : e ≡ i + 1 + (length (name_at s i) - 1) = omega (arith, name_long, ap length is) in
      ap (λ t. found_word t i e) (token_from key x)
      ∙ ap (λ k. found_word (token_of k) i e) (q ∙ ap (λ (v : List ℕ). marked (mark_of key_words v)) is)
      ∙ spelled_told i (after s i h) (name_at s i) e v ∙ sym told_spelled

-- ---- numbers
numeral_told : (i more : ℕ) (z : ℤ) (n : Next)
    → found_there (read_found i (Some (record { end = i + 1 + more; value = written z }))) ≡ told (begun i (numeral i z more) n)
numeral_told i more z n = by (in_range z)
  where
    by : (t : Bool) → found_there (amount_found i (i + 1 + more) (cond t (Ok z) (Err Range))) ≡ told (begun i (cond t (word (number i z) more) (bad NUMBER)) n)
    by true = refl
    by false = refl

module _ (s : List ℕ) (i : ℕ) (h : i < length s) where
  pub found_digit : is_digit (get_or s i 0) ≡ true → found_there (read_found i (read_number s i)) ≡ found_from s i
  found_digit d =
      let b = get_or s i 0 in
      let z = pos (decimal 0 (stretch is_digit (b ∷ behind s i h))) in
      ap (λ r. found_there (read_found i r)) (at_front s i (split_here s i h) ∙ number_digit i b (behind s i h) d)
      ∙ numeral_told i (length (stretch is_digit (behind s i h))) z (after s i h)
      ∙ sym (told_here s i h _ (front_digit i b (behind s i h) d))

  -- ---- from a `-` on
  module _ (m : get_or s i 0 ≡ 45) where
    told_minus : found_from s i ≡ told (begun i (minus i (behind s i h)) (after s i h))
    told_minus = told_here s i h (minus i (behind s i h)) (rw m refl)

    pub found_lone : length s ≤ i + 1 → Err (error.Byte i) ≡ found_from s i
    found_lone l = sym (told_minus ∙ ap (λ (r : List ℕ). told (begun i (minus i r) (after s i h))) (drop_of_length-le s {i = i + 1} l))

    second : i + 1 < length s → behind s i h ≡ get_or s (i + 1) 0 ∷ drop (i + 1 + 1) s
    second l = rw (add-one (i + 1), drop-cons s (i + 1) 0 l) refl

    module _ (l : i + 1 < length s) where
      told_second : (f : Front) → minus i (get_or s (i + 1) 0 ∷ drop (i + 1 + 1) s) ≡ f → found_from s i ≡ told (begun i f (after s i h))
      told_second f e =
          told_minus
          ∙ ap (λ (r : List ℕ). told (begun i (minus i r) (after s i h))) (second l)
          ∙ ap (λ (g : Front). told (begun i g (after s i h))) e

      pub found_arrow : get_or s (i + 1) 0 ≡ 62 → found_word (token.Mark Arrow) i (i + 2) ≡ found_from s i
      found_arrow a =
          let n : i + 2 ≡ i + 1 + 1 = omega arith in
          ap (found_word (token.Mark Arrow) i) n ∙ sym (told_second (word (mark k_arrow i) 1) (yes (eqb (get_or s (i + 1) 0) 62) _ _ (eq-eqb (get_or s (i + 1) 0) 62 a)))

      read_minus : read_number s i ≡ number_front i (45 ∷ get_or s (i + 1) 0 ∷ drop (i + 1 + 1) s)
      read_minus = at_front s i (split_here s i h ∙ ap (λ (b : ℕ). b ∷ behind s i h) m ∙ ap (λ (r : List ℕ). 45 ∷ r) (second l))

      pub found_minus : (get_or s (i + 1) 0 ≡ 62 → ⊥) → found_there (read_found i (read_number s i)) ≡ found_from s i
      found_minus a = ap (λ r. found_there (read_found i r)) read_minus ∙ by (is_digit (get_or s (i + 1) 0)) refl
        where
          no-arrow : eqb (get_or s (i + 1) 0) 62 ≡ false
          no-arrow = ne_eqb (get_or s (i + 1) 0) 62 a

          by : (t : Bool) → is_digit (get_or s (i + 1) 0) ≡ t → found_there (read_found i (number_front i (45 ∷ get_or s (i + 1) 0 ∷ drop (i + 1 + 1) s))) ≡ found_from s i
          by true d =
              let ds = stretch is_digit (get_or s (i + 1) 0 ∷ drop (i + 1 + 1) s) in
              ap (λ r. found_there (read_found i r)) (number_minus i (get_or s (i + 1) 0) (drop (i + 1 + 1) s) d)
              ∙ numeral_told i (length ds) (neg_ℤ (pos (decimal 0 ds))) (after s i h)
              ∙ sym
              (told_second (numeral i (neg_ℤ (pos (decimal 0 ds))) (length ds))
              (no (eqb (get_or s (i + 1) 0) 62) _ _ no-arrow ∙ yes (is_digit (get_or s (i + 1) 0)) _ _ d))
          by false d =
              ap (λ r. found_there (read_found i r)) (minus_none i (get_or s (i + 1) 0) (drop (i + 1 + 1) s) d)
              ∙ sym (told_second (bad BYTE) (no (eqb (get_or s (i + 1) 0) 62) _ _ no-arrow ∙ no (is_digit (get_or s (i + 1) 0)) _ _ d))

  -- ---- symbols
  abbrev pub symbol_found : code.Option words.Mark → Found
  symbol_found None = Err (error.Byte i)
  symbol_found (Some m) = found_word (token.Mark m) i (i + 1)

  module _ (g : is_sep (get_or s i 0) ≡ false) (t : is_letter (get_or s i 0) ≡ false) (d : is_digit (get_or s i 0) ≡ false) (m : get_or s i 0 ≡ 45 → ⊥) where
    told_symbol : found_from s i ≡ told (begun i (symbol i (get_or s i 0)) (after s i h))
    told_symbol =
        told_here s i h (symbol i (get_or s i 0))
        (no (is_sep (get_or s i 0)) _ _ g
        ∙ no (is_letter (get_or s i 0)) _ _ t
        ∙ no (is_digit (get_or s i 0)) _ _ d
        ∙ no (eqb (get_or s i 0) 45) _ _ (ne_eqb (get_or s i 0) 45 m))

    symbol_told : (o : Option Mark) → symbol_found (marked o) ≡ told (begun i (elim o as (λ _. Front) [ none ↦ bad BYTE | some n ↦ word (mark n i) 0 ]) (after s i h))
    symbol_told none = refl
    symbol_told (some n) = let e : i + 1 ≡ i + 1 + 0 = omega arith in ap (found_word (token.Mark (mark_for n)) i) e

    pub found_symbol : (k : code.Option words.Mark) → k ≡ marked (mark_of symbols (get_or s i 0 ∷ [])) → symbol_found k ≡ found_from s i
    found_symbol k is = ap symbol_found is ∙ symbol_told (mark_of symbols (get_or s i 0 ∷ [])) ∙ sym told_symbol

-- ---- separators are passed over
gaps_in : (l : List ℕ) (i : ℕ) → next_in l i ≡ next_in (drop (length (stretch is_sep l)) l) (i + length (stretch is_sep l))
unfolding next_in
gaps_in [] i = let e : i ≡ i + 0 = omega arith in ap (next_in []) e
gaps_in (b ∷ s) i = by (is_sep b) refl (gaps_in s (i + 1))
  where
    by : (t : Bool) → is_sep b ≡ t
        → next_in s (i + 1) ≡ next_in (drop (length (stretch is_sep s)) s) (i + 1 + length (stretch is_sep s))
        → next_in (b ∷ s) i ≡ next_in (drop (length (cond t (b ∷ stretch is_sep s) [])) (b ∷ s)) (i + length (cond t (b ∷ stretch is_sep s) []))
    by true e q =
        let j : i + 1 + length (stretch is_sep s) ≡ i + suc (length (stretch is_sep s)) = omega arith in
        ap (λ (f : Front). begun i f (next_in s (i + 1))) (yes (is_sep b) gap _ e) ∙ q ∙ ap (next_in (drop (length (stretch is_sep s)) s)) j
    by false e q = let j : i ≡ i + 0 = omega arith in ap (next_in (b ∷ s)) j

module _ (s : List ℕ) (i e : ℕ) (is : e ≡ i + length (stretch is_sep (drop i s))) where
  pub past_gaps : next_from s e ≡ next_from s i
  past_gaps =
      sym
      (gaps_in (drop i s) i
      ∙ ap (λ (l : List ℕ). next_in l (i + length (stretch is_sep (drop i s)))) (drop-drop (length (stretch is_sep (drop i s))) i s)
      ∙ ap (next_from s) (sym is))

  pub found_end : length s ≤ e → Ok None ≡ found_from s i
  unfolding next_in
  found_end l = sym (ap told (sym past_gaps ∙ ap (λ (r : List ℕ). next_in r e) (drop_of_length-le s {i = e} l)))

-- ---- a word or a refusal that stands there, as an answer
pub answered_there : {P : found.Word → code.Option found.Word → Type 0} (r : code.Result found.Word WordError) (x : Found)
    → MatchResult r (λ w. IsOkAnd x (P w)) (λ e. x ≡ Err e) → ((w : found.Word) (o : code.Option found.Word) → P w o → o ≡ Some w) → x ≡ found_there r
answered_there (Ok w) (Ok o) h f = ap Ok (f w o h)
answered_there {P = P} (Ok w) (Err d) h f = elim h [ ]
answered_there (Err e) x h f = h
