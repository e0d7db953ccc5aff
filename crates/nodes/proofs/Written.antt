-- A number that stands in a text is the one that the text writes at its place.
use Prim.Native.Nat.{ℕ}
use mathlib.Core.Path.{◌≡◌, refl, sym, ◌∙◌, ap, subst}
use mathlib.Core.Bool.{Bool, true, false, cond}
use mathlib.Core.List.{List, [], ◌∷◌}
use mathlib.Core.Option.{Option, none, some}
use native.Mathlib.Omega.{arith}
use lib.Dec.{T, eqb, eqb→eq}
use lib.IntN.{ℤ, pos, neg_ℤ}
use lib.ListN.{length}
use Rattle.language.specs.Answers.{BYTE, NUMBER}
use Rattle.language.specs.Numbers.{in_range}
use Rattle.language.specs.Syntax.{at}
use Rattle.language.specs.Words.{Mark, k_arrow, mark, number, named, is_sep, is_letter, is_digit, is_plain, stretch, symbols, key_words, mark_of, Front, gap, word, bad, spelled, decimal, numeral, minus, symbol, front}
use Rattle.language.proofs.Reading.Standing.{Stands}
use Rattle.nodes.specs.Written.{digits_from, number_from, number_at, Numeral}

-- what a number at the front of some bytes says of them; nothing of another word
abbrev Says : List ℕ → Front → Type 0
Says s gap = Unit {0}
Says s (word (mark m p) n) = Unit {0}
Says s (word (number p z) n) = (z ≡ number_from s) × (digits_from s ≡ [] → ⊥) × (in_range z ≡ true)
Says s (word (named x) n) = Unit {0}
Says s (bad r) = Unit {0}

says_numeral : (s : List ℕ) (i : ℕ) (z : ℤ) (n : ℕ) → z ≡ number_from s → (digits_from s ≡ [] → ⊥) → Says s (numeral i z n)
says_numeral s i z n e d = go (in_range z) refl
  where
    go : (t : Bool) → in_range z ≡ t → Says s (cond t (word (number i z) n) (bad NUMBER))
    go true h = (e, d, h)
    go false h = tt

says_marked : (s : List ℕ) (o : Option Mark) (i n : ℕ) → Says s (elim o as (λ _. Front) [ none ↦ bad BYTE | some m ↦ word (mark m i) n ])
says_marked s none i n = tt
says_marked s (some m) i n = tt

says_spelled : (s w : List ℕ) (i n : ℕ) (o : Option Mark) → Says s (elim o as (λ _. Front) [ none ↦ word (named (at i w)) n | some m ↦ word (mark m i) n ])
says_spelled s w i n none = tt
says_spelled s w i n (some m) = tt

not_empty : (b : ℕ) (s : List ℕ) → b ∷ s ≡ [] → ⊥
not_empty b s h = let z = ap length h in omega arith

-- a digit is no `-`, and begins a row of digits
digit_not_minus : (b : ℕ) → is_digit b ≡ true → eqb b 45 ≡ false
digit_not_minus b d = go (eqb b 45) refl
  where
    go : (t : Bool) → eqb b 45 ≡ t → t ≡ false
    go false h = refl
    go true h =
        let e : b ≡ 45 = eqb→eq b 45 (subst T (sym h) tt) in
        sym d ∙ ap is_digit e

digits_begin : (b : ℕ) (s : List ℕ) → is_digit b ≡ true → stretch is_digit (b ∷ s) ≡ [] → ⊥
digits_begin b s d h = not_empty b (stretch is_digit s) (sym (ap (λ t. cond t (b ∷ stretch is_digit s) []) d) ∙ h)

module _ (b : ℕ) (s : List ℕ) where
  plain_number : eqb b 45 ≡ false → pos (decimal 0 (stretch is_digit (b ∷ s))) ≡ number_from (b ∷ s)
  plain_number h = rw h

  plain_digits : eqb b 45 ≡ false → digits_from (b ∷ s) ≡ stretch is_digit (b ∷ s)
  plain_digits h = rw h

  minus_number : eqb b 45 ≡ true → neg_ℤ (pos (decimal 0 (stretch is_digit s))) ≡ number_from (b ∷ s)
  minus_number h = rw h

  minus_digits : eqb b 45 ≡ true → digits_from (b ∷ s) ≡ stretch is_digit s
  minus_digits h = rw h

says_minus : (b i : ℕ) (s : List ℕ) → eqb b 45 ≡ true → Says (b ∷ s) (minus i s)
says_minus b i [] m = tt
says_minus b i (c ∷ s) m = go (eqb c 62) (is_digit c) refl
  where
    go : (t u : Bool) → is_digit c ≡ u →
        Says (b ∷ c ∷ s)
        (cond t (word (mark k_arrow i) 1) (cond u (numeral i (neg_ℤ (pos (decimal 0 (stretch is_digit (c ∷ s))))) (length (stretch is_digit (c ∷ s)))) (bad BYTE)))
    go true u d = tt
    go false false d = tt
    go false true d =
        says_numeral (b ∷ c ∷ s) i _ _ (minus_number b (c ∷ s) m) (λ h. digits_begin c s d (sym (minus_digits b (c ∷ s) m) ∙ h))

says_front : (i b : ℕ) (s : List ℕ) → Says (b ∷ s) (front i b s)
says_front i b s = go (is_sep b) (is_letter b) (is_digit b) (eqb b 45) refl refl
  where
    go : (t u v x : Bool) → is_digit b ≡ v → eqb b 45 ≡ x →
        Says (b ∷ s)
        (cond t gap
        (cond u (spelled i (stretch is_plain (b ∷ s)))
        (cond v (numeral i (pos (decimal 0 (stretch is_digit (b ∷ s)))) (length (stretch is_digit s))) (cond x (minus i s) (symbol i b)))))
    go true u v x d m = tt
    go false true v x d m = says_spelled (b ∷ s) (stretch is_plain (b ∷ s)) i _ (mark_of key_words (stretch is_plain (b ∷ s)))
    go false false true x d m =
        let p = digit_not_minus b d in
        says_numeral (b ∷ s) i _ _ (plain_number b s p) (λ h. digits_begin b s d (sym (plain_digits b s p) ∙ h))
    go false false false true d m = says_minus b i s m
    go false false false false d m = says_marked (b ∷ s) (mark_of symbols (b ∷ [])) i 0

module _ {text : List ℕ} {p : ℕ} {z : ℤ} (h : Stands text (number p z)) where
  said : Says (h.byte ∷ h.rest) (word (number p z) h.more)
  said = subst (Says (h.byte ∷ h.rest)) h.begins (says_front p h.byte h.rest)

  -- A number is the one written at its place.
  pub number_stands : z ≡ number_at text p
  unfolding number_at
  number_stands = said.0 ∙ ap number_from (sym h.there)

  -- It has digits, and is in the range.
  pub numeral_stands : Numeral text p
  unfolding number_at
  numeral_stands = record { digits = λ e. said.1 (sym (ap digits_from h.there) ∙ e); ranged = sym (ap in_range number_stands) ∙ said.2 }
