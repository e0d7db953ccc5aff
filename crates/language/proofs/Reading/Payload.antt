-- A word is what the text has at its place: so a place alone finds a name's bytes and a number's decimal again.
use mathlib.Core.Path.{◌≡◌, refl, sym, ◌∙◌, ap, subst}
use mathlib.Core.Bool.{Bool, true, false, cond}
use mathlib.Core.List.{List, [], ◌∷◌}
use mathlib.Core.Option.{Option, none, some}
use Prim.Native.Nat.{ℕ, zero, suc, ◌+◌, ◌-◌}
use lib.Dec.{eqb}
use lib.IntN.{ℤ, pos, neg_ℤ}
use lib.ListN.{length, drop}
use lib.Seq.{drop-drop}
use Rattle.language.specs.Syntax.{Name, at}
use Rattle.language.specs.Answers.{Refusal, BYTE, NUMBER, Result, fine, refuse}
use Rattle.language.specs.Numbers.{in_range}
use Rattle.language.specs.Words.{Mark, k_arrow, Word, mark, number, named, place_word, is_sep, is_letter, is_digit, is_plain, stretch, symbols, key_words, mark_of, Front, gap, word, bad, spelled, decimal, numeral, minus, symbol, front, before, words_from, words_of, name_from, name_at}
use Rattle.language.proofs.Reading.Standing.{Stands}

-- the place of a word that begins at i, and a name's bytes
abbrev Right : ℕ → Name → Word → Type 0
Right i n (mark m p) = p ≡ i
Right i n (number p z) = p ≡ i
Right i n (named (at p x)) = (p ≡ i) × (x ≡ n)

same_word : {a b : Word} {n m : ℕ} → word a n ≡ word b m → a ≡ b
same_word e = cc

not_word : {w : Word} {m : ℕ} (f : Front) → f ≡ word w m → (elim f as (λ _. Type 0) [ gap ↦ ⊥ | word v n ↦ Unit {0} | bad n ↦ ⊥ ])
not_word f e = subst (λ (g : Front). elim g as (λ _. Type 0) [ gap ↦ ⊥ | word v n ↦ Unit {0} | bad n ↦ ⊥ ]) (sym e) tt

spelled_right : (i : ℕ) (s : Name) (w : Word) (m : ℕ) → spelled i s ≡ word w m → Right i s w
spelled_right i s w m e = go (mark_of key_words s) e
  where
    go : (o : Option Mark) → elim o as (λ _. Front) [ none ↦ word (named (at i s)) (length s - 1) | some k ↦ word (mark k i) (length s - 1) ] ≡ word w m → Right i s w
    go none e' = subst (Right i s) (same_word e') (refl, refl)
    go (some k) e' = subst (Right i s) (same_word e') refl

ranged_right : (i : ℕ) (z : ℤ) (k : ℕ) (n : Name) (w : Word) (m : ℕ) → numeral i z k ≡ word w m → Right i n w
ranged_right i z k n w m e = go (in_range z) e
  where
    go : (t : Bool) → cond t (word (number i z) k) (bad NUMBER) ≡ word w m → Right i n w
    go true e' = subst (Right i n) (same_word e') refl
    go false e' = absurd (not_word (bad NUMBER) e')

minus_right : (i : ℕ) (s : List ℕ) (n : Name) (w : Word) (m : ℕ) → minus i s ≡ word w m → Right i n w
minus_right i [] n w m e = absurd (not_word (bad BYTE) e)
minus_right i (b ∷ s) n w m e = go (eqb b 62) (is_digit b) e
  where
    go : (t u : Bool)
        → cond t (word (mark k_arrow i) 1) (cond u (numeral i (neg_ℤ (pos (decimal 0 (stretch is_digit (b ∷ s))))) (length (stretch is_digit (b ∷ s)))) (bad BYTE)) ≡ word w m
        → Right i n w
    go true u e' = subst (Right i n) (same_word e') refl
    go false true e' = ranged_right i (neg_ℤ (pos (decimal 0 (stretch is_digit (b ∷ s))))) (length (stretch is_digit (b ∷ s))) n w m e'
    go false false e' = absurd (not_word (bad BYTE) e')

symbol_right : (i b : ℕ) (n : Name) (w : Word) (m : ℕ) → symbol i b ≡ word w m → Right i n w
symbol_right i b n w m e = go (mark_of symbols (b ∷ [])) e
  where
    go : (o : Option Mark) → elim o as (λ _. Front) [ none ↦ bad BYTE | some k ↦ word (mark k i) 0 ] ≡ word w m → Right i n w
    go none e' = absurd (not_word (bad BYTE) e')
    go (some k) e' = subst (Right i n) (same_word e') refl

pub front_right : (i b : ℕ) (s : List ℕ) (w : Word) (m : ℕ) → front i b s ≡ word w m → Right i (name_from (b ∷ s)) w
front_right i b s w m e = go (is_sep b) (is_letter b) (is_digit b) (eqb b 45) e
  where
    go : (t u v x : Bool)
        → cond t gap (cond u (spelled i (stretch is_plain (b ∷ s))) (cond v (numeral i (pos (decimal 0 (stretch is_digit (b ∷ s)))) (length (stretch is_digit s))) (cond x (minus i s) (symbol i b)))) ≡ word w m
        → Right i (cond u (stretch is_plain (b ∷ s)) []) w
    go true u v x e' = absurd (not_word gap e')
    go false true v x e' = spelled_right i (stretch is_plain (b ∷ s)) w m e'
    go false false true x e' = ranged_right i (pos (decimal 0 (stretch is_digit (b ∷ s)))) (length (stretch is_digit s)) [] w m e'
    go false false false true e' = minus_right i s [] w m e'
    go false false false false e' = symbol_right i b [] w m e'

abbrev pub All : (Word → Type 0) → List Word → Type 0
All P [] = Unit {0}
All P (x ∷ ts) = P x × All P ts

pub right_place : (i : ℕ) (n : Name) (w : Word) → Right i n w → place_word w ≡ i
right_place i n (mark m p) h = h
right_place i n (number p z) h = h
right_place i n (named (at p x)) h = h.0

stands : (text : List ℕ) (i b : ℕ) (s : List ℕ) (w : Word) (m : ℕ) → drop i text ≡ b ∷ s → front i b s ≡ word w m → Stands text w
stands text i b s w m d e =
    let p = sym (right_place i (name_from (b ∷ s)) w (front_right i b s w m e)) in
    record {
      byte = b;
      rest = s;
      more = m;
      there = subst (λ (j : ℕ). drop j text ≡ b ∷ s) p d;
      begins = subst (λ (j : ℕ). front j b s ≡ word w m) p e;
    }

pub same_words : {a b : List Word} → fine a ≡ fine b → a ≡ b
same_words e = cc

pub not_are : {ts : List Word} {n : Refusal} {p : ℕ} → refuse n p ≡ fine ts → ⊥
not_are e = subst (λ (w : (Result (List Word))). elim w as (λ _. Type 0) [ fine l ↦ ⊥ | refuse n p ↦ Unit {0} ]) e tt

step : (text : List ℕ) (i b : ℕ) (s : List ℕ) → drop i text ≡ b ∷ s → drop (i + 1) text ≡ s
step text i b s e = sym (drop-drop 1 i text) ∙ ap (drop 1) e

scan_stands : (text s : List ℕ) (k i : ℕ) (ts : List Word) → drop i text ≡ s → words_from s k i ≡ fine ts → All (Stands text) ts
unfolding words_from
scan_stands text [] k i ts d e = subst (All (Stands text)) (same_words e) tt
scan_stands text (b ∷ s) (suc k) i ts d e = scan_stands text s k (i + 1) ts (step text i b s d) e
scan_stands text (b ∷ s) zero i ts d e = go (front i b s) refl e (λ k ts e'. scan_stands text s k (i + 1) ts (step text i b s d) e')
  where
    put : (w : Word) (v : (Result (List Word))) → Stands text w → before w v ≡ fine ts → ((us : List Word) → v ≡ fine us → All (Stands text) us) → All (Stands text) ts
    put w (fine us) h e' ih = subst (All (Stands text)) (same_words e') (h, ih us refl)
    put w (refuse n p) h e' ih = absurd (not_are e')

    go : (f : Front)
        → front i b s ≡ f
        → elim f as (λ _. (Result (List Word))) [ gap ↦ words_from s 0 (i + 1) | word w more ↦ before w (words_from s more (i + 1)) | bad n ↦ refuse n i ] ≡ fine ts
        → ((k : ℕ) (us : List Word) → words_from s k (i + 1) ≡ fine us → All (Stands text) us)
        → All (Stands text) ts
    go gap f e' ih = ih 0 ts e'
    go (word w more) f e' ih = put w (words_from s more (i + 1)) (stands text i b s w more d f) e' (λ us e''. ih more us e'')
    go (bad n) f e' ih = absurd (not_are e')

-- Each word of a text is what begins at its place.
pub words_stand : (s : List ℕ) (ts : List Word) → words_of s ≡ fine ts → All (Stands s) ts
words_stand s ts e = scan_stands s s 0 0 ts refl e

-- A name's bytes are the name at its place.
pub name_stands : {s : List ℕ} {p : ℕ} {x : Name} → Stands s (named (at p x)) → x ≡ name_at s p
name_stands {s} {p} {x} h = (front_right p h.byte h.rest (named (at p x)) h.more h.begins).1 ∙ ap name_from (sym h.there)
