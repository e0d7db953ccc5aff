-- The words of a text are such as are spelled; and a form is read back as its words, at new places.
use mathlib.Core.Path.{◌≡◌, refl, sym, ◌∙◌, ap, subst}
use mathlib.Core.Bool.{Bool, true, false, cond, ◌||◌}
use mathlib.Core.List.{List, [], ◌∷◌, map}
use mathlib.Core.Option.{Option, none, some}
use Prim.Native.Nat.{ℕ, ◌+◌, ◌-◌}
use native.Mathlib.Omega.{arith}
use lib.Dec.{eqb}
use lib.IntN.{ℤ, pos, neg_ℤ}
use lib.ListN.{length}
use Rattle.language.specs.Syntax.{Name, at}
use Rattle.language.specs.Answers.{BYTE, NUMBER, fine}
use Rattle.language.specs.Numbers.{in_range}
use Rattle.language.specs.Words.{Mark, k_arrow, Word, mark, number, named, is_sep, is_letter, is_digit, is_plain, stretch, symbols, key_words, mark_of, Front, gap, word, bad, spelled, decimal, numeral, minus, symbol, front, before, words_from, words_of}
use Rattle.language.proofs.Reading.Standing.{Stands}
use Rattle.language.proofs.Reading.Payload.{same_words, All, words_stand}
use Rattle.house_form.specs.House.{spelling, spaced, form}
use Rattle.house_form.proofs.Fronts.{same_word, not_word}
use Rattle.house_form.proofs.Digits.{stretch_whole}
use Rattle.house_form.proofs.Spelled.{NameLike, Good, put, word_back}

-- ---- the words of a text are good

module _ (P : Word → Type 0) (i : ℕ) where
  spelled_good : (s : Name) (w : Word) (m : ℕ) → ((k : Mark) → P (mark k i)) → (mark_of key_words s ≡ none → P (named (at i s))) → spelled i s ≡ word w m → P w
  spelled_good s w m f g e = go (mark_of key_words s) refl e
    where
      go : (o : Option Mark) → mark_of key_words s ≡ o → elim o as (λ _. Front) [ none ↦ word (named (at i s)) (length s - 1) | some k ↦ word (mark k i) (length s - 1) ] ≡ word w m → P w
      go none q e' = subst P (same_word e') (g q)
      go (some k) q e' = subst P (same_word e') (f k)

numeral_good : (i : ℕ) (z : ℤ) (k : ℕ) (w : Word) (m : ℕ) → numeral i z k ≡ word w m → Good w
numeral_good i z k w m e = go (in_range z) refl e
  where
    go : (t : Bool) → in_range z ≡ t → cond t (word (number i z) k) (bad NUMBER) ≡ word w m → Good w
    go true q e' = subst Good (same_word e') q
    go false q e' = absurd (not_word (bad NUMBER) e')

minus_good : (i : ℕ) (s : List ℕ) (w : Word) (m : ℕ) → minus i s ≡ word w m → Good w
minus_good i [] w m e = absurd (not_word (bad BYTE) e)
minus_good i (b ∷ s) w m e = go (eqb b 62) (is_digit b) e
  where
    go : (t u : Bool)
        → cond t (word (mark k_arrow i) 1) (cond u (numeral i (neg_ℤ (pos (decimal 0 (stretch is_digit (b ∷ s))))) (length (stretch is_digit (b ∷ s)))) (bad BYTE)) ≡ word w m
        → Good w
    go true u e' = subst Good (same_word e') tt
    go false true e' = numeral_good i (neg_ℤ (pos (decimal 0 (stretch is_digit (b ∷ s))))) (length (stretch is_digit (b ∷ s))) w m e'
    go false false e' = absurd (not_word (bad BYTE) e')

symbol_good : (i b : ℕ) (w : Word) (m : ℕ) → symbol i b ≡ word w m → Good w
symbol_good i b w m e = go (mark_of symbols (b ∷ [])) e
  where
    go : (o : Option Mark) → elim o as (λ _. Front) [ none ↦ bad BYTE | some k ↦ word (mark k i) 0 ] ≡ word w m → Good w
    go none e' = absurd (not_word (bad BYTE) e')
    go (some k) e' = subst Good (same_word e') tt

letters : (b : ℕ) (s : List ℕ) → is_letter b ≡ true → mark_of key_words (stretch is_plain (b ∷ s)) ≡ none → NameLike (stretch is_plain (b ∷ s))
letters b s l k = go (stretch is_plain (b ∷ s)) (ap (λ (t : Bool). cond (t || is_digit b) (b ∷ stretch is_plain s) []) l) (stretch_whole is_plain (b ∷ s)) k
  where
    go : (x : Name) → x ≡ b ∷ stretch is_plain s → stretch is_plain x ≡ x → mark_of key_words x ≡ none → NameLike x
    go [] e w k = let z : ◌≡◌ {A = ℕ} 0 1 = cc in absurd (omega arith)
    go (c ∷ x) e w k = let q : b ≡ c = cc in (subst (λ (d : ℕ). is_letter d ≡ true) q l, w, k)

pub front_good : (i b : ℕ) (s : List ℕ) (w : Word) (m : ℕ) → front i b s ≡ word w m → Good w
front_good i b s w m e = go (is_sep b) (is_letter b) (is_digit b) (eqb b 45) refl e
  where
    go : (t u v x : Bool) → is_letter b ≡ u
        → cond t gap (cond u (spelled i (stretch is_plain (b ∷ s))) (cond v (numeral i (pos (decimal 0 (stretch is_digit (b ∷ s)))) (length (stretch is_digit s))) (cond x (minus i s) (symbol i b)))) ≡ word w m
        → Good w
    go true u v x l e' = absurd (not_word gap e')
    go false true v x l e' = spelled_good Good i (stretch is_plain (b ∷ s)) w m (λ k. tt) (λ k. letters b s l k) e'
    go false false true x l e' = numeral_good i (pos (decimal 0 (stretch is_digit (b ∷ s)))) (length (stretch is_digit s)) w m e'
    go false false false true l e' = minus_good i s w m e'
    go false false false false l e' = symbol_good i b w m e'

all_good : (s : List ℕ) (ts : List Word) → All (Stands s) ts → All Good ts
all_good s [] a = tt
all_good s (w ∷ ts) a = (front_good _ a.0.byte a.0.rest w a.0.more a.0.begins, all_good s ts a.1)

pub words_good : (s : List ℕ) (ts : List Word) → words_of s ≡ fine ts → All Good ts
words_good s ts e = all_good s ts (words_stand s ts e)

-- ---- a form is read back

abbrev pub placed : ℕ → List Word → List Word  -- words as they stand in a form, the first at place i
placed i [] = []
placed i (w ∷ ws) = put i w ∷ placed (i + length (spelling w) + 1) ws

ends_plain : (ws : List Word) → stretch is_plain (spaced ws) ≡ []
ends_plain [] = refl
ends_plain (w ∷ ws) = refl

ends_digit : (ws : List Word) → stretch is_digit (spaced ws) ≡ []
ends_digit [] = refl
ends_digit (w ∷ ws) = refl

spaced_back : (ws : List Word) → All Good ws → (i : ℕ) → words_from (spaced ws) 0 i ≡ fine (placed (i + 1) ws)
unfolding words_from
spaced_back [] g i = refl
spaced_back (w ∷ ws) g i =
    word_back w g.0 (i + 1) (spaced ws) (ends_plain ws) (ends_digit ws) ∙ ap (before (put (i + 1) w)) (spaced_back ws g.1 ((i + 1) + length (spelling w)))

pub form_back : (ws : List Word) → All Good ws → words_of (form ws) ≡ fine (placed 0 ws)
unfolding words_from
form_back [] g = refl
form_back (w ∷ ws) g = word_back w g.0 0 (spaced ws) (ends_plain ws) (ends_digit ws) ∙ ap (before (put 0 w)) (spaced_back ws g.1 (0 + length (spelling w)))

-- ---- words but for their places

abbrev pub bare : Word → Word
bare w = put 0 w

bare_put : (i : ℕ) (w : Word) → bare (put i w) ≡ bare w
bare_put i (mark m p) = refl
bare_put i (number p z) = refl
bare_put i (named (at p x)) = refl

pub bare_placed : (i : ℕ) (ws : List Word) → map bare (placed i ws) ≡ map bare ws
bare_placed i [] = refl
bare_placed i (w ∷ ws) = rw (bare_put i w, bare_placed (i + length (spelling w) + 1) ws)

spelling_bare : (w : Word) → spelling (bare w) ≡ spelling w
spelling_bare (mark m p) = refl
spelling_bare (number p z) = refl
spelling_bare (named (at p x)) = refl

spaced_bare : (ws : List Word) → spaced (map bare ws) ≡ spaced ws
spaced_bare [] = refl
spaced_bare (w ∷ ws) = rw (spelling_bare w, spaced_bare ws)

form_bare : (ws : List Word) → form (map bare ws) ≡ form ws
form_bare [] = refl
form_bare (w ∷ ws) = rw (spelling_bare w, spaced_bare ws)

-- words that are equal but for their places have one form
pub bare_form : (ts us : List Word) → map bare ts ≡ map bare us → form ts ≡ form us
bare_form ts us e = sym (form_bare ts) ∙ (ap form e ∙ form_bare us)

-- and good words of one form are equal but for their places
pub form_bare_words : (ts us : List Word) → All Good ts → All Good us → form ts ≡ form us → map bare ts ≡ map bare us
form_bare_words ts us g h e =
    let q : placed 0 ts ≡ placed 0 us = same_words (sym (form_back ts g) ∙ (ap words_of e ∙ form_back us h)) in
    sym (bare_placed 0 ts) ∙ (ap (map bare) q ∙ bare_placed 0 us)
