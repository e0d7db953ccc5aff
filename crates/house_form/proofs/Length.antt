-- No word is spelled with more bytes than its text has for it: so a form has at most one byte more for each word but the first.
use mathlib.Core.Path.{◌≡◌, refl, sym, subst}
use mathlib.Core.Bool.{Bool, true, false, cond}
use mathlib.Core.List.{List, [], ◌∷◌}
use Prim.Native.Nat.{ℕ, zero, suc, ◌+◌, ◌-◌, ◌≤◌}
use native.Mathlib.Omega.{arith}
use lib.Dec.{eqb}
use lib.ListN.{length, take, length-append, length-take}
use Rattle.language.specs.Answers.{Result, fine, refuse}
use Rattle.language.specs.Words.{Word, is_digit, Front, gap, word, bad, front, before, words_from, words_of}
use Rattle.language.proofs.Reading.Payload.{same_words, not_are}
use Rattle.house_form.specs.House.{spelling, spaced, form}
use Rattle.house_form.proofs.Stripped.{stripped, stripped_short}
use Rattle.house_form.proofs.Copied.{signed, behind_minus, tidy, word_copied}

-- ---- a word has no more bytes in the form than in its text

signed_short : (l : List ℕ) → length (signed l) ≤ suc (length l)
signed_short [] = omega arith
signed_short (b ∷ l) = go (eqb b 48)
  where
    go : (t : Bool) → length {A = ℕ} (cond t (b ∷ l) (45 ∷ b ∷ l)) ≤ suc (length (b ∷ l))
    go true = omega arith
    go false = omega arith

behind_minus_short : (l : List ℕ) → length (behind_minus l) ≤ suc (length l)
behind_minus_short [] = omega arith
behind_minus_short (b ∷ l) = go (is_digit b)
  where
    go : (t : Bool) → length {A = ℕ} (cond t (signed (stripped (b ∷ l))) (45 ∷ b ∷ l)) ≤ suc (length (b ∷ l))
    go true = omega (arith, signed_short (stripped (b ∷ l)), stripped_short b l)
    go false = omega arith

pub tidy_short : (l : List ℕ) → length (tidy l) ≤ length l
tidy_short [] = omega arith
tidy_short (b ∷ l) = go (is_digit b) (eqb b 45)
  where
    go : (t u : Bool) → length {A = ℕ} (cond t (stripped (b ∷ l)) (cond u (behind_minus l) (b ∷ l))) ≤ length (b ∷ l)
    go true u = stripped_short b l
    go false true = behind_minus_short l
    go false false = omega arith

word_short : (i b : ℕ) (s : List ℕ) (w : Word) (m : ℕ) → front i b s ≡ word w m → length (spelling w) ≤ length (take (suc m) (b ∷ s))
word_short i b s w m e = subst (λ (l : List ℕ). length l ≤ length (take (suc m) (b ∷ s))) (sym (word_copied i b s w m e)) (tidy_short (take (suc m) (b ∷ s)))

-- ---- the bytes of all words

abbrev total : List Word → ℕ
total [] = 0
total (w ∷ ws) = length (spelling w) + total ws

total_from : (s : List ℕ) (k i : ℕ) (ts : List Word) → words_from s k i ≡ fine ts → total ts ≤ length s - k
unfolding words_from
total_from [] k i ts e = subst (λ (l : List Word). total l ≤ 0 - k) (same_words e) (omega arith)
total_from (b ∷ s) (suc k) i ts e = let h = total_from s k (i + 1) ts e in omega (arith, h)
total_from (b ∷ s) zero i ts e = go (front i b s) refl e (λ k us e'. total_from s k (i + 1) us e')
  where
    put : (w : Word) (m : ℕ) (v : Result (List Word)) → length (spelling w) ≤ length (take (suc m) (b ∷ s)) → before w v ≡ fine ts → ((us : List Word) → v ≡ fine us → total us ≤ length s - m) → total ts ≤ length (b ∷ s) - 0
    put w m (fine us) h e' ih = subst (λ (l : List Word). total l ≤ length (b ∷ s) - 0) (same_words e') (omega (arith, ih us refl, h, length-take m s))
    put w m (refuse n p) h e' ih = absurd (not_are e')

    go : (f : Front)
        → front i b s ≡ f
        → elim f as (λ _. (Result (List Word))) [ gap ↦ words_from s 0 (i + 1) | word w more ↦ before w (words_from s more (i + 1)) | bad n ↦ refuse n i ] ≡ fine ts
        → ((k : ℕ) (us : List Word) → words_from s k (i + 1) ≡ fine us → total us ≤ length s - k)
        → total ts ≤ length (b ∷ s) - 0
    go gap f e' ih = omega (arith, ih 0 ts e')
    go (word w more) f e' ih = put w more (words_from s more (i + 1)) (word_short i b s w more f) e' (λ us e''. ih more us e'')
    go (bad n) f e' ih = absurd (not_are e')

spaced_length : (ws : List Word) → length (spaced ws) ≡ total ws + length ws
spaced_length [] = refl
spaced_length (w ∷ ws) = omega (arith, length-append (spelling w) (spaced ws), spaced_length ws)

form_length : (ws : List Word) → length (form ws) ≡ total ws + (length ws - 1)
form_length [] = refl
form_length (w ∷ ws) = omega (arith, length-append (spelling w) (spaced ws), spaced_length ws)

-- A form is no longer than its text and a byte for each word but the first.
pub form_fits : (s : List ℕ) (ts : List Word) → words_of s ≡ fine ts → length (form ts) ≤ length s + (length ts - 1)
form_fits s ts e = omega (arith, form_length ts, total_from s 0 0 ts e)
