-- A word of the house form, from the word's own bytes: what the code computes. Nothing here is believed: `word_copied` of house_form ties it to the form.
use Rattle.std.specs.Prelude.{Bool, true, false, cond, not, List, [], ◌∷◌, ◌++◌, ℕ, zero, suc, eqb, get_or}
use Rattle.language.specs.Words.{is_digit}
use Rattle.house_form.proofs.Copied.{tidy}

abbrev pub zeros : List ℕ → ℕ  -- how many zeros stand before digits; the last digit is none of them
zeros [] = 0
zeros (b ∷ []) = 0
zeros (b ∷ d ∷ l) = cond (eqb b 48) (suc (zeros (d ∷ l))) 0

abbrev pub skipped_behind : List ℕ → ℕ  -- behind a `-`: the sign itself and the zeros of a number, nothing of the arrow
skipped_behind [] = 0
skipped_behind (b ∷ l) = cond (is_digit b) (suc (zeros (b ∷ l))) 0

abbrev pub skipped : List ℕ → ℕ  -- how many of a word's first bytes are not copied
skipped [] = 0
skipped (b ∷ l) = cond (is_digit b) (zeros (b ∷ l)) (cond (eqb b 45) (skipped_behind l) 0)

-- a word of which k bytes are not copied has a `-` before the others: a number that is not 0
abbrev pub sign_kept : List ℕ → (k : ℕ) → Bool
sign_kept w k = cond (eqb k 0) false (cond (eqb (get_or w 0 0) 45) (not (eqb (get_or w k 0) 48)) false)

abbrev pub sign : Bool → List ℕ
sign true = 45 ∷ []
sign false = []

abbrev pub gap : (n : ℕ) → List ℕ  -- a space, where n bytes are written already
gap zero = []
gap (suc n) = 32 ∷ []

abbrev pub piece : (n : ℕ) → List ℕ → List ℕ  -- what a word adds to n bytes
piece n w = gap n ++ tidy w
