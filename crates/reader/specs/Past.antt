-- How far a reader comes.
use Rattle.std.specs.Prelude.{ℕ, None, Some, Ok, Err}
use Rattle.words.specs.Next.{Found}

-- the place past a word, and the place itself where there is none
abbrev pub past_found : Found → (place : ℕ) → ℕ
past_found (Ok (Some word)) i = word.end
past_found (Ok None) i = i
past_found (Err error) i = i
