-- What each of WRITE's answers means.
use Rattle.std.specs.Prelude.{List, [], ◌∷◌, ℕ, Option, Some, None, Result, Ok, Err}
use Rattle.language.specs.Answers.{done}
use Rattle.house_form.specs.House.{WriteAnswer, as_check, ROOM, Written}
use Rattle.verdict.specs.Answers.{refusal_meant}
use Rattle.writer.specs.declared.WriteError.{WriteError}
use Rattle.writer.specs.declared.WriteError.TheVariants.{Room, Refused}

abbrev pub meant : Result ℕ WriteError → WriteAnswer
meant (Ok n) = as_check done
meant (Err Room) = ROOM
meant (Err (Refused refusal)) = as_check (refusal_meant refusal)

-- how many bytes were written
abbrev pub bytes_of : Result ℕ WriteError → ℕ
bytes_of (Ok n) = n
bytes_of (Err error) = 0

-- what was answered, and what the tables then hold
abbrev pub written : Result ℕ WriteError → (tree words stack scopes notes page : List ℕ) → Written
written r tree words stack scopes notes page =
    record { answer = meant r; bytes = bytes_of r; tree = tree; works = words ∷ (stack ∷ (scopes ∷ (notes ∷ []))); page = page }

-- the form of an accepted text, as it was put on the page
abbrev pub put_as : Option ℕ → Result ℕ WriteError
put_as (Some n) = Ok n
put_as None = Err Room
