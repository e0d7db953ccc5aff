-- Where the next word of a text stands.
use Rattle.std.specs.Prelude.{List, ℕ, ◌-◌, take, drop, Option, None, Ok, Err}
use Rattle.language.specs.Answers.{Result, fine, refuse}
use Rattle.language.specs.Words.{Word}
use Rattle.words.specs.declared.Word as found
use Rattle.words.specs.Next.{Found}

abbrev pub word_in : Found → Option found.Word  -- the word that was found, where one was
word_in (Ok word) = word
word_in (Err error) = None

abbrev pub between : List ℕ → (start end : ℕ) → List ℕ  -- the bytes from a place up to another
between text p e = take (e - p) (drop p text)

abbrev pub Readable : Result (List Word) → Type 0  -- a text without BYTE and NUMBER
Readable (fine ws) = Unit {0}
Readable (refuse r p) = ⊥
