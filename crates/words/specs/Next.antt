-- The next word of a text from a place on, in the language's terms, and the code's answer for it.
use Rattle.std.specs.Prelude.{cond, List, [], ◌∷◌, ℕ, ◌+◌, eqb, drop, ℤ, Option, None, Some, Result, Ok, Err}
use Rattle.language.specs.Answers.{Refusal, BYTE, NUMBER, refusal_number}
use Rattle.language.specs.Words.{Word, mark, number, named, place_word, Front, gap, word, bad, front}
use Rattle.amounts.specs.declared.AmountError.{AmountError}
use Rattle.numerals.specs.declared.Numeral.{Numeral}
use Rattle.words.specs.declared.Word as found
use Rattle.words.specs.declared.Token.{Token}
use Rattle.words.specs.declared.Token.TheVariants as token
use Rattle.words.specs.declared.WordError.{WordError}
use Rattle.words.specs.declared.WordError.TheVariants as error
use Rattle.words.specs.Marks.{mark_for}

-- no word before the text's end; a word and the place past it; or BYTE or NUMBER at a place
pub data Next : Type 0 where
  no_more : Next
  next : Word → (end : ℕ) → Next
  stop : Refusal → (place : ℕ) → Next

-- what begins at place i; where that is a separator, what comes after it
abbrev pub begun : ℕ → Front → (after : Next) → Next
begun i gap n = n
begun i (word w more) n = next w (i + 1 + more)
begun i (bad r) n = stop r i

-- the next word in some bytes that stand at place i
unfoldable pub next_in : List ℕ → ℕ → Next
next_in [] i = no_more
next_in (b ∷ s) i = begun i (front i b s) (next_in s (i + 1))

abbrev pub next_from : (text : List ℕ) → (place : ℕ) → Next
next_from text i = next_in (drop i text) i

-- what the code answers for a text's next word: a word, or none before the text's end; or why the text is refused
abbrev pub Found : Type 0
Found = Result (Option found.Word) WordError

abbrev pub found_word : Token → (start end : ℕ) → Found
found_word t i e = Ok (Some (record { token = t; start = i; end = e }))

-- the refusal that an error stands for, and its place
abbrev pub refusal_of : WordError → Refusal
refusal_of (error.Byte p) = BYTE
refusal_of (error.Number p) = NUMBER

abbrev pub place_of : WordError → ℕ
place_of (error.Byte p) = p
place_of (error.Number p) = p

-- the error for a refusal: of words that is BYTE or NUMBER (`Kept` of proofs/Following)
abbrev pub error_for : Refusal → (place : ℕ) → WordError
error_for r p = cond (eqb (refusal_number r) (refusal_number NUMBER)) (error.Number p) (error.Byte p)

-- what the code says of a word; a name is told by its bytes alone
abbrev pub token_for : Word → Token
token_for (mark m p) = token.Mark (mark_for m)
token_for (number p z) = token.Number z
token_for (named x) = token.Name

-- the code's answer for the next word
abbrev pub told : Next → Found
told no_more = Ok None
told (next w e) = found_word (token_for w) (place_word w) e
told (stop r p) = Err (error_for r p)

abbrev pub found_from : (text : List ℕ) → (place : ℕ) → Found
found_from text i = told (next_from text i)

-- the code's answer where a word or a refusal stands
abbrev pub found_there : Result found.Word WordError → Found
found_there (Ok w) = Ok (Some w)
found_there (Err e) = Err e

-- the code's answer for an amount that is written from `start` to `end`
abbrev pub amount_found : (start end : ℕ) → Result ℤ AmountError → Result found.Word WordError
amount_found i e (Ok z) = Ok (record { token = token.Number z; start = i; end = e })
amount_found i e (Err a) = Err (error.Number i)

-- the code's answer for a number that was looked for at a place
abbrev pub read_found : (place : ℕ) → Option Numeral → Result found.Word WordError
read_found i (Some n) = amount_found i n.end n.value
read_found i None = Err (error.Byte i)
