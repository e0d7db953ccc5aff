-- What the loop over the words of a text computes. Nothing here is believed: `Scanned` of reading ties it to the answer of reading.
use Rattle.std.specs.Prelude as code
use Rattle.std.specs.Prelude.{cond, List, [], ◌∷◌, ℕ, ◌+◌, ◌*◌, eqb, leb, length, set, Ok, Err}
use Rattle.language.specs.Answers.{TOKENS, Result, fine, refuse, refusal_number}
use Rattle.language.specs.Words.{Word, place_word}
use Rattle.language.proofs.Reading.Machine.{tag}
use Rattle.words.specs.Next.{refusal_of, place_of}
use Rattle.scanning.specs.declared.ScanError.{ScanError}
use Rattle.scanning.specs.declared.ScanError.TheVariants as error

-- a word of the text: its kind and its place
abbrev pub word_entry : Word → ℕ
word_entry x = tag x * 65536 + place_word x

-- how a loop over the words ends: all are read, with the table that it fills and how many entries that has; or a refusal's number and place
pub data Ended : Type 0 where
  whole : List ℕ → ℕ → Ended
  halted : (number place : ℕ) → Ended

-- the place of the first word for which a table of so many entries has no room: the n-th word is at p
abbrev pub first_over : (n size p over : ℕ) → ℕ
first_over n size p over = cond (eqb n size) p over

-- after n words: the table holds them and how many they are, or there are too many
abbrev pub counted : List ℕ → (n over : ℕ) → Ended
counted l n over = cond (leb n (length l)) (whole l n) (halted (refusal_number TOKENS) over)

-- the words that are left go into the table from its entry n on; `over` is the place of the first for which there was no room
abbrev pub stored : List Word → List ℕ → (n over : ℕ) → Ended
stored [] l n over = counted l n over
stored (w ∷ ws) l n over = stored ws (set l n (word_entry w)) (n + 1) (first_over n (length l) (place_word w) over)

-- the words, or BYTE or NUMBER
abbrev pub scanned : Result (List Word) → List ℕ → (n over : ℕ) → Ended
scanned (fine ws) l n over = stored ws l n over
scanned (refuse r p) l n over = halted (refusal_number r) p

-- what `read_words` answers, with the table that it leaves
abbrev pub scan_ending : code.Result ℕ ScanError → List ℕ → Ended
scan_ending (Ok n) table = whole table n
scan_ending (Err (error.Word e)) table = halted (refusal_number (refusal_of e)) (place_of e)
scan_ending (Err (error.Tokens p)) table = halted (refusal_number TOKENS) p
