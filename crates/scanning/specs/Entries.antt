-- A word as an entry of the word table.
use Rattle.std.specs.Prelude.{ℕ, ◌+◌, ◌*◌}
use Rattle.language.proofs.Reading.Machine.{code, t_num, t_name}
use Rattle.words.specs.declared.Word.{Word}
use Rattle.words.specs.declared.Token.{Token}
use Rattle.words.specs.declared.Token.TheVariants as token
use Rattle.words.specs.Marks.{meant}

abbrev pub kind_of : Token → ℕ
kind_of (token.Mark mark) = code (meant mark)
kind_of (token.Number value) = t_num
kind_of token.Name = t_name

-- a word's kind and its place
abbrev pub entry_of : Word → ℕ
entry_of word = kind_of word.token * 65536 + word.start
