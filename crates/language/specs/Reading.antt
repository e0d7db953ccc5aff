-- What reading promises, document 01: a text has one answer, its tree or a refusal with its number and place.
use Rattle.std.specs.Prelude.{◌≡◌, ◌≤◌, ◌∷◌, ◌++◌}
use Rattle.language.specs.Library.{ℕ, suc, List, [], length}
use Rattle.language.specs.Syntax.{Block}
use Rattle.language.specs.Answers.{Refusal, TOKENS, SYNTAX, LEVEL, Result, fine, refuse}
use Rattle.language.specs.Words.{Word, place_word, words_of, most}
use Rattle.language.specs.Grammar.{BLOCK, Reads, Program, Begins}
use Rattle.language.specs.Levels.{levels, deepest}

pub record Opens (pre : List Word) (ls : List ℕ) : Type 0 where  -- some program begins with the words `pre`, and in it they open the levels `ls`
  pub rest : List Word
  pub tree : Block
  pub reads : Reads BLOCK tree (pre ++ rest) []
  pub more : List ℕ
  pub opens : levels tree ≡ ls ++ more
  pub each : length ls ≡ length pre

pub data Within (d : ℕ) : List ℕ → Type 0 where  -- no level is deeper than `d`
  no_level : Within d []
  a_level : {l : ℕ} {ls : List ℕ} → l ≤ d → Within d ls → Within d (l ∷ ls)

abbrev pub Ends : List Word → List Word → Type 0  -- with the first of `rest` the words begin no program any more; at the end, they are none
Ends pre [] = ¬ Program pre
Ends pre (x ∷ rest) = ¬ Begins (pre ++ (x ∷ []))

abbrev pub place_in : List ℕ → List Word → ℕ  -- the place of the first of some words, or the text's length
place_in s [] = length s
place_in s (x ∷ rest) = place_word x

pub data Reading (s : List ℕ) : (Result Block) → Type 0 where  -- the answers to the text `s`, in the order of document 01
  -- 4 BYTE, 5 NUMBER: the first in the whole text, at its place
  bad_word : {r : Refusal} {p : ℕ} → words_of s ≡ refuse r p → Reading s (refuse r p)
  -- 6 TOKENS: more than 4,096 words, at the 4,097th
  too_many_words : (pre : List Word) (x : Word) (rest : List Word) → words_of s ≡ fine (pre ++ (x ∷ rest)) → length pre ≡ most → Reading s (refuse TOKENS (place_word x))
  -- 7 SYNTAX: the words `pre` begin a program, no level past the 64th among them, and with the next word they do not
  begins_none : (pre rest : List Word) {ls : List ℕ} → words_of s ≡ fine (pre ++ rest) → length (pre ++ rest) ≤ most
      → Opens pre ls → Within deepest ls → Ends pre rest
      → Reading s (refuse SYNTAX (place_in s rest))
  -- 8 LEVEL: the words up to `x` begin a program, `x` opens the 65th level, and no word before it opens one past the 64th
  opens_65th : (pre : List Word) (x : Word) (rest : List Word) (ls : List ℕ) → words_of s ≡ fine (pre ++ (x ∷ rest)) → length (pre ++ (x ∷ rest)) ≤ most
      → Opens (pre ++ (x ∷ [])) (ls ++ (suc deepest ∷ [])) → Within deepest ls
      → Reading s (refuse LEVEL (place_word x))
  -- the words are the program `b`, none of which opens a level past the 64th
  a_program : {ts : List Word} {b : Block} → words_of s ≡ fine ts → length ts ≤ most → Reads BLOCK b ts [] → Within deepest (levels b) → Reading s (fine b)
