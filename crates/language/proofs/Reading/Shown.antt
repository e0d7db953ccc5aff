-- What is shown of reading.
use mathlib.Core.Path.{sym, ◌∙◌, ◌≡◌}
use mathlib.Core.List.{List, [], map}
use Prim.Native.Nat.{ℕ, ◌≤◌}
use native.Mathlib.Omega.{arith}
use lib.ListN.{length}
use Rattle.language.specs.Syntax.{Block}
use Rattle.language.specs.Answers.{Result, fine}
use Rattle.language.specs.Words.{Word, most}
use Rattle.language.specs.Grammar.{BLOCK, Reads}
use Rattle.language.specs.Table.{none, shape_block, enc, table}
use Rattle.language.specs.Reading.{Opens, Reading, a_program}
use Rattle.language.specs.Claims.{Rising, place_of_node}
use Rattle.language.proofs.Reading.Reader.{read}
use Rattle.language.proofs.Reading.Standing.{Stands, InsideBlock}
use Rattle.language.proofs.Reading.First.{reached, begins, one_levels}
use Rattle.language.proofs.Reading.Fits.{few_words}
use Rattle.language.proofs.Reading.Payload.{words_stand}
use Rattle.language.proofs.Reading.TextOrder.{nodes_rise}
use Rattle.language.proofs.Reading.Kept.{tree_keeps}
use Rattle.language.proofs.Reading.One as One
use Rattle.language.proofs.Reading.Answer as Answers

-- Every text has an answer.
pub an_answer : (s : List ℕ) → (a : Result Block) × Reading s a
an_answer s = (read s, Answers.answers s)

-- Two answers allowed for one text are equal.
pub one_answer : (s : List ℕ) (a b : Result Block) → Reading s a → Reading s b → a ≡ b
one_answer s a b h k = Answers.one_answer h k

-- Words have at most one tree.
pub one_tree : (ts : List Word) (b c : Block) → Reads BLOCK b ts [] → Reads BLOCK c ts [] → b ≡ c
one_tree ts b c h k = One.one_tree h k

-- In all programs that begin with the same words, these open the same levels.
pub levels_once : (pre : List Word) (ls ms : List ℕ) → Opens pre ls → Opens pre ms → ls ≡ ms
levels_once pre ls ms o m = let A = reached (begins o) in sym (one_levels A o) ∙ one_levels A m

room_of : {s : List ℕ} {b : Block} → Reading s (fine b) → length (table b) ≤ most
room_of (a_program e h r w) = let n = few_words r in omega (arith, n, h)

-- An accepted text's tree table has room in 4,096 words.
pub room : (s : List ℕ) (b : Block) → Reading s (fine b) → length (table b) ≤ most
room s b h = room_of h

in_text_order_of : (s : List ℕ) {b : Block} → Reading s (fine b) → Rising 0 (map place_of_node (enc (shape_block b none) 0))
in_text_order_of s (a_program {ts} e h r w) = nodes_rise s ts e r

-- Its nodes are numbered in text order, and no two share a first word.
pub in_text_order : (s : List ℕ) (b : Block) → Reading s (fine b) → Rising 0 (map place_of_node (enc (shape_block b none) 0))
in_text_order s b h = in_text_order_of s h

in_place_of : (s : List ℕ) {b : Block} → Reading s (fine b) → InsideBlock b (Stands s)
in_place_of s (a_program {ts} e h r w) = tree_keeps (Stands s) r (words_stand s ts e)

-- Each name and number of an accepted tree is what the text has at its place: so the table's places find them again.
pub in_place : (s : List ℕ) (b : Block) → Reading s (fine b) → InsideBlock b (Stands s)
in_place s b h = in_place_of s h
