-- What is claimed of the house form and of WRITE, each claim as a type with a sentence; proofs/Claims.antt proves each.
use Rattle.std.specs.Prelude.{take, ◌≡◌, ◌↔◌, ◌+◌, ◌-◌, ◌≤◌, ◌∷◌}
use Rattle.language.specs.Library.{ℕ, String, true, List, [], map, length}
use Rattle.language.specs.Syntax.{Block}
use Rattle.language.specs.Bytes.{bytes_of}
use Rattle.language.specs.Answers.{done, fine}
use Rattle.language.specs.Words.{most, decimal}
use Rattle.language.specs.Table.{none, shape_block, Node, node, enc, table}
use Rattle.language.specs.Promises.{Verdict, text_bytes, tree_words, Lent, tree_table, large_enough, holding, cleared, Check}
use Rattle.house_form.specs.House.{digits, house_form_of, SameTree, as_check, Written, Write}

-- Reading what was written gives the same tree but for the places, with the same numbers and names: the form of an accepted text is accepted.
abbrev pub ReadsBack : Type 0
ReadsBack = (s : List ℕ) (b : Block) → Verdict s (fine b) → (c : Block) × Verdict (house_form_of s) (fine c) × SameTree b c

-- Two accepted texts get equal forms exactly when their trees agree in all but places.
abbrev pub EqualForms : Type 0
EqualForms = (s t : List ℕ) (b c : Block) → Verdict s (fine b) → Verdict t (fine c) → (house_form_of s ≡ house_form_of t) ↔ SameTree b c

abbrev pub placeless : Node → Node
placeless (node k p c s) = node k 0 c s

-- Trees that agree so have the same tree words but for the places: kind, first child and next sibling of each node.
abbrev pub SameWords : Type 0
SameWords = (b c : Block) → SameTree b c → map placeless (enc (shape_block b none) 0) ≡ map placeless (enc (shape_block c none) 0)

-- Writing twice changes nothing.
abbrev pub WritesOnce : Type 0
WritesOnce = (s : List ℕ) (b : Block) → Verdict s (fine b) → house_form_of (house_form_of s) ≡ house_form_of s

abbrev pub wrote : Written → List ℕ  -- the bytes that were written
wrote w = take w.bytes w.page

-- What WRITE wrote, if it is no more than 16,384 bytes, CHECK accepts, leaving a tree that agrees with the text's, and WRITE writes again, byte for byte,
-- wherever the tables are large enough.
abbrev pub WritesBack : Type 0
WritesBack = (text tree : List ℕ) (works : List Lent) (page : List ℕ) (w : Written) →
    Write text tree works page w → w.answer ≡ as_check done → w.bytes ≤ text_bytes →
    (tree' : List ℕ) (works' : List Lent) (page' : List ℕ) → large_enough (tree_table tree' ∷ works') ≡ true → w.bytes ≤ length page' →
    ((b c : Block) × Verdict text (fine b) × SameTree b c ×
    Check (wrote w) tree' works' (record { answer = done; tree = holding tree_words (table c) tree'; works = cleared works' })) ×
    ((w' : Written) × Write (wrote w) tree' works' page' w' × (w'.answer ≡ as_check done) × (wrote w' ≡ wrote w))

-- A form has at most one byte more for each word but the first: no accepted text's has more than 20,479 bytes.
abbrev pub FormFits : Type 0
FormFits = (s : List ℕ) (b : Block) → Verdict s (fine b) → length s ≤ text_bytes → length (house_form_of s) ≤ text_bytes + (most - 1)

-- Digits write their number, and begin with a zero only where that is all.
abbrev pub PlainDigits : Type 0
PlainDigits = (n : ℕ) → (decimal 0 (digits n) ≡ n) × ((l : List ℕ) → digits n ≡ 48 ∷ l → (n ≡ 0) × (l ≡ []))

-- For every input WRITE has an answer and leaves something, and both are the only ones.
abbrev pub OneWrite : Type 0
OneWrite = (text tree : List ℕ) (works : List Lent) (page : List ℕ) →
    ((w : Written) × Write text tree works page w) × ((w w' : Written) → Write text tree works page w → Write text tree works page w' → w ≡ w')

-- ---- examples

pub record Sample : Type 0 where  -- a text and its form
  pub text : String
  pub house : String

abbrev pub sample : String → String → Sample
sample t h = record { text = t; house = h }

abbrev pub AllWritten : List Sample → Type 0
AllWritten [] = Unit {0}
AllWritten (x ∷ xs) = (house_form_of (bytes_of x.text) ≡ bytes_of x.house) × AllWritten xs

abbrev pub samples : List Sample
samples =
    sample "[ECHO 1]" "[ ECHO 1 ]" ∷
    sample " [ECHO(add 007 -0)]\n" "[ ECHO ( add 7 0 ) ]" ∷
    sample "[ECHO(sub-10-9223372036854775808)]" "[ ECHO ( sub -10 -9223372036854775808 ) ]" ∷
    sample "[CONST f (int*int->int) [x:int,y:int]x;\tECHO (f 1 2)]" "[ CONST f ( int * int -> int ) [ x : int , y : int ] x ; ECHO ( f 1 2 ) ]" ∷
    sample "[PROC p[var x:int][SET x 12ab];VAR ab int;CALL p(adr ab)]" "[ PROC p [ var x : int ] [ SET x 12 ab ] ; VAR ab int ; CALL p ( adr ab ) ]" ∷
    sample "[FUN f(vec int)[n:int][RETURN(alloc int n)];ECHO(nth(vset(f 2)0 7)0);ECHO(len(f 00))]"
    "[ FUN f ( vec int ) [ n : int ] [ RETURN ( alloc int n ) ] ; ECHO ( nth ( vset ( f 2 ) 0 7 ) 0 ) ; ECHO ( len ( f 0 ) ) ]" ∷
    []

-- The forms of these texts.
abbrev pub SamplesWritten : Type 0
SamplesWritten = AllWritten samples
