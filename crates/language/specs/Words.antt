-- From bytes to words, document 01.
use Rattle.std.specs.Prelude.{◌+◌, ◌-◌, ◌*◌, ◌&&◌, ◌||◌, ◌∷◌}
use Rattle.language.specs.Library.{ℕ, zero, suc, String, ℤ, pos, neg_ℤ, Bool, false, cond, eqb, leb, List, [], length, drop, Option, none, some}
use Rattle.language.specs.Syntax.{Name, Ident, at}
use Rattle.language.specs.Bytes.{bytes_of, same_bytes}
use Rattle.language.specs.Places.{place_ident}
use Rattle.language.specs.Answers.{Refusal, BYTE, NUMBER, Result, fine, refuse}
use Rattle.language.specs.Numbers.{in_range}

pub data Mark : Type 0 where  -- the symbols and the key words
  k_lbr k_rbr k_lpar k_rpar k_semi k_colon k_comma k_star k_arrow : Mark
  k_const k_fun k_rec k_var k_proc k_echo k_set k_if k_while k_call k_return kif kand kor kbool kint kvar kadr kvec kalloc knth klen kvset : Mark

pub data Word : Type 0 where  -- a word of a text, with the place of its first byte
  mark : Mark → (place : ℕ) → Word
  number : (place : ℕ) → ℤ → Word
  named : Ident → Word

abbrev pub place_word : Word → ℕ
place_word = elim [ mark m p ↦ p | number p z ↦ p | named x ↦ place_ident x ]

abbrev pub one_of : List ℕ → ℕ → Bool  -- a byte that is one of these
one_of [] b = false
one_of (x ∷ s) b = eqb b x || one_of s b

abbrev pub is_sep : ℕ → Bool  -- a separator
is_sep b = one_of (bytes_of " \t\n\r") b

abbrev pub is_letter : ℕ → Bool
is_letter b = (leb 65 b && leb b 90) || (leb 97 b && leb b 122)

abbrev pub is_digit : ℕ → Bool
is_digit b = leb 48 b && leb b 57

abbrev pub is_plain : ℕ → Bool
is_plain b = is_letter b || is_digit b

abbrev pub stretch : (ℕ → Bool) → List ℕ → List ℕ  -- the longest front whose bytes pass a test
stretch p [] = []
stretch p (b ∷ s) = cond (p b) (b ∷ stretch p s) []

pub data Spelling : Type 0 where  -- what a spelling means; the first line that has it counts
  means : String → Mark → Spelling

abbrev pub symbols : List Spelling
symbols =
    means "[" k_lbr ∷ means "]" k_rbr ∷ means "(" k_lpar ∷ means ")" k_rpar ∷ means ";" k_semi ∷ means ":" k_colon ∷ means "," k_comma ∷ means "*" k_star ∷ []

abbrev pub key_words : List Spelling
key_words =
    means "CONST" k_const ∷ means "FUN" k_fun ∷ means "REC" k_rec ∷ means "VAR" k_var ∷ means "PROC" k_proc
    ∷ means "ECHO" k_echo ∷ means "SET" k_set ∷ means "IF" k_if ∷ means "WHILE" k_while ∷ means "CALL" k_call ∷ means "RETURN" k_return
    ∷ means "if" kif ∷ means "and" kand ∷ means "or" kor ∷ means "bool" kbool ∷ means "int" kint ∷ means "var" kvar ∷ means "adr" kadr
    ∷ means "vec" kvec ∷ means "alloc" kalloc ∷ means "nth" knth ∷ means "len" klen ∷ means "vset" kvset ∷ []

abbrev pub mark_of : List Spelling → List ℕ → Option Mark
mark_of [] w = none
mark_of (means t m ∷ ms) w = cond (same_bytes (bytes_of t) w) (some m) (mark_of ms w)

-- What begins at the front of some bytes: a separator; a word, and how many bytes it has after its first; or BYTE or NUMBER.
pub data Front : Type 0 where
  gap : Front
  word : Word → (more : ℕ) → Front
  bad : Refusal → Front

abbrev pub spelled : ℕ → List ℕ → Front  -- letters and digits, from a letter on: a key word or a name
spelled i w = elim (mark_of key_words w) [ none ↦ word (named (at i w)) (length w - 1) | some m ↦ word (mark m i) (length w - 1) ]

abbrev pub decimal : ℕ → List ℕ → ℕ  -- the number that digits write, after those that write n
decimal n [] = n
decimal n (b ∷ s) = decimal (n * 10 + (b - 48)) s

abbrev pub numeral : ℕ → ℤ → ℕ → Front  -- a written number must be in the range
numeral i z more = cond (in_range z) (word (number i z) more) (bad NUMBER)

abbrev pub minus : ℕ → List ℕ → Front  -- after a `-`: the arrow, a number, or a byte in no word
minus i [] = bad BYTE
minus i (b ∷ s) =
    cond (eqb b 62) (word (mark k_arrow i) 1)
    (cond (is_digit b) (numeral i (neg_ℤ (pos (decimal 0 (stretch is_digit (b ∷ s))))) (length (stretch is_digit (b ∷ s)))) (bad BYTE))

abbrev pub symbol : ℕ → ℕ → Front
symbol i b = elim (mark_of symbols (b ∷ [])) [ none ↦ bad BYTE | some m ↦ word (mark m i) 0 ]

abbrev pub front : ℕ → ℕ → List ℕ → Front  -- what begins with the byte b at place i, before the bytes s
front i b s =
    cond (is_sep b) gap
    (cond (is_letter b) (spelled i (stretch is_plain (b ∷ s)))
    (cond (is_digit b) (numeral i (pos (decimal 0 (stretch is_digit (b ∷ s)))) (length (stretch is_digit s)))
    (cond (eqb b 45) (minus i s) (symbol i b))))

abbrev pub before : Word → Result (List Word) → Result (List Word)
before w (fine ws) = fine (w ∷ ws)
before w (refuse r p) = refuse r p

-- The words of a text, or its first BYTE or NUMBER: those that begin in `s`, which stands at place `i`, after `k` bytes of the word before it.
unfoldable pub words_from : List ℕ → (k i : ℕ) → (Result (List Word))
words_from [] k i = fine []
words_from (b ∷ s) (suc k) i = words_from s k (i + 1)
words_from (b ∷ s) zero i =
    elim (front i b s) [ gap ↦ words_from s 0 (i + 1) | word w more ↦ before w (words_from s more (i + 1)) | bad r ↦ refuse r i ]

abbrev pub words_of : List ℕ → (Result (List Word))
words_of s = words_from s 0 0

abbrev pub most : ℕ  -- at most so many words; else 6 TOKENS, at the next
most = 4096

-- NAME, for the report desk: the longest stretch of letters and digits from a place, if it starts with a letter.
abbrev pub name_from : List ℕ → Name
name_from [] = []
name_from (b ∷ s) = cond (is_letter b) (stretch is_plain (b ∷ s)) []

abbrev pub name_at : List ℕ → ℕ → Name
name_at s p = name_from (drop p s)
