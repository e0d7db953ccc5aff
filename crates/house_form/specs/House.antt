-- The house form of a text (request 3): its words, each in its one spelling, with one space between them and none at the ends; and what WRITE promises.
use Rattle.std.specs.Prelude.{◌/◌, ◌%◌, ◌≡◌, ◌+◌, ◌≤◌, ◌<◌, ◌∷◌, ◌++◌}
use Rattle.language.specs.Library.{ℕ, zero, suc, String, ℤ, pos, negsuc, true, false, ltb, List, [], length, drop}
use Rattle.language.specs.Syntax.{at, Block}
use Rattle.language.specs.Bytes.{bytes_of}
use Rattle.language.specs.Answers.{Refusal, Answer, done, refused, number_of, place_of, Result, fine, refuse}
use Rattle.language.specs.Words.{Mark, k_lbr, k_rbr, k_lpar, k_rpar, k_semi, k_colon, k_comma, k_star, k_arrow, k_const, k_fun, k_rec, k_var, k_proc, k_echo, k_set, k_if, k_while, k_call, k_return, kif, kand, kor, kbool, kint, kvar, kadr, kvec, kalloc, knth, klen, kvset, Word, mark, number, named, words_of}
use Rattle.language.specs.Grammar.{BLOCK}
use Rattle.language.specs.Promises.{Lent, Check}
use Rattle.renaming.specs.Alike.{Alike}

-- ---- how a word is spelled

abbrev pub mark_text : Mark → String
mark_text =
    elim [
      | k_lbr ↦ "["
      | k_rbr ↦ "]"
      | k_lpar ↦ "("
      | k_rpar ↦ ")"
      | k_semi ↦ ";"
      | k_colon ↦ ":"
      | k_comma ↦ ","
      | k_star ↦ "*"
      | k_arrow ↦ "->"
      | k_const ↦ "CONST"
      | k_fun ↦ "FUN"
      | k_rec ↦ "REC"
      | k_var ↦ "VAR"
      | k_proc ↦ "PROC"
      | k_echo ↦ "ECHO"
      | k_set ↦ "SET"
      | k_if ↦ "IF"
      | k_while ↦ "WHILE"
      | k_call ↦ "CALL"
      | k_return ↦ "RETURN"
      | kif ↦ "if"
      | kand ↦ "and"
      | kor ↦ "or"
      | kbool ↦ "bool"
      | kint ↦ "int"
      | kvar ↦ "var"
      | kadr ↦ "adr"
      | kvec ↦ "vec"
      | kalloc ↦ "alloc"
      | knth ↦ "nth"
      | klen ↦ "len"
      | kvset ↦ "vset"
    ]

-- a number's digits: below 10 it is one digit; else those of its tenth part, and then its last.
-- The count makes the recursion structural; the number itself is enough
unfoldable pub digits_in : ℕ → ℕ → List ℕ
digits_in zero n = (48 + n) ∷ []
digits_in (suc k) n = elim (ltb n 10) [ true ↦ (48 + n) ∷ [] | false ↦ digits_in k (n / 10) ++ ((48 + n % 10) ∷ []) ]

abbrev pub digits : ℕ → List ℕ
digits n = digits_in n n

abbrev pub number_text : ℤ → List ℕ  -- no leading zeros, and no `-0`
number_text = elim [ pos n ↦ digits n | negsuc n ↦ 45 ∷ digits (suc n) ]

abbrev pub spelling : Word → List ℕ
spelling = elim [ mark m p ↦ bytes_of (mark_text m) | number p z ↦ number_text z | named (at p x) ↦ x ]

-- ---- the form

abbrev pub spaced : List Word → List ℕ  -- each word behind a space
spaced [] = []
spaced (w ∷ ws) = 32 ∷ (spelling w ++ spaced ws)

abbrev pub form : List Word → List ℕ  -- the form of words: a space between them, none at the ends
form [] = []
form (w ∷ ws) = spelling w ++ spaced ws

abbrev pub form_of : Result (List Word) → List ℕ
form_of (fine ws) = form ws
form_of (refuse r p) = []

unfoldable pub house_form_of : List ℕ → List ℕ  -- the form of a text is that of its words
house_form_of text = form_of (words_of text)

abbrev pub SameTree : Block → Block → Type 0  -- trees that agree in all but places: the same numbers and names at leaves and parameters
SameTree b c = Alike ◌≡◌ BLOCK b c

-- ---- WRITE

pub data WriteAnswer : Type 0 where  -- what WRITE says: what CHECK says, or 30 ROOM
  as_check : Answer → WriteAnswer
  ROOM : WriteAnswer

abbrev pub write_number : WriteAnswer → ℕ
write_number = elim [ as_check a ↦ number_of a | ROOM ↦ 30 ]

abbrev pub write_place : WriteAnswer → ℕ
write_place = elim [ as_check a ↦ place_of a | ROOM ↦ 0 ]

pub record Written : Type 0 where  -- an answer, how many bytes were written, and what the tables then hold: the tree, the working tables, the page
  pub answer : WriteAnswer
  pub bytes : ℕ
  pub tree : List ℕ
  pub works : List (List ℕ)
  pub page : List ℕ

-- `page` is the lent table that the form is written to, a byte an entry
module _ (text tree : List ℕ) (works : List Lent) (page : List ℕ) where
  pub data Write : Written → Type 0 where
    -- 1 and 3 to 10: as CHECK answers and leaves; the page is unchanged
    refuses : {r : Refusal} {p : ℕ} {t : List ℕ} {w : List (List ℕ)} →
        Check text tree works (record { answer = refused r p; tree = t; works = w }) →
        Write (record { answer = as_check (refused r p); bytes = 0; tree = t; works = w; page = page })
    -- 30 ROOM: CHECK accepts, and the form is longer than the page, which is unchanged; the tree is left as CHECK leaves it
    no_room : {t : List ℕ} {w : List (List ℕ)} →
        Check text tree works (record { answer = done; tree = t; works = w }) → length page < length (house_form_of text) →
        Write (record { answer = ROOM; bytes = 0; tree = t; works = w; page = page })
    -- 0: the form, and behind it the page as it was
    writes : {t : List ℕ} {w : List (List ℕ)} →
        Check text tree works (record { answer = done; tree = t; works = w }) → length (house_form_of text) ≤ length page →
        Write (record {
          answer = as_check done;
          bytes = length (house_form_of text);
          tree = t;
          works = w;
          page = house_form_of text ++ drop (length (house_form_of text)) page;
        })
