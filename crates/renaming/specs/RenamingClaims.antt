-- Renaming changes nothing (request 9), each claim as a type with a sentence; proofs/Claims.antt proves each.
use Rattle.std.specs.Prelude.{◌≡◌, ◌≤◌, ◌∷◌}
use Rattle.language.specs.Library.{ℕ, String, ℤ, pos, negsuc, List, [], length, Option, none, some}
use Rattle.language.specs.Syntax.{Name, Block}
use Rattle.language.specs.Bytes.{bytes_of}
use Rattle.language.specs.Answers.{RANGE, ZERO, UNSET, SIZE, INDEX, Stop, limit, error, Answer, done, refused, stopped, fine}
use Rattle.language.specs.Names.{free, meaning}
use Rattle.language.specs.Grammar.{BLOCK}
use Rattle.language.specs.Typing.{Typable}
use Rattle.language.specs.Limits.{Limits, greatest_limits}
use Rattle.language.specs.Rules.{run}
use Rattle.language.specs.Outcome.{Report, report}
use Rattle.language.specs.Promises.{Verdict, text_bytes, Lent, Told, Ran, Run}
use Rattle.language.specs.Desk.{ends}
use Rattle.renaming.specs.Alike.{Alike}

-- names that correspond, `N x y`, one to one, the nine to themselves
pub record OneToOne (N : Name → Name → Type 0) : Type 0 where
  pub one_right : (x y z : Name) → N x y → N x z → y ≡ z
  pub one_left : (x y z : Name) → N x z → N y z → x ≡ y
  pub nine_same : (x : Name) → ¬ (meaning x ≡ free) → N x x

-- ---- places are left out

abbrev pub unmade : Stop → Stop  -- UNSET without its second place
unmade = elim [ limit l ↦ limit l | error RANGE ↦ error RANGE | error ZERO ↦ error ZERO | error (UNSET m) ↦ error (UNSET 0) | error SIZE ↦ error SIZE | error INDEX ↦ error INDEX ]

abbrev pub unplaced : Answer → Answer
unplaced = elim [ done ↦ done | refused r p ↦ refused r 0 | stopped w p ↦ stopped (unmade w) 0 ]

abbrev pub unplaced_end : Option Answer → Option Answer
unplaced_end = elim [ none ↦ none | some a ↦ some (unplaced a) ]

abbrev pub unplaced_report : Report → Report  -- the end without its place, the counts and the numbers
unplaced_report r = record { end = unplaced_end r.end; units = r.units; bindings = r.bindings; cells = r.cells; numbers = r.numbers }

abbrev pub unplaced_told : Told → Told
unplaced_told t = record { answer = unplaced t.answer; units = t.units; bindings = t.bindings; cells = t.cells; numbers = t.numbers }

pub record SameRan (r r' : Ran) : Type 0 where  -- RUN says the same but for the place, and leaves the same but for the tree
  pub says_same : unplaced_told r.says ≡ unplaced_told r'.says
  pub works_same : r.works ≡ r'.works
  pub stores_same : r.stores ≡ r'.stores
  pub output_same : r.output ≡ r'.output

-- ---- claims

-- Trees that agree in all but places and names, where the names correspond one to one and the nine to themselves,
-- run to the same numbers, end and counts under the same limits.
abbrev pub RenamedRun : Type 1
RenamedRun = (N : Name → Name → Type 0) → OneToOne N → (b c : Block) → Alike N BLOCK b c → (L : Limits) →
    unplaced_report (report (run L b)) ≡ unplaced_report (report (run L c))

-- So two accepted texts with such trees give the same numbers, end and counts under the same limits.
abbrev pub RenamedText : Type 1
RenamedText = (N : Name → Name → Type 0) → OneToOne N → (s t : List ℕ) (b c : Block) →
    Verdict s (fine b) → Verdict t (fine c) → Alike N BLOCK b c → (L : Limits) →
    unplaced_report (report (run L b)) ≡ unplaced_report (report (run L c))

-- And RUN says the same of both but for the place, and leaves the same in every table but the tree's, whatever limits and tables it is given.
abbrev pub RenamedAnswer : Type 1
RenamedAnswer = (N : Name → Name → Type 0) → OneToOne N → (s t : List ℕ) (b c : Block) →
    Verdict s (fine b) → Verdict t (fine c) → Alike N BLOCK b c → length s ≤ text_bytes → length t ≤ text_bytes →
    (L : Limits) (tree : List ℕ) (works stores : List Lent) (output : List ℤ) (r r' : Ran) →
    Run L s tree works stores output r → Run L t tree works stores output r' → SameRan r r'

-- Such a tree is typed where the other is: a renamed text is accepted again.
abbrev pub RenamedTypes : Type 1
RenamedTypes = (N : Name → Name → Type 0) → OneToOne N → (b c : Block) → Alike N BLOCK b c → Typable b → Typable c

-- ---- examples

-- two accepted texts whose trees agree in all but places and names that correspond, and what is reported of each under the greatest limits
pub record Pair (N : Name → Name → Type 0) (s t : String) (r q : Report) : Type 0 where
  pub left : Block
  pub right : Block
  pub left_accepted : Verdict (bytes_of s) (fine left)
  pub right_accepted : Verdict (bytes_of t) (fine right)
  pub agree : Alike N BLOCK left right
  pub left_says : report (run greatest_limits left) ≡ r
  pub right_says : report (run greatest_limits right) ≡ q

-- A text and another whose two names are swapped: the same numbers, end and counts.
abbrev pub SwappedNames : Type 1
SwappedNames = (N : Name → Name → Type 0) × OneToOne N ×
    Pair N "[CONST x int 1; CONST y int 2; ECHO (sub x y)]" "[CONST y int 1;CONST x int 2;ECHO(sub y x)]"
    (ends done 8 2 0 (negsuc 0 ∷ [])) (ends done 8 2 0 (negsuc 0 ∷ []))

-- One to one is needed: where two names become one, and each name still becomes one only, the nine themselves, the numbers differ.
abbrev pub OneToOneIsNeeded : Type 1
OneToOneIsNeeded = (N : Name → Name → Type 0) × ((x y z : Name) → N x y → N x z → y ≡ z) × ((x : Name) → ¬ (meaning x ≡ free) → N x x) ×
    Pair N "[CONST x int 1; CONST y int 2; ECHO x]" "[CONST a int 1; CONST a int 2; ECHO a]" (ends done 6 2 0 (pos 1 ∷ [])) (ends done 6 2 0 (pos 2 ∷ []))
