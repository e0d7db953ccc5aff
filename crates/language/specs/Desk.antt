-- Scripts the desk keeps (document 01, those marked *): a text, limits, and what the rules say of it, from reading to the run's end.
use Rattle.std.specs.Prelude.{◌≡◌, ◌∷◌}
use Rattle.language.specs.Library.{ℕ, String, ℤ, pos, negsuc, List, [], some}
use Rattle.language.specs.Syntax.{Block}
use Rattle.language.specs.Bytes.{bytes_of}
use Rattle.language.specs.Answers.{SYNTAX, TYPE, FUEL, DEPTH, ZERO, UNSET, limit, error, Answer, done, stopped, Result}
use Rattle.language.specs.Limits.{Limits, greatest_limits}
use Rattle.language.specs.Outcome.{Report, refusal_report, report_of}
use Rattle.language.specs.Promises.{Verdict}

pub record Case : Type 0 where
  pub script : String
  pub limits : Limits
  pub says : Report

-- the text has a verdict, and what is reported of it is what the table says
abbrev pub Holds : Case → Type 0
Holds c = (v : Result Block) × Verdict (bytes_of c.script) v × (report_of c.limits v ≡ c.says)

abbrev pub AllHold : List Case → Type 0
AllHold [] = Unit {0}
AllHold (c ∷ cs) = Holds c × AllHold cs

abbrev pub case : String → Limits → Report → Case
case s L r = record { script = s; limits = L; says = r }

-- an end, units, bindings, cells, numbers
abbrev pub ends : Answer → (units bindings cells : ℕ) → List ℤ → Report
ends a u b c l = record { end = some a; units = u; bindings = b; cells = c; numbers = l }

abbrev pub limited : (fuel depth bindings cells output : ℕ) → Limits
limited f d b c o = record { fuel = f; depth = d; bindings = b; cells = c; output = o }

abbrev pub desk : List Case
desk =
    case "[ECHO (add 1 2)]" greatest_limits (ends done 4 0 0 (pos 3 ∷ [])) ∷
    case "[ECHO (add 1 2)]" (limited 3 200 4096 4096 4096) (ends (stopped (limit FUEL) 13) 3 0 0 []) ∷
    case "[ECHO 1]" (limited 1000000 1 4096 4096 4096) (ends (stopped (limit DEPTH) 6) 2 0 0 []) ∷
    case "[CONST x int 0; SET x 42]" greatest_limits (refusal_report TYPE 16) ∷
    case "[VAR x int; ECHO x]" greatest_limits (ends (stopped (error (UNSET 1)) 17) 3 1 1 []) ∷
    case "[ECHO (div 1 0)]" greatest_limits (ends (stopped (error ZERO) 6) 4 0 0 []) ∷
    case "[ECHO (div -7 2)]" greatest_limits (ends done 4 0 0 (negsuc 3 ∷ [])) ∷
    case "[]" greatest_limits (refusal_report SYNTAX 1) ∷
    case "[ECHO true]" greatest_limits (refusal_report TYPE 1) ∷
    case "[ECHO y]" greatest_limits (refusal_report TYPE 6) ∷
    case "[CONST f (int * int -> int) add; ECHO 1]" greatest_limits (refusal_report TYPE 28) ∷
    []
