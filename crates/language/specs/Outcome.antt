-- What a run reports.
use Rattle.language.specs.Library.{ℕ, ℤ, List, [], length, Option, none, some}
use Rattle.language.specs.Syntax.{Block}
use Rattle.language.specs.Answers.{Refusal, Answer, done, refused, stopped, Result, fine, refuse}
use Rattle.language.specs.Limits.{Limits}
use Rattle.language.specs.Rules.{State, stop, no_rule, Outcome, ok, halt, run}

abbrev pub state_of : {A : Type 0} → Outcome A → State
state_of (ok a s) = s
state_of (halt w p s) = s

abbrev pub end_of : {A : Type 0} → Outcome A → Option Answer  -- the end, as an answer of document 01; a state that no rule fits has none
end_of (ok a s) = some done
end_of (halt (stop w) p s) = some (stopped w p)
end_of (halt no_rule p s) = none

pub record Report : Type 0 where  -- a report: the end, the counts of what was taken, and the numbers put out, oldest first
  pub end : Option Answer
  pub units : ℕ
  pub bindings : ℕ
  pub cells : ℕ
  pub numbers : List ℤ

abbrev pub report_from : Option Answer → State → Report
report_from e s = record { end = e; units = s.units; bindings = s.bindings; cells = length s.cells; numbers = s.numbers }

abbrev pub report : Outcome (Unit {0}) → Report
report o = report_from (end_of o) (state_of o)

abbrev pub refusal_report : Refusal → ℕ → Report  -- a report of a refusal: nothing was taken or put out
refusal_report r q = record { end = some (refused r q); units = 0; bindings = 0; cells = 0; numbers = [] }

abbrev pub report_of : Limits → Result Block → Report  -- what a run reports of a text's verdict: its run if it has a tree, else the refusal
report_of L (fine b) = report (run L b)
report_of L (refuse r p) = refusal_report r p
