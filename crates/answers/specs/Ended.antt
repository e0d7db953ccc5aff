-- What a run of the evaluator is reported as.
use Rattle.std.specs.Prelude.{ℕ, ◌-◌, eqb}
use Rattle.language.specs.Answers.{number_of}
use Rattle.machine.specs.Entries.{pick}
use Rattle.machine.specs.declared.Ending.{Ending}
use Rattle.machine.specs.declared.Ending.TheVariants.{Value, Stop, Returned, NoRule}
use Rattle.machine.specs.declared.Ending.TheVariants as E
use Rattle.machine.specs.declared.Counts.{Counts}
use Rattle.answers.specs.declared.Answer.{Answer}
use Rattle.answers.specs.declared.Answer.TheVariants.{Done, «Type», Fuel, Depth, Cells, Bindings, Output, Range, Zero, Unset, Size, Index}
use Rattle.answers.specs.declared.Report.{Report}
use Rattle.answers.specs.Answers.{meant, refusal}

-- a stop by its number, for those that have one place
unfoldable pub stopped_by : ℕ → ℕ → Answer
stopped_by n p =
    pick (eqb n 20) (λ _. Fuel p) λ _.
    pick (eqb n 21) (λ _. Depth p) λ _.
    pick (eqb n 22) (λ _. Cells p) λ _.
    pick (eqb n 23) (λ _. Bindings p) λ _.
    pick (eqb n 24) (λ _. Output p) λ _.
    pick (eqb n 25) (λ _. Range p) λ _.
    pick (eqb n 26) (λ _. Zero p) λ _.
    pick (eqb n 28) (λ _. Size p) λ _.
    pick (eqb n 29) (λ _. Index p) λ _.
    «Type» 0

-- a program that returns and a state that no rule fits have no answer, and an accepted text never comes to one: what stands here is never given
abbrev pub ended : Ending → Answer
ended (Value t x) = Done
ended (Stop n p) = stopped_by n p
ended (E.Unset p q) = Unset p q
ended (Returned t x) = «Type» 0
ended NoRule = «Type» 0

-- an answer with the counts of a run, with so much fuel at the start
abbrev pub counted : (fuel : ℕ) → Answer → Counts → Report
counted f a n = record { answer = a; units = f - n.units; bindings = n.bindings; cells = n.cells; numbers = n.numbers }

-- a refusal has none
abbrev pub reported : (fuel : ℕ) → Ending → Counts → Report
reported f e n = pick (eqb (number_of (meant (ended e))) 9) (λ _. refusal (ended e)) λ _. counted f (ended e) n
