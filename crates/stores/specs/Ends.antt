-- What the code answers, in the evaluator's terms.
use Rattle.std.specs.Prelude.{ℕ, Result, Ok, Err}
use Rattle.machine.specs.declared.Row.{Row}
use Rattle.machine.specs.declared.Ending.{Ending}
use Rattle.machine.specs.declared.Ending.TheVariants.{Value, Stop, Unset, Returned, NoRule}
use Rattle.machine.specs.Entries.{address_tag, done_tag}
use Rattle.stores.specs.declared.End.{End}
use Rattle.stores.specs.declared.End.TheVariants as E

-- what is no value
abbrev pub end_of : End → Ending
end_of (E.Stop n p) = Stop n p
end_of (E.Unset p q) = Unset p q
end_of (E.Returned r) = Returned r.tag r.word
end_of E.NoRule = NoRule

-- an answer, by what is said of its value
abbrev pub ending : {A : Type 0} → (A → Ending) → Result A End → Ending
ending f (Ok a) = f a
ending f (Err e) = end_of e

-- a value
abbrev pub row_ending : Result Row End → Ending
row_ending r = ending (λ x. Value x.tag x.word) r

-- the address of a cell
abbrev pub cell_ending : Result ℕ End → Ending
cell_ending r = ending (λ a. Value address_tag a) r

-- what is done, with the environment, the node or the count after it
abbrev pub done_ending : Result ℕ End → Ending
done_ending r = ending (λ x. Value done_tag x) r
