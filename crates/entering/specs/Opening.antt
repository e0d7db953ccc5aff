-- What entries, calls and definitions answer, in the evaluator's terms.
use Rattle.std.specs.Prelude.{◌≡◌, ℕ, ◌-◌, List, eqb, Result}
use Rattle.machine.specs.declared.Cell.{Cell}
use Rattle.nodes.specs.declared.Node.{Node}
use Rattle.nodes.specs.Nodes.{node_at}
use Rattle.machine.specs.declared.Ending.{Ending}
use Rattle.machine.specs.declared.Ending.TheVariants.{Value, NoRule}
use Rattle.stores.specs.declared.End.{End}
use Rattle.stores.specs.Ends.{ending}
use Rattle.entering.specs.declared.Entered.{Entered}
use Rattle.entering.specs.declared.Form.{Form}
use Rattle.entering.specs.declared.Form.TheVariants.{Application, Call}
use Rattle.machine.specs.Entries.{pick, function_tag, recursive_function_tag, procedure_tag, recursive_procedure_tag, unset_tag, done_tag, cell, closure_word}
use Rattle.machine.specs.State.{Run, Tables, Ret, is, guard}
use Rattle.machine.specs.Leaves.{Opened, open_function_at, open_procedure_at, define, define_cell}

-- an entry at place p with d levels left: the answer is how many are left below it
unfoldable pub guarded : (d p : ℕ) → Tables → Ret
guarded d p m = guard d p m λ m₁. is (Value done_tag (d - 1)) m₁

-- environment and bindings after a call's are made
abbrev pub opened : ℕ → List ℕ → Opened
opened e b = record { env = e; bindings = b }

-- what is entered
abbrev pub entered_ending : Result Entered End → Ending
entered_ending r = ending (λ x. Value x.env x.body) r

-- the numbers that stand for a form: 23, the kind of its node, for an application, and every other for a CALL
abbrev pub StandsFor : ℕ → Form → Type 0
StandsFor f Application = f ≡ 23
StandsFor f Call = f ≡ 23 → ⊥

-- a cell made at the place p, which is not set
abbrev pub fresh_cell : (p : ℕ) → Cell
fresh_cell p = cell p unset_tag 0

-- a definition that evaluates nothing, by the kind k of the node n
module _ (g : Run) where
  unfoldable pub definition_by : (k env : ℕ) → Node → Tables → Ret
  definition_by k env n m =
      let x = node_at g.tree n.child in
      pick (eqb k 3) (λ _. define g n.place function_tag (closure_word (node_at g.tree x.next).next env) env m) λ _.
      pick (eqb k 4) (λ _. define g n.place recursive_function_tag (closure_word n.child env) env m) λ _.
      pick (eqb k 5) (λ _. define_cell g n.place env m) λ _.
      pick (eqb k 6) (λ _. define g n.place procedure_tag (closure_word x.next env) env m) λ _.
      pick (eqb k 7) (λ _. define g n.place recursive_procedure_tag (closure_word n.child env) env m) λ _.
      pick (eqb k 32) (λ _. define g n.place procedure_tag (closure_word (node_at g.tree x.next).next env) env m) λ _.
      pick (eqb k 33) (λ _. define g n.place recursive_procedure_tag (closure_word n.child env) env m) λ _.
      is NoRule m

  unfoldable pub definition : (env : ℕ) → Node → Tables → Ret
  definition env n m = definition_by n.kind env n m

  -- a value applied by an application (23) or a CALL
  unfoldable pub opens : (form p n sp tag word : ℕ) → Tables → Ret
  opens f p n sp t x m = pick (eqb f 23) (λ _. open_function_at g p n sp t x m) λ _. open_procedure_at g p n sp t x m
