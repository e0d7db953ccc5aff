-- What the evaluator does without evaluating anything: names, numbers, cells, operators, blocks of cells, and the entry of a call.
use Rattle.std.specs.Prelude.{ℕ, zero, suc, ◌+◌, ◌-◌, Bool, true, false, cond, List, eqb, ltb, leb, ℤ, pos, ◌+ℤ◌, ◌-ℤ◌, ◌*ℤ◌}
use Rattle.std.specs.Int.Signed.{lt_z}
use Rattle.std.specs.Int.{w64}
use Rattle.std.proofs.Common.{to_z, of_z}
use Rattle.language.specs.Answers.{ZERO, error, stop_number}
use Rattle.language.specs.Numbers.{Computed, amount, fails, ranged, quotient, same_number, bit}
use Rattle.nodes.specs.Nodes.{node_at}
use Rattle.machine.specs.declared.Row.{Row}
use Rattle.machine.specs.declared.Binding.{Binding}
use Rattle.machine.specs.declared.Ending.{Ending}
use Rattle.machine.specs.declared.Ending.TheVariants.{Value, Stop, Unset, NoRule}
use Rattle.machine.specs.Entries.{pick, number_tag, function_tag, recursive_function_tag, procedure_tag, recursive_procedure_tag, address_tag, unset_tag, done_tag, block_tag, first_free, first_below, most_steps, row_after, row_at, cell_at, binding, binding_at, put_binding, node_of, env_of, block_word, first_of, length_of}
use Rattle.machine.specs.State.{Run, Tables, Ret, is, and_then, if_value, bind, new_cells, store}

-- ---- names

-- the code of the latest binding of env: how many are in force there, counted from `first_free` on
unfoldable pub code_in : (bindings : List ℕ) (env : ℕ) → ℕ
code_in b env = pick (eqb env 0) (λ _. first_free) λ _. (binding_at b (env - 1)).code

-- the environment to which the latest binding of env jumps
unfoldable pub jump_at : (bindings : List ℕ) (env : ℕ) → ℕ
jump_at b env = pick (eqb env 0) (λ _. 0) λ _. (binding_at b (env - 1)).jump

-- where a binding behind env jumps to: over the two jumps from env at once where they are equally long, else to env
unfoldable pub jump_from : (bindings : List ℕ) (env : ℕ) → ℕ
jump_from b env =
    let j = jump_at b env in
    let k = jump_at b j in
    pick (eqb (code_in b env + code_in b k) (code_in b j + code_in b j)) (λ _. k) λ _. env

-- a binding of the value t x behind env
unfoldable pub binding_behind : (bindings : List ℕ) (tag word env : ℕ) → Binding
binding_behind b t x env = binding (suc (code_in b env)) t x env (jump_from b env)

-- the value of the binding with the code c, in at most n steps from env on: a jump, where that does not lead past it, or one binding further
unfoldable pub walk : (bindings : List ℕ) (c n env : ℕ) → Ending
walk b c zero env = NoRule
walk b c (suc n) env =
    pick (eqb env 0) (λ _. NoRule) λ _.
    pick (eqb (binding_at b (env - 1)).code c) (λ _. Value (binding_at b (env - 1)).tag (binding_at b (env - 1)).word) λ _.
    pick (leb c (code_in b (binding_at b (env - 1)).jump)) (λ _. walk b c n (binding_at b (env - 1)).jump) λ _.
    walk b c n (binding_at b (env - 1)).link

-- what the name with the code c is bound to; the nine are bound to nothing
unfoldable pub bound_to : (bindings : List ℕ) (c env : ℕ) → Ending
bound_to b c env = pick (ltb c first_free) (λ _. NoRule) λ _. walk b c most_steps env

-- the cell that the name with the code c is bound to
unfoldable pub address_of : (bindings : List ℕ) (c env : ℕ) → Ending
address_of b c env = if_value (bound_to b c env) λ t a. pick (eqb t address_tag) (λ _. Value address_tag a) λ _. NoRule

-- what the cell a holds, of the first n cells, for the node at p
unfoldable pub cell_value : (cells : List ℕ) (n p a : ℕ) → Ending
cell_value c n p a =
    pick (ltb a n) (λ _. pick (eqb (cell_at c a).tag unset_tag) (λ _. Unset p (cell_at c a).made) λ _. Value (cell_at c a).tag (cell_at c a).word) λ _. NoRule

-- what a name stands for that is bound to a value: an address is read through
unfoldable pub read_through : (cells : List ℕ) (n p tag word : ℕ) → Ending
read_through c n p t x = pick (eqb t address_tag) (λ _. cell_value c n p x) λ _. Value t x

-- the value of the name at p with the code c, with so many cells taken
unfoldable pub name_value : (bindings cells : List ℕ) (c p taken env : ℕ) → Ending
name_value b cells c p taken env =
    pick (ltb c first_free)
    (λ _. pick (eqb c 1) (λ _. Value number_tag 1) λ _. pick (eqb c 2) (λ _. Value number_tag 0) λ _. NoRule)
    λ _. if_value (walk b c most_steps env) λ t x. read_through cells taken p t x

-- ---- numbers

-- a number computed for the node at p, as an answer
abbrev pub given : Computed → (p : ℕ) → Ending
given (amount z) p = Value number_tag (of_z w64 z)
given (fails x) p = Stop (stop_number (error x)) p

-- an operator of two numbers, by its number among the nine
unfoldable pub computed_by : (operator : ℕ) → ℤ → ℤ → Computed
computed_by o a b =
    pick (eqb o 4) (λ _. amount (bit (same_number a b))) λ _.
    pick (eqb o 5) (λ _. amount (bit (lt_z a b))) λ _.
    pick (eqb o 6) (λ _. ranged (a +ℤ b)) λ _.
    pick (eqb o 7) (λ _. ranged (a -ℤ b)) λ _.
    pick (eqb o 8) (λ _. ranged (a *ℤ b)) λ _.
    cond (same_number b (pos 0)) (fails ZERO) (ranged (quotient a b))

-- an operator of one value: only `not` is one
unfoldable pub negated : (operator : ℕ) → (r : Row) → Ending
negated o r =
    pick (eqb o 3) (λ _.
    pick (eqb r.tag number_tag) (λ _.
    pick (eqb r.word 0) (λ _. Value number_tag 1) λ _. pick (eqb r.word 1) (λ _. Value number_tag 0) λ _. NoRule)
    λ _. NoRule)
    λ _. NoRule

-- an operator of two values: any other is one
unfoldable pub combined : (operator p : ℕ) → (r s : Row) → Ending
combined o p r s =
    pick (eqb o 3) (λ _. NoRule) λ _.
    pick (eqb r.tag number_tag) (λ _.
    pick (eqb s.tag number_tag) (λ _. given (computed_by o (to_z w64 r.word) (to_z w64 s.word)) p) λ _. NoRule)
    λ _. NoRule

-- ---- cells: what SET and vset do with a value

-- it goes into the cell a, and e is the answer
abbrev pub stored : (a tag word : ℕ) → (e : Ending) → Tables → Ret
stored a t x e m = pick (ltb a m.counts.cells) (λ _. is e (store a t x m)) λ _. is NoRule m

-- ---- blocks of cells: what nth, len and vset do with the values of their parts

-- the cell of the element that the block r and the index s name; a number below 0 is past every length
unfoldable pub element_of : (p : ℕ) → (r s : Row) → Ending
element_of p r s =
    pick (eqb r.tag block_tag) (λ _.
    pick (eqb s.tag number_tag) (λ _.
    pick (ltb s.word (length_of r.word)) (λ _. Value address_tag (first_of r.word + s.word)) λ _. Stop 29 p)
    λ _. NoRule)
    λ _. NoRule

unfoldable pub element_value : (cells : List ℕ) (n p : ℕ) → (r s : Row) → Ending
element_value c n p r s = if_value (element_of p r s) λ _ a. cell_value c n p a

unfoldable pub length_value : Row → Ending
length_value r = pick (eqb r.tag block_tag) (λ _. Value number_tag (length_of r.word)) λ _. NoRule

-- the value t x is put into an element, and the block is the answer
unfoldable pub set_element : (p : ℕ) → (r s : Row) → (tag word : ℕ) → Tables → Ret
set_element p r s t x m =
    and_then (is (element_of p r s) m) λ _ a m.
    stored a t x (Value r.tag r.word) m

-- ---- calls

unfoldable pub is_param : ℕ → Bool
is_param k = pick (eqb k 13) (λ _. true) λ _. eqb k 14

unfoldable pub is_type : ℕ → Bool
is_type k = pick (eqb k 26) (λ _. true) λ _. pick (ltb k 15) (λ _. false) λ _. ltb k 18

-- environment and bindings after a call's are made
pub record Opened : Type 0 where
  pub env : ℕ
  pub bindings : List ℕ

module _ (tree : List ℕ) where
  -- the node q, and where that is a type the node behind it
  unfoldable pub behind_type : ℕ → ℕ
  behind_type q = pick (is_type (node_at tree q).kind) (λ _. (node_at tree q).next) λ _. q

  -- the node behind exactly n parameters from q on
  unfoldable pub body_after : (n q : ℕ) → Ending
  body_after zero q = pick (is_param (node_at tree q).kind) (λ _. NoRule) λ _. Value done_tag q
  body_after (suc n) q = pick (is_param (node_at tree q).kind) (λ _. body_after n (node_at tree q).next) λ _. NoRule

  -- the n parameters from q on are bound to what waits from sp on, as the bindings k, k + 1, ..
  unfoldable pub bind_all_at : (n q sp : ℕ) (waiting : List ℕ) (k env : ℕ) (bindings : List ℕ) → Opened
  bind_all_at zero q sp w k env b = record { env = env; bindings = b }
  bind_all_at (suc n) q sp w k env b =
      bind_all_at n (node_at tree q).next (row_after sp) w (suc k) (suc k) (put_binding b k (binding_behind b (row_at w sp).tag (row_at w sp).word env))

module _ (g : Run) where
  -- a call at p, by n values that wait from sp on, of what has its first parameter at q and the names of env: the environment and the body's node
  unfoldable pub enter : (p n sp q env : ℕ) → Tables → Ret
  enter p n sp q env m =
      and_then (is (body_after g.tree n q) m) λ _ body m.
      pick (leb (n + m.counts.bindings) (g.bounds).bindings) (λ _.
      let o = bind_all_at g.tree n q sp m.waiting m.counts.bindings env m.bindings in is (Value o.env body) (bind n o.bindings m))
      λ _. is (Stop 23 p) m

  -- the same of a closure that knows its name: that is bound last, to the closure itself
  unfoldable pub enter_again : (p n sp q tag word : ℕ) → Tables → Ret
  enter_again p n sp q t x m =
      and_then (is (body_after g.tree n q) m) λ _ body m.
      pick (leb (suc n + m.counts.bindings) (g.bounds).bindings) (λ _.
      let o = bind_all_at g.tree n q sp m.waiting m.counts.bindings (env_of x) m.bindings in
      is (Value (suc (n + m.counts.bindings)) body)
      (bind (suc n) (put_binding o.bindings (n + m.counts.bindings) (binding_behind o.bindings t x o.env)) m))
      λ _. is (Stop 23 p) m

  -- the value t x is called, whose body is a block. Behind a name that a closure knows stand the parameters, and before them a type if it is a function's
  unfoldable pub open_procedure_at : (p n sp tag word : ℕ) → Tables → Ret
  open_procedure_at p n sp t x m =
      pick (eqb t procedure_tag) (λ _. enter p n sp (node_of x) (env_of x) m) λ _.
      pick (eqb t recursive_procedure_tag) (λ _. enter_again p n sp (behind_type g.tree (node_at g.tree (node_of x)).next) t x m) λ _.
      is NoRule m

  -- the value t x is applied: its body is an expression, or a block
  unfoldable pub open_function_at : (p n sp tag word : ℕ) → Tables → Ret
  open_function_at p n sp t x m =
      pick (eqb t function_tag) (λ _. enter p n sp (node_of x) (env_of x) m) λ _.
      pick (eqb t recursive_function_tag) (λ _. enter_again p n sp (node_at g.tree (node_at g.tree (node_of x)).next).next t x m) λ _.
      open_procedure_at p n sp t x m

  -- the definition at p makes one binding: the answer is the environment after it
  unfoldable pub define : (p tag word env : ℕ) → Tables → Ret
  define p t x env m =
      pick (leb (suc m.counts.bindings) (g.bounds).bindings)
      (λ _. is (Value done_tag (suc m.counts.bindings)) (bind 1 (put_binding m.bindings m.counts.bindings (binding_behind m.bindings t x env)) m))
      λ _. is (Stop 23 p) m

  -- the VAR at p: a cell, then a binding
  unfoldable pub define_cell : (p env : ℕ) → Tables → Ret
  define_cell p env m =
      pick (ltb m.counts.cells (g.bounds).cells) (λ _. define p address_tag m.counts.cells env (new_cells 1 p m)) λ _. is (Stop 22 p) m

  -- the alloc at p makes as many cells as the value r says, all or none
  unfoldable pub allocate : (p : ℕ) → (r : Row) → Tables → Ret
  allocate p r m =
      pick (eqb r.tag number_tag) (λ _.
      pick (ltb r.word first_below) (λ _.
      pick (leb (r.word + m.counts.cells) (g.bounds).cells)
      (λ _. is (Value block_tag (block_word m.counts.cells r.word)) (new_cells r.word p m))
      λ _. is (Stop 22 p) m)
      λ _. is (Stop 28 p) m)
      λ _. is NoRule m
