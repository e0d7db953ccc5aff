-- The evaluator over the tree table and the lent tables: what the code computes. Expressions, blocks and commands call on each other through `Evaluators`.
use Rattle.std.specs.Prelude.{ℕ, zero, suc, eqb, ltb}
use Rattle.std.specs.Int.{w64}
use Rattle.std.proofs.Common.{to_z}
use Rattle.nodes.specs.declared.Node.{Node}
use Rattle.nodes.specs.Nodes.{node_at}
use Rattle.machine.specs.declared.Ending.TheVariants.{Value, Stop, Returned, NoRule}
use Rattle.machine.specs.Entries.{pick, number_tag, function_tag, recursive_function_tag, procedure_tag, recursive_procedure_tag, done_tag, again_tag, row_after, row, closure_word}
use Rattle.machine.specs.State.{Run, code_at, Tables, Ret, is, and_then, caught, put_out_in, push, guard}
use Rattle.machine.specs.Leaves.{bound_to, address_of, name_value, negated, combined, stored, element_value, length_value, set_element, open_function_at, open_procedure_at, define, define_cell, allocate}

-- expressions (and addresses) and blocks with some levels left: under an environment, with values waiting below sp, at a node
pub record Evaluators : Type 0 where
  pub expr : (env sp i : ℕ) → Tables → Ret
  pub block : (env sp i : ℕ) → Tables → Ret

-- a number that is 1 or 0 is asked for
unfoldable pub on_bit : (tag word : ℕ) → Tables → (one zero : Unit {0} → Ret) → Ret
on_bit t x m a b = pick (eqb t number_tag) (λ _. pick (eqb x 0) b λ _. pick (eqb x 1) a λ _. is NoRule m) λ _. is NoRule m

module _ (g : Run) where
  -- the arguments from the node i on, n of them waiting, the next as the row top: the answer is how many wait
  unfoldable pub args : ℕ → Evaluators → (env top n i : ℕ) → Tables → Ret
  args zero S env top n i m = is NoRule m
  args (suc k) S env top n i m =
      pick (eqb i 0) (λ _. is (Value done_tag n) m) λ _.
      and_then (S.expr env top i m) λ t x m₁. args k S env (row_after top) (suc n) (node_at g.tree i).next (push top t x m₁)

  -- all arguments from the node i on
  unfoldable pub all_args : Evaluators → (env sp i : ℕ) → Tables → Ret
  all_args S env sp i m = args (suc m.counts.units) S env sp 0 i m

  -- ---- expressions

  unfoldable pub if_e : Evaluators → (env sp : ℕ) → Node → Tables → Ret
  if_e S env sp n m =
      and_then (S.expr env sp n.child m) λ t x m₁.
      let i = (node_at g.tree n.child).next in
      on_bit t x m₁ (λ _. S.expr env sp i m₁) λ _. S.expr env sp (node_at g.tree i).next m₁

  unfoldable pub and_e : Evaluators → (env sp : ℕ) → Node → Tables → Ret
  and_e S env sp n m =
      and_then (S.expr env sp n.child m) λ t x m₁.
      on_bit t x m₁ (λ _. S.expr env sp (node_at g.tree n.child).next m₁) λ _. is (Value number_tag 0) m₁

  unfoldable pub or_e : Evaluators → (env sp : ℕ) → Node → Tables → Ret
  or_e S env sp n m =
      and_then (S.expr env sp n.child m) λ t x m₁.
      on_bit t x m₁ (λ _. is (Value number_tag 1) m₁) λ _. S.expr env sp (node_at g.tree n.child).next m₁

  -- an operator o applied: its arguments do not wait in a table. What more there are than two is evaluated, and then no rule fits
  unfoldable pub operator_e : (o : ℕ) → Evaluators → (env sp : ℕ) → Node → Tables → Ret
  operator_e o S env sp n m =
      let i = (node_at g.tree n.child).next in
      and_then (S.expr env sp i m) λ t x m₁.
      let j = (node_at g.tree i).next in
      pick (eqb j 0) (λ _. is (negated o (row t x)) m₁) λ _.
      and_then (S.expr env sp j m₁) λ u y m₂.
      let k = (node_at g.tree j).next in
      pick (eqb k 0) (λ _. is (combined o n.place (row t x) (row u y)) m₂) λ _.
      and_then (all_args S env sp k m₂) λ _ _ m₃. is NoRule m₃

  -- a function's body, at the node i: an expression, or a block that returns
  unfoldable pub body_e : Evaluators → (env sp i : ℕ) → Tables → Ret
  body_e S env sp i m =
      pick (eqb (node_at g.tree i).kind 1) (λ _.
      let r = S.block env sp (node_at g.tree i).child m in is (caught r.ending) r.after)
      λ _. S.expr env sp i m

  -- a function applied: head, arguments, bindings, body
  unfoldable pub call_e : Evaluators → (env sp : ℕ) → Node → Tables → Ret
  call_e S env sp n m =
      and_then (S.expr env sp n.child m) λ t x m₁.
      and_then (all_args S env sp (node_at g.tree n.child).next m₁) λ _ k m₂.
      and_then (open_function_at g n.place k sp t x m₂) λ env₁ i m₃.
      body_e S env₁ sp i m₃

  -- an application, by what its head is among the nine names
  unfoldable pub apply_e : (o : ℕ) → Evaluators → (env sp : ℕ) → Node → Tables → Ret
  apply_e o S env sp n m = pick (ltb o 3) (λ _. call_e S env sp n m) λ _. operator_e o S env sp n m

  -- blocks of cells: the parts do not wait in a table; behind an alloc's type stands its size
  unfoldable pub alloc_e : Evaluators → (env sp : ℕ) → Node → Tables → Ret
  alloc_e S env sp n m = and_then (S.expr env sp (node_at g.tree n.child).next m) λ t x m₁. allocate g n.place (row t x) m₁

  unfoldable pub nth_e : Evaluators → (env sp : ℕ) → Node → Tables → Ret
  nth_e S env sp n m =
      and_then (S.expr env sp n.child m) λ t x m₁.
      and_then (S.expr env sp (node_at g.tree n.child).next m₁) λ u y m₂.
      is (element_value m₂.cells m₂.counts.cells n.place (row t x) (row u y)) m₂

  unfoldable pub len_e : Evaluators → (env sp : ℕ) → Node → Tables → Ret
  len_e S env sp n m = and_then (S.expr env sp n.child m) λ t x m₁. is (length_value (row t x)) m₁

  unfoldable pub vset_e : Evaluators → (env sp : ℕ) → Node → Tables → Ret
  vset_e S env sp n m =
      and_then (S.expr env sp n.child m) λ t x m₁.
      let i = (node_at g.tree n.child).next in
      and_then (S.expr env sp i m₁) λ u y m₂.
      and_then (S.expr env sp (node_at g.tree i).next m₂) λ v z m₃.
      set_element n.place (row t x) (row u y) v z m₃

  -- by the kind k and the code c of the node n
  unfoldable pub expr_by : (k c : ℕ) → Evaluators → (env sp : ℕ) → Node → Tables → Ret
  expr_by k c S env sp n m =
      pick (eqb k 18) (λ _. is (Value number_tag c) m) λ _.
      pick (eqb k 19) (λ _. is (name_value m.bindings m.cells c n.place m.counts.cells env) m) λ _.
      pick (eqb k 20) (λ _. if_e S env sp n m) λ _.
      pick (eqb k 21) (λ _. and_e S env sp n m) λ _.
      pick (eqb k 22) (λ _. or_e S env sp n m) λ _.
      pick (eqb k 23) (λ _. apply_e c S env sp n m) λ _.
      pick (eqb k 24) (λ _. is (Value function_tag (closure_word n.child env)) m) λ _.
      pick (eqb k 25) (λ _. is (address_of m.bindings (code_at g n.child) env) m) λ _.
      pick (eqb k 27) (λ _. alloc_e S env sp n m) λ _.
      pick (eqb k 28) (λ _. nth_e S env sp n m) λ _.
      pick (eqb k 29) (λ _. len_e S env sp n m) λ _.
      pick (eqb k 30) (λ _. vset_e S env sp n m) λ _.
      is NoRule m

  -- ---- commands: the answer is the environment after them, unless a RETURN ends them

  unfoldable pub const_c : Evaluators → (env sp : ℕ) → Node → Tables → Ret
  const_c S env sp n m =
      and_then (S.expr env sp (node_at g.tree (node_at g.tree n.child).next).next m) λ t x m₁.
      define g n.place t x env m₁

  unfoldable pub echo_c : Evaluators → (env sp : ℕ) → Node → Tables → Ret
  echo_c S env sp n m =
      and_then (S.expr env sp n.child m) λ t x m₁.
      pick (eqb t number_tag) (λ _.
      pick (ltb m₁.counts.numbers (g.bounds).output) (λ _. is (Value done_tag env) (put_out_in (to_z w64 x) m₁)) λ _. is (Stop 24 n.place) m₁)
      λ _. is NoRule m₁

  unfoldable pub set_c : Evaluators → (env sp : ℕ) → Node → Tables → Ret
  set_c S env sp n m =
      and_then (is (address_of m.bindings (code_at g n.child) env) m) λ _ a m.
      and_then (S.expr env sp (node_at g.tree n.child).next m) λ t x m₁.
      stored a t x (Value done_tag env) m₁

  unfoldable pub return_c : Evaluators → (env sp : ℕ) → Node → Tables → Ret
  return_c S env sp n m = and_then (S.expr env sp n.child m) λ t x m₁. is (Returned t x) m₁

  -- a block within a command leaves the environment as it was
  unfoldable pub block_c : Evaluators → (env within sp i : ℕ) → Tables → Ret
  block_c S env ρ sp i m = and_then (S.block ρ sp (node_at g.tree i).child m) λ _ _ m₁. is (Value done_tag env) m₁

  unfoldable pub if_c : Evaluators → (env sp : ℕ) → Node → Tables → Ret
  if_c S env sp n m =
      and_then (S.expr env sp n.child m) λ t x m₁.
      let i = (node_at g.tree n.child).next in
      on_bit t x m₁ (λ _. block_c S env env sp i m₁) λ _. block_c S env env sp (node_at g.tree i).next m₁

  -- a procedure called: name, arguments, bindings, block
  unfoldable pub call_c : Evaluators → (env sp : ℕ) → Node → Tables → Ret
  call_c S env sp n m =
      and_then (is (bound_to m.bindings (code_at g n.child) env) m) λ t x m.
      and_then (all_args S env sp (node_at g.tree n.child).next m) λ _ k m₁.
      and_then (open_procedure_at g n.place k sp t x m₁) λ env₁ i m₂.
      block_c S env env₁ sp i m₂

  -- one round of the WHILE n, which is entered; `again_tag` asks for one more
  unfoldable pub round : ℕ → Evaluators → (env sp : ℕ) → Node → Tables → Ret
  round d S env sp n m =
      guard d n.place m λ m₀.
      and_then (S.expr env sp n.child m₀) λ t x m₁.
      on_bit t x m₁
      (λ _. and_then (S.block env sp (node_at g.tree (node_at g.tree n.child).next).child m₁) λ _ _ m₂. is (Value again_tag env) m₂)
      λ _. is (Value done_tag env) m₁

  unfoldable pub rounds : ℕ → ℕ → Evaluators → (env sp : ℕ) → Node → Tables → Ret
  rounds zero d S env sp n m = is NoRule m
  rounds (suc k) d S env sp n m = and_then (round d S env sp n m) λ t x m₁. pick (eqb t again_tag) (λ _. rounds k d S env sp n m₁) λ _. is (Value t x) m₁

  -- by the kind k of the node n
  unfoldable pub cmd_by : (k : ℕ) → Evaluators → (env sp : ℕ) → Node → Tables → Ret
  cmd_by k S env sp n m =
      let x = node_at g.tree n.child in
      pick (eqb k 2) (λ _. const_c S env sp n m) λ _.
      pick (eqb k 3) (λ _. define g n.place function_tag (closure_word (node_at g.tree x.next).next env) env m) λ _.
      pick (eqb k 4) (λ _. define g n.place recursive_function_tag (closure_word n.child env) env m) λ _.
      pick (eqb k 5) (λ _. define_cell g n.place env m) λ _.
      pick (eqb k 6) (λ _. define g n.place procedure_tag (closure_word x.next env) env m) λ _.
      pick (eqb k 7) (λ _. define g n.place recursive_procedure_tag (closure_word n.child env) env m) λ _.
      pick (eqb k 8) (λ _. echo_c S env sp n m) λ _.
      pick (eqb k 9) (λ _. set_c S env sp n m) λ _.
      pick (eqb k 10) (λ _. if_c S env sp n m) λ _.
      pick (eqb k 12) (λ _. call_c S env sp n m) λ _.
      pick (eqb k 31) (λ _. return_c S env sp n m) λ _.
      pick (eqb k 32) (λ _. define g n.place procedure_tag (closure_word (node_at g.tree x.next).next env) env m) λ _.
      pick (eqb k 33) (λ _. define g n.place recursive_procedure_tag (closure_word n.child env) env m) λ _.
      is NoRule m

  -- a command of kind k with d levels left: each round of a WHILE is entered, any other command is entered once
  unfoldable pub cmd_in : (k d : ℕ) → Evaluators → (env sp : ℕ) → Node → Tables → Ret
  cmd_in k d S env sp n m = pick (eqb k 11) (λ _. rounds (suc m.counts.units) d S env sp n m) λ _. guard d n.place m λ m₁. cmd_by k S env sp n m₁

  -- the commands from the node i on
  unfoldable pub cmds : (k d : ℕ) → Evaluators → (env sp i : ℕ) → Tables → Ret
  cmds zero d S env sp i m = is NoRule m
  cmds (suc k) d S env sp i m =
      pick (eqb i 0) (λ _. is (Value done_tag env) m) λ _.
      and_then (cmd_in (node_at g.tree i).kind d S env sp (node_at g.tree i) m) λ _ env₁ m₁. cmds k d S env₁ sp (node_at g.tree i).next m₁

  -- ---- levels

  -- d levels left, with S one level further down
  unfoldable pub step : ℕ → Evaluators → Evaluators
  step d S =
      record {
        expr = λ env sp i m. guard d (node_at g.tree i).place m λ m₁. expr_by (node_at g.tree i).kind (code_at g i) S env sp (node_at g.tree i) m₁;
        block = λ env sp i m. cmds (suc m.counts.units) d S env sp i m;
      }

  -- below the last level
  unfoldable pub bottom : Evaluators
  bottom = record { expr = λ env sp i m. is NoRule m; block = λ env sp i m. is NoRule m }

  unfoldable pub evaluators : ℕ → Evaluators
  evaluators zero = step zero bottom
  evaluators (suc d) = step (suc d) (evaluators d)

  -- what is entered at d levels left has below it
  unfoldable pub below : ℕ → Evaluators
  below zero = bottom
  below (suc d) = evaluators d

  -- each by a name of its own, at d levels left
  unfoldable pub expr_at : (d env sp i : ℕ) → Tables → Ret
  expr_at d env sp i m = (evaluators d).expr env sp i m

  unfoldable pub block_at : (d env sp i : ℕ) → Tables → Ret
  block_at d env sp i m = (evaluators d).block env sp i m

  abbrev pub level : ℕ → Evaluators
  level d = record { expr = expr_at d; block = block_at d }

  -- a command and the rounds of a WHILE that are entered at d levels left
  unfoldable pub cmd_at : (d env sp : ℕ) → Node → Tables → Ret
  cmd_at d env sp n m = cmd_in n.kind d (below d) env sp n m

  unfoldable pub while_at : (d env sp : ℕ) → Node → Tables → Ret
  while_at d env sp n m = rounds (suc m.counts.units) d (below d) env sp n m

  unfoldable pub round_at : (d env sp : ℕ) → Node → Tables → Ret
  round_at d env sp n m = round d (below d) env sp n m

  -- what is entered already, with d levels left below it
  abbrev pub args_at : (d env sp i : ℕ) → Tables → Ret
  args_at d env sp i m = all_args (level d) env sp i m

  abbrev pub if_at : (d env sp : ℕ) → Node → Tables → Ret
  if_at d env sp n m = if_e (level d) env sp n m

  abbrev pub and_at : (d env sp : ℕ) → Node → Tables → Ret
  and_at d env sp n m = and_e (level d) env sp n m

  abbrev pub or_at : (d env sp : ℕ) → Node → Tables → Ret
  or_at d env sp n m = or_e (level d) env sp n m

  abbrev pub operator_in : (o d env sp : ℕ) → Node → Tables → Ret
  operator_in o d env sp n m = operator_e o (level d) env sp n m

  abbrev pub call_at : (d env sp : ℕ) → Node → Tables → Ret
  call_at d env sp n m = call_e (level d) env sp n m

  abbrev pub alloc_at : (d env sp : ℕ) → Node → Tables → Ret
  alloc_at d env sp n m = alloc_e (level d) env sp n m

  abbrev pub nth_at : (d env sp : ℕ) → Node → Tables → Ret
  nth_at d env sp n m = nth_e (level d) env sp n m

  abbrev pub len_at : (d env sp : ℕ) → Node → Tables → Ret
  len_at d env sp n m = len_e (level d) env sp n m

  abbrev pub vset_at : (d env sp : ℕ) → Node → Tables → Ret
  vset_at d env sp n m = vset_e (level d) env sp n m

  abbrev pub body_at : (d env sp i : ℕ) → Tables → Ret
  body_at d env sp i m = body_e (level d) env sp i m

  abbrev pub const_at : (d env sp : ℕ) → Node → Tables → Ret
  const_at d env sp n m = const_c (level d) env sp n m

  abbrev pub echo_at : (d env sp : ℕ) → Node → Tables → Ret
  echo_at d env sp n m = echo_c (level d) env sp n m

  abbrev pub set_at : (d env sp : ℕ) → Node → Tables → Ret
  set_at d env sp n m = set_c (level d) env sp n m

  abbrev pub return_at : (d env sp : ℕ) → Node → Tables → Ret
  return_at d env sp n m = return_c (level d) env sp n m

  abbrev pub if_stat_at : (d env sp : ℕ) → Node → Tables → Ret
  if_stat_at d env sp n m = if_c (level d) env sp n m

  abbrev pub call_stat_at : (d env sp : ℕ) → Node → Tables → Ret
  call_stat_at d env sp n m = call_c (level d) env sp n m
