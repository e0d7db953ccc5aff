-- How tables stand for values, environments, states and outcomes of the rules.
use mathlib.Core.Path.{◌≡◌}
use mathlib.Core.List.{List, [], ◌∷◌, ◌++◌}
use mathlib.Core.Option.{Option, none, some}
use Prim.Native.Nat.{ℕ, suc, ◌+◌, ◌*◌, ◌%◌, ◌≤◌, ◌<◌}
use lib.ListN.{length, get_or, drop}
use mir.Syntax.{w64}
use mir.Val.{to_z}
use Rattle.language.specs.Syntax.{Name, ArgP, Expr, Exprs, ExprP, Def, Stat, Cmds, Block}
use Rattle.language.specs.Answers.{Stop, limit, error, stop_number, LimitStop, RANGE, ZERO, UNSET, SIZE, INDEX}
use Rattle.language.specs.Types.{param_names}
use Rattle.language.specs.Limits.{Limits}
use Rattle.language.specs.Rules as Rules
use Rattle.language.specs.Rules.{Returned, Body, an_expr, a_block, Val, in_z, in_f, in_fr, in_p, in_pr, in_a, in_b, Env, empty, bound, fresh, State, stop, no_rule, Outcome, ok, halt, nth, Entered, Level, cmds}
use Rattle.nodes.specs.declared.Node.{Node}
use Rattle.nodes.specs.Nodes.{node_at}
use Rattle.nodes.specs.Trees.{Script, next, AtParams, AtE, AtEs, AtA, AtAs, AtCs, AtD, AtS, AtB}
use Rattle.machine.specs.declared.Cell.{Cell}
use Rattle.machine.specs.declared.Ending.{Ending}
use Rattle.machine.specs.declared.Ending.TheVariants.{Value, NoRule}
use Rattle.machine.specs.declared.Ending.TheVariants as E
use Rattle.machine.specs.Entries.{number_tag, function_tag, recursive_function_tag, procedure_tag, recursive_procedure_tag, address_tag, unset_tag, block_tag, ring_rows, row, row_at, cell, cell_at, binding, binding_at, node_of, env_of, first_of, length_of}
use Rattle.machine.specs.Codes.{code_over, extended, defined, CodedE, CodedEs, CodedA, CodedAs, CodedCs, CodedD, CodedS, CodedB}
use Rattle.machine.specs.State.{Run, Tables, Ret, is}
use Rattle.machine.specs.Machine.{Evaluators, cmd_in}
use Rattle.machine.specs.Leaves.{Opened, behind_type}
use Rattle.machine.specs.Shown.{bounds_of}
use Rattle.machine.proofs.Steps.{tail, more, blocks}

-- a run on a script under limits, with the tables as they were lent
pub record Stage : Type 0 where
  pub script : Script
  pub codes : List ℕ
  pub limits : Limits
  pub old : Tables

abbrev pub run_of : Stage → Run
run_of g = record { tree = (g.script).tree; codes = g.codes; bounds = bounds_of g.limits }

-- a node of the script, and its code
abbrev pub node : Stage → ℕ → Node
node g i = node_at (g.script).tree i

abbrev pub code : Stage → ℕ → ℕ
code g i = get_or g.codes i 0

-- the names of an environment
abbrev pub scope : Env → List Name
scope empty = []
scope (bound x u ρ) = x ∷ scope ρ

-- the environment ρ further out
pub data Outer : Env → Env → Type 0 where
  outer_self : {ρ : Env} → Outer ρ ρ
  outer_more : {ρ ρ' : Env} {y : Name} {u : Val} → Outer ρ' ρ → Outer ρ' (bound y u ρ)

-- the lent tables are large enough
pub record Roomy (g : Stage) : Type 0 where
  pub few_bindings : (g.limits).bindings ≤ 4096
  pub few_cells : (g.limits).cells ≤ 4096
  pub bindings_fit : 2 * (g.limits).bindings ≤ length (g.old).bindings
  pub cells_fit : 2 * (g.limits).cells ≤ length (g.old).cells
  pub output_fit : (g.limits).output ≤ length (g.old).output
  pub waiting_fit : 2 * ring_rows ≤ length (g.old).waiting

-- the row of a ring in which the value k waits
abbrev pub slot : ℕ → ℕ
slot k = k % ring_rows

-- from m to m₁ no more values waited at once, from sp on, than bindings were made: what waits below sp, and is not so far behind, is kept
abbrev pub Below : (sp made : ℕ) → (m m₁ : Tables) → Type 0
Below sp made m m₁ = (k : ℕ) → k < sp → sp + made ≤ k + ring_rows + m.counts.bindings → row_at m₁.waiting (slot k) ≡ row_at m.waiting (slot k)

-- a table after some writes: what stands from its entry n on is as it was
pub record Kept (n : ℕ) (old now : List ℕ) : Type 0 where
  pub long : length now ≡ length old
  pub beyond : drop n now ≡ drop n old

-- by the first c bindings of the table b: a tag and a word stand for a value, a number for an environment
pub data Thing : Type 0 where
  value : Val → (tag word : ℕ) → Thing
  names : Env → ℕ → Thing

-- commands that returned nothing, and the environment after them where it is known
abbrev pub Ran : Returned → (t x : ℕ) → Tables → Type 0
Ran none t x m = Unit {0}
Ran (some u) t x m = ⊥

abbrev pub IsDone : ℕ → Returned → (t x : ℕ) → Tables → Type 0
IsDone env none t x m = x ≡ env
IsDone env (some u) t x m = ⊥

-- the first c bindings are kept
abbrev pub Old : List ℕ → ℕ → List ℕ → Type 0
Old b c b' = (k : ℕ) → k < c → binding_at b' k ≡ binding_at b k

-- a stop that has no second place
pub data Plain : Stop → Type 0 where
  plain_limit : (l : LimitStop) → Plain (limit l)
  plain_range : Plain (error RANGE)
  plain_zero : Plain (error ZERO)
  plain_size : Plain (error SIZE)
  plain_index : Plain (error INDEX)

module _ (g : Stage) where
  -- the node i is this tree, and the codes from there on are right where the names Γ are in force
  pub record InE (Γ : List Name) (i : ℕ) (e : Expr) : Type 0 where
    pub at : AtE g.script i e
    pub coded : CodedE g.script g.codes Γ i e

  pub record InEs (Γ : List Name) (i : ℕ) (es : Exprs) : Type 0 where
    pub at : AtEs g.script i es
    pub coded : CodedEs g.script g.codes Γ i es

  pub record InA (Γ : List Name) (i : ℕ) (a : ExprP) : Type 0 where
    pub at : AtA g.script i a
    pub coded : CodedA g.script g.codes Γ i a

  pub record InAs (Γ : List Name) (i : ℕ) (as' : List ExprP) : Type 0 where
    pub at : AtAs g.script i as'
    pub coded : CodedAs g.script g.codes Γ i as'

  pub record InCs (Γ : List Name) (i : ℕ) (cs : Cmds) : Type 0 where
    pub at : AtCs g.script i cs
    pub coded : CodedCs g.script g.codes Γ i cs

  pub record InD (Γ : List Name) (i : ℕ) (d : Def) : Type 0 where
    pub at : AtD g.script i d
    pub coded : CodedD g.script g.codes Γ i d

  pub record InS (Γ : List Name) (i : ℕ) (c : Stat) : Type 0 where
    pub at : AtS g.script i c
    pub coded : CodedS g.script g.codes Γ i c

  pub record InB (Γ : List Name) (i : ℕ) (a : Block) : Type 0 where
    pub at : AtB g.script i a
    pub coded : CodedB g.script g.codes Γ i a

  -- a closure's body is coded under its parameters and the names of its environment; of a binding's name only its place in the chain is there.
  -- A jump leads to an environment further out, over the first of its blocks
  pub data Rep (b : List ℕ) : ℕ → Thing → Type 0 where
    v_num : {c : ℕ} (x : ℕ) → Rep b c (value (in_z (to_z w64 x)) number_tag x)
    v_fun : {c x i : ℕ} {xs : List ArgP} {e : Expr} {ρ : Env} → AtParams g.script (node_of x) xs i → InE (extended (param_names xs) (scope ρ)) i e → Rep b c (names ρ (env_of x)) →
        Rep b c (value (in_f e (param_names xs) ρ) function_tag x)
    v_rec : {c x i : ℕ} {f : Name} {xs : List ArgP} {e : Expr} {ρ : Env} → AtParams g.script (next g.script (next g.script (node_of x))) xs i →
        InE (f ∷ extended (param_names xs) (scope ρ)) i e → Rep b c (names ρ (env_of x)) → Rep b c (value (in_fr e f (param_names xs) ρ) recursive_function_tag x)
    v_proc : {c x i : ℕ} {xs : List ArgP} {a : Block} {ρ : Env} → AtParams g.script (node_of x) xs i → InB (extended (param_names xs) (scope ρ)) i a → Rep b c (names ρ (env_of x)) →
        Rep b c (value (in_p a (param_names xs) ρ) procedure_tag x)
    v_proc_rec : {c x i : ℕ} {f : Name} {xs : List ArgP} {a : Block} {ρ : Env} → AtParams g.script (behind_type (g.script).tree (next g.script (node_of x))) xs i →
        InB (f ∷ extended (param_names xs) (scope ρ)) i a → Rep b c (names ρ (env_of x)) → Rep b c (value (in_pr a f (param_names xs) ρ) recursive_procedure_tag x)
    v_adr : {c a : ℕ} → Rep b c (value (in_a a) address_tag a)
    v_block : {c : ℕ} (x : ℕ) → Rep b c (value (in_b (first_of x) (length_of x)) block_tag x)
    e_none : {c : ℕ} → Rep b c (names empty 0)
    e_bound : {c k t x l j : ℕ} {y : Name} {u : Val} {ρ ρ' : Env} → suc k ≤ c → binding_at b k ≡ binding (suc (code_over (scope ρ))) t x l j →
        Rep b k (value u t x) → Rep b k (names ρ l) → Outer ρ' ρ →
        blocks (scope ρ') ≡ tail (more (blocks (scope ρ))) → Rep b k (names ρ' j) → Rep b c (names (bound y u ρ) (suc k))

  abbrev pub ValR : List ℕ → ℕ → Val → (tag word : ℕ) → Type 0
  ValR b c u t x = Rep b c (value u t x)

  abbrev pub EnvR : List ℕ → ℕ → Env → ℕ → Type 0
  EnvR b c ρ n = Rep b c (names ρ n)

  -- an environment by the tables m
  abbrev pub Named : Env → (env : ℕ) → Tables → Type 0
  Named ρ env m = EnvR m.bindings m.counts.bindings ρ env

  -- what is found
  pub data Found (b : List ℕ) (c : ℕ) : Option Val → Ending → Type 0 where
    found : {u : Val} {t x : ℕ} → ValR b c u t x → Found b c (some u) (Value t x)
    lost : Found b c none NoRule

  -- a cell
  pub data CellR (b : List ℕ) (c : ℕ) : Rules.Cell → Cell → Type 0 where
    c_unset : {p : ℕ} → CellR b c (fresh p) (cell p unset_tag 0)
    c_set : {p : ℕ} {u : Val} {t x : ℕ} → ValR b c u t x → CellR b c (record { made = p; holds = some u }) (cell p t x)

  -- values that wait from sp on in the ring w
  pub data Waits (b : List ℕ) (c : ℕ) (w : List ℕ) : ℕ → List Val → Type 0 where
    w_none : {sp : ℕ} → Waits b c w sp []
    w_more : {sp t x : ℕ} {u : Val} {us : List Val} → row_at w (slot sp) ≡ row t x → ValR b c u t x → Waits b c w (suc sp) us → Waits b c w sp (u ∷ us)

  -- values that wait in the tables m from sp on
  abbrev pub Wait : (sp : ℕ) → List Val → Tables → Type 0
  Wait sp us m = Waits m.bindings m.counts.bindings m.waiting sp us

  -- tables stand for a state
  pub record R (s : State) (m : Tables) : Type 0 where
    pub units : s.units + m.counts.units ≡ (g.limits).fuel
    pub bindings : s.bindings ≡ m.counts.bindings
    pub bindings_in : m.counts.bindings ≤ (g.limits).bindings
    pub bindings_kept : Kept (2 * (g.limits).bindings) (g.old).bindings m.bindings
    pub cells : length s.cells ≡ m.counts.cells
    pub cells_in : m.counts.cells ≤ (g.limits).cells
    pub cells_kept : Kept (2 * (g.limits).cells) (g.old).cells m.cells
    pub each : (a : ℕ) (o : Rules.Cell) → nth s.cells a ≡ some o → CellR m.bindings m.counts.bindings o (cell_at m.cells a)
    pub numbers : length s.numbers ≡ m.counts.numbers
    pub numbers_in : m.counts.numbers ≤ (g.limits).output
    pub output : m.output ≡ s.numbers ++ drop (length s.numbers) (g.old).output
    pub waiting_kept : Kept (2 * ring_rows) (g.old).waiting m.waiting
    pub roomy : Roomy g

  -- what goes on keeps the bindings and what waits below sp, and gives no unit back
  pub record Grow (sp : ℕ) (m m₁ : Tables) : Type 0 where
    pub more : m.counts.bindings ≤ m₁.counts.bindings
    pub old : Old m.bindings m.counts.bindings m₁.bindings
    pub waits : Below sp m₁.counts.bindings m m₁
    pub fell : m₁.counts.units ≤ m.counts.units

  -- related outcomes, from m on; P relates what they answer, B what they return
  pub data Sims {A : Type 0} (P B : A → (t x : ℕ) → Tables → Type 0) (sp : ℕ) (m : Tables) : Outcome A → Ret → Type 0 where
    goes : {a : A} {s : State} {t x : ℕ} {m₁ : Tables} → P a t x m₁ → R s m₁ → Grow sp m m₁ → Sims P B sp m (ok a s) (is (Value t x) m₁)
    returns : {a : A} {s : State} {t x : ℕ} {m₁ : Tables} → B a t x m₁ → R s m₁ → Grow sp m m₁ → Sims P B sp m (ok a s) (is (E.Returned t x) m₁)
    stops : {w : Stop} {p : ℕ} {s : State} {m₁ : Tables} → Plain w → R s m₁ → Sims P B sp m (halt (stop w) p s) (is (E.Stop (stop_number w) p) m₁)
    unset : {p q : ℕ} {s : State} {m₁ : Tables} → R s m₁ → Sims P B sp m (halt (stop (error (UNSET q))) p s) (is (E.Unset p q) m₁)
    no_way : {p : ℕ} {s : State} {m₁ : Tables} → R s m₁ → Sims P B sp m (halt no_rule p s) (is NoRule m₁)

  -- where nothing is returned
  abbrev pub Sim : {A : Type 0} → (A → (t x : ℕ) → Tables → Type 0) → (sp : ℕ) → Tables → Outcome A → Ret → Type 0
  Sim P sp m o r = Sims P (λ a t x m₁. ⊥) sp m o r

  -- an answer that took a unit
  pub record Spent {A : Type 0} (m : Tables) (P : A → (t x : ℕ) → Tables → Type 0) (a : A) (t x : ℕ) (m₁ : Tables) : Type 0 where
    pub it : P a t x m₁
    pub less : m₁.counts.units < m.counts.units

  -- an answer that made n bindings
  pub record Made {A : Type 0} (n : ℕ) (m : Tables) (P : A → (t x : ℕ) → Tables → Type 0) (a : A) (t x : ℕ) (m₁ : Tables) : Type 0 where
    pub it : P a t x m₁
    pub made : n + m.counts.bindings ≤ m₁.counts.bindings

  -- what answers are: a value, an environment with the names Γ, the environment that was, waiting values (from top on, behind n others), a body and its environment
  abbrev pub IsVal : Val → (t x : ℕ) → Tables → Type 0
  IsVal u t x m = ValR m.bindings m.counts.bindings u t x

  abbrev pub IsBack : Returned → (t x : ℕ) → Tables → Type 0
  IsBack none t x m = ⊥
  IsBack (some u) t x m = IsVal u t x m

  pub record IsEnv (Γ : List Name) (ρ : Env) (t x : ℕ) (m : Tables) : Type 0 where
    pub named : Named ρ x m
    pub scope_is : scope ρ ≡ Γ

  -- evaluated from m on. The values are in the ring as long as there is room to bind them; bound, they are bindings made
  pub record Waiting (m : Tables) (top n : ℕ) (us : List Val) (t x : ℕ) (m₁ : Tables) : Type 0 where
    pub count : x ≡ n + length us
    pub all : length us + m₁.counts.bindings ≤ ring_rows → Wait top us m₁
    pub keeps : Below top (length us + m₁.counts.bindings) m m₁

  -- some answers, and not none
  pub record Some {A : Type 0} (P : List A → (t x : ℕ) → Tables → Type 0) (us : List A) (t x : ℕ) (m : Tables) : Type 0 where
    pub it : P us t x m
    pub some : 1 ≤ length us

  pub record IsEntered {B : Type 0} (In : List Name → ℕ → B → Type 0) (c : Entered B) (env i : ℕ) (m : Tables) : Type 0 where
    pub in_env : Named c.env env m
    pub body_in : In (scope c.env) i c.body

  -- parameters from q on and values, one by one: the names grow from ρ to ρ', up to the node i
  pub data Zip : ℕ → List Val → Env → Env → ℕ → Type 0 where
    z_none : {q : ℕ} {ρ : Env} → Zip q [] ρ ρ q
    z_more : {q i : ℕ} {y : Name} {u : Val} {us : List Val} {ρ ρ' : Env} → Zip (next g.script q) us (bound y u ρ) ρ' i → Zip q (u ∷ us) ρ ρ' i

  -- with as many values as parameters; then the names Γ are in force
  pub data Fit (q : ℕ) (us : List Val) (ρ : Env) (Γ : List Name) (i n : ℕ) : Option Env → Ending → Type 0 where
    fit : {ρ' : Env} {t : ℕ} → Zip q us ρ ρ' i → n ≡ length us → scope ρ' ≡ Γ → Fit q us ρ Γ i n (some ρ') (Value t i)
    unfit : Fit q us ρ Γ i n none NoRule

  -- bindings c up to n are made, which changes nothing from the entry r on
  pub record Bound (b : List ℕ) (c n r : ℕ) (ρ' : Env) (o : Opened) : Type 0 where
    pub env' : EnvR o.bindings n ρ' o.env
    pub old : Old b c o.bindings
    pub kept : Kept r b o.bindings

  abbrev pub InBody : List Name → ℕ → Body → Type 0
  InBody Γ i (an_expr e) = InE Γ i e
  InBody Γ i (a_block b) = InB Γ i b

  -- where evaluation stands: names and state
  pub record Here (ρ : Env) (env : ℕ) (s : State) (m : Tables) : Type 0 where
    pub names' : Named ρ env m
    pub st : R s m

  -- the rules and the machine agree
  pub record Adeq (l : Level) (S : Evaluators) : Type 0 where
    pub on_e : {i : ℕ} {e : Expr} {ρ : Env} {env sp : ℕ} {s : State} {m : Tables} → InE (scope ρ) i e → Here ρ env s m →
        Sim (Spent m IsVal) sp m (l.expr e ρ s) (S.expr env (slot sp) i m)
    pub on_a : {i : ℕ} {a : ExprP} {ρ : Env} {env sp : ℕ} {s : State} {m : Tables} → InA (scope ρ) i a → Here ρ env s m →
        Sim (Spent m IsVal) sp m (l.arg a ρ s) (S.expr env (slot sp) i m)
    pub on_c : {i : ℕ} {cs : Cmds} {ρ : Env} {env sp : ℕ} {s : State} {m : Tables} → InCs (scope ρ) i cs → Here ρ env s m →
        Sims Ran IsBack sp m (cmds l cs ρ s) (S.block env (slot sp) i m)

module _ (g : Stage) where
  -- commands with d levels left
  pub record AdeqC (d : ℕ) (l : Level) (S : Evaluators) : Type 0 where
    pub on_d : {i : ℕ} {c : Def} {ρ : Env} {env sp : ℕ} {s : State} {m : Tables} → InD g (scope ρ) i c → Here g ρ env s m →
        Sim g (Spent g m (IsEnv g (defined c ∷ scope ρ))) sp m (l.def c ρ s) (cmd_in (run_of g) (node g i).kind d S env (slot sp) (node g i) m)
    pub on_s : {i : ℕ} {c : Stat} {ρ : Env} {env sp : ℕ} {s : State} {m : Tables} → InS g (scope ρ) i c → Here g ρ env s m →
        Sims g (Spent g m (IsDone env)) (IsBack g) sp m (l.stat c ρ s) (cmd_in (run_of g) (node g i).kind d S env (slot sp) (node g i) m)
