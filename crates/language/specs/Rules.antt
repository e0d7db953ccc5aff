-- The evaluation rules, under 000's names (section 3.3) and 004's (section 5.3), executable. They are written over any tree and read no types.
-- The state counts what is taken; the limits are a parameter. A state that no rule fits is an outcome of its own, `no_rule`.
use Rattle.std.specs.Prelude.{◌+◌, ◌∷◌, ◌++◌}
use Rattle.language.specs.Library.{ℕ, zero, suc, ℤ, pos, negsuc, Bool, true, false, cond, leb, ltb, List, [], length, replicate, Option, none, some}
use Rattle.language.specs.Syntax.{Name, at, Expr, num, name, if_expr, and, or, app, abs, alloc, nth_expr, len, vset, Exprs, one_expr, more_exprs, ExprP, val, adr, Cmds, last, def_then, stat_then, Def, const, fun, fun_rec, fun_block, fun_rec_block, var, proc, proc_rec, Stat, echo, set, if_stat, while, call, return, Block, block}
use Rattle.language.specs.Bytes.{same_bytes}
use Rattle.language.specs.Places.{place_expr, place_arg, place_def, place_stat, place_block}
use Rattle.language.specs.Answers.{LimitStop, FUEL, DEPTH, CELLS, BINDINGS, OUTPUT, ErrorStop, UNSET, SIZE, INDEX, Stop, limit, error}
use Rattle.language.specs.Names.{Op, Meaning, literal, operator, free, meaning, unless_nine, head_operator}
use Rattle.language.specs.Numbers.{Computed, amount, fails, bit, as_bit, compute}
use Rattle.language.specs.Types.{values, param_names}
use Rattle.language.specs.Limits.{Limits}

-- values, and ρ: what names are bound to, the latest first
mutual
  pub data Val : Type 0 where
    in_z : ℤ → Val
    in_f : Expr → List Name → Env → Val
    in_fr : Expr → Name → List Name → Env → Val
    in_p : Block → List Name → Env → Val
    in_pr : Block → Name → List Name → Env → Val
    in_a : ℕ → Val
    in_b : (first length : ℕ) → Val

  pub data Env : Type 0 where
    empty : Env
    bound : Name → Val → Env → Env

pub record Cell : Type 0 where  -- a cell: the place of the VAR or alloc that made it (request 7), and what stands in it, if it is set
  pub made : ℕ
  pub holds : Option Val

-- σ and ω with what is counted: units and bindings taken; the cells taken; the numbers put out, oldest first
pub record State : Type 0 where
  pub units : ℕ
  pub bindings : ℕ
  pub cells : List Cell
  pub numbers : List ℤ

abbrev pub Returned : Type 0  -- 004's V with ε: the value that a RETURN gave, or none
Returned = Option Val

pub data Why : Type 0 where  -- why a run ends early
  stop : Stop → Why
  no_rule : Why

pub data Outcome (A : Type 0) : Type 0 where  -- what a rule comes to: a result and a state, or an early end, its place and the state there
  ok : A → State → Outcome A
  halt : Why → (place : ℕ) → State → Outcome A

-- ---- how rules are put together

module _ {A B : Type 0} where
  unfoldable pub bind : Outcome A → (A → State → Outcome B) → Outcome B  -- one part, and then the rest
  bind (ok a s) k = k a s
  bind (halt w p s) k = halt w p s

  unfoldable pub need : Option A → ℕ → State → (A → Outcome B) → Outcome B  -- a rule that wants a certain form: no rule fits any other
  need none p s k = halt no_rule p s
  need (some a) p s k = k a

  unfoldable pub otherwise : Option A → ErrorStop → ℕ → State → (A → Outcome B) → Outcome B  -- what a script must see to: an error where it does not
  otherwise none x p s k = halt (stop (error x)) p s
  otherwise (some a) x p s k = k a

unfoldable pub unless_returned : Outcome Returned → (State → Outcome Returned) → Outcome Returned  -- commands, and then others, which a RETURN passes over
unless_returned (ok none s) k = k s
unless_returned (ok (some v) s) k = ok (some v) s
unless_returned (halt w p s) k = halt w p s

module _ {A : Type 0} where
  unfoldable pub within : Bool → LimitStop → ℕ → State → Outcome A → Outcome A  -- a limit that must hold
  within true l p s o = o
  within false l p s o = halt (stop (limit l)) p s

  unfoldable pub branch : Bool → Outcome A → Outcome A → Outcome A  -- two rules, for 1 and for 0
  branch true a b = a
  branch false a b = b

abbrev pub take_unit : State → State
take_unit s = record { units = suc s.units; bindings = s.bindings; cells = s.cells; numbers = s.numbers }

abbrev pub take_bindings : ℕ → State → State
take_bindings n s = record { units = s.units; bindings = n + s.bindings; cells = s.cells; numbers = s.numbers }

abbrev pub with_cells : List Cell → State → State
with_cells c s = record { units = s.units; bindings = s.bindings; cells = c; numbers = s.numbers }

abbrev pub put_out : ℤ → State → State
put_out n s = record { units = s.units; bindings = s.bindings; cells = s.cells; numbers = s.numbers ++ n ∷ [] }

module _ {A : Type 0} (L : Limits) where
  abbrev pub enter : ℕ → State → (State → Outcome A) → Outcome A  -- an entry: FUEL if no unit is left, else a unit is taken
  enter p s k = within (ltb s.units L.fuel) FUEL p s (k (take_unit s))

  abbrev pub make : ℕ → ℕ → State → (State → Outcome A) → Outcome A  -- n bindings are made, all or none
  make n p s k = within (leb (n + s.bindings) L.bindings) BINDINGS p s (k (take_bindings n s))

-- ---- names, cells and the forms that rules ask for

abbrev pub lookup_env : Env → Name → Option Val
lookup_env empty x = none
lookup_env (bound y v ρ) x = cond (same_bytes y x) (some v) (lookup_env ρ x)

abbrev pub look : Env → Name → Option Val  -- ρ(x)
look ρ x = unless_nine (meaning x) (lookup_env ρ x)

abbrev pub bind_all : List Name → List Val → Env → Option Env  -- ρ[x₁ = v₁; …; xₙ = vₙ], for as many values as names
bind_all [] [] ρ = some ρ
bind_all [] (v ∷ vs) ρ = none
bind_all (x ∷ xs) [] ρ = none
bind_all (x ∷ xs) (v ∷ vs) ρ = bind_all xs vs (bound x v ρ)

abbrev pub nth {ℓ} : {A : Type ℓ} → List A → ℕ → Option A  -- σ(a)
nth [] a = none
nth (c ∷ cs) zero = some c
nth (c ∷ cs) (suc a) = nth cs a

abbrev pub behind : {A : Type 0} → A → Option (List A) → Option (List A)
behind c none = none
behind c (some cs) = some (c ∷ cs)

abbrev pub fresh : ℕ → Cell  -- a cell that the VAR or alloc at p makes: it is unset
fresh p = record { made = p; holds = none }

abbrev pub store : List Cell → ℕ → Val → Option (List Cell)  -- σ[a := v], for an a that is taken
store [] a v = none
store (c ∷ cs) zero v = some (record { made = c.made; holds = some v } ∷ cs)
store (c ∷ cs) (suc a) v = behind c (store cs a v)

abbrev pub as_number : Val → Option ℤ
as_number = elim [ in_z n ↦ some n | in_f e xs ρ ↦ none | in_fr e f xs ρ ↦ none | in_p b xs ρ ↦ none | in_pr b f xs ρ ↦ none | in_a a ↦ none | in_b a n ↦ none ]

abbrev pub if_number : {A : Type 0} → Option ℤ → (ℤ → Option A) → Option A
if_number none k = none
if_number (some n) k = k n

abbrev pub as_truth : Val → Option Bool  -- inZ(1) or inZ(0)
as_truth v = if_number (as_number v) as_bit

abbrev pub as_address : Val → Option ℕ
as_address = elim [ in_z n ↦ none | in_f e xs ρ ↦ none | in_fr e f xs ρ ↦ none | in_p b xs ρ ↦ none | in_pr b f xs ρ ↦ none | in_a a ↦ some a | in_b a n ↦ none ]

abbrev pub as_block : Val → Option (ℕ × ℕ)  -- a block: its first cell, and how many it has
as_block = elim [ in_z n ↦ none | in_f e xs ρ ↦ none | in_fr e f xs ρ ↦ none | in_p b xs ρ ↦ none | in_pr b f xs ρ ↦ none | in_a a ↦ none | in_b a n ↦ some (a, n) ]

abbrev pub as_size : ℤ → Option ℕ  -- a size: none is below 0
as_size = elim [ pos n ↦ some n | negsuc n ↦ none ]

abbrev pub cell_in : ℕ × ℕ → ℤ → Option ℕ  -- a + i, the cell of a block's element: none below 0 or from the length on
cell_in k (pos i) = cond (ltb i k.1) (some (k.0 + i)) none
cell_in k (negsuc i) = none

abbrev pub as_numbers : List Val → Option (List ℤ)
as_numbers [] = some []
as_numbers (v ∷ vs) = if_number (as_number v) λ n. behind n (as_numbers vs)

abbrev pub if_numbers : Option (List ℤ) → (List ℤ → Option Computed) → Option Computed
if_numbers none k = none
if_numbers (some l) k = k l

abbrev pub operate : Op → List Val → Option Computed  -- an operator applied to values
operate o vs = if_numbers (as_numbers vs) (compute o)

pub record Entered (B : Type 0) : Type 0 where  -- what a call enters: a body, under which names, and how many bindings it makes
  pub body : B
  pub env : Env
  pub count : ℕ

abbrev pub entering : {B : Type 0} → B → ℕ → Option Env → Option (Entered B)
entering b n none = none
entering b n (some ρ) = some (record { body = b; env = ρ; count = n })

abbrev pub also : Name → Val → Option Env → Option Env  -- a recursive one's name is bound after its parameters
also f v none = none
also f v (some ρ) = some (bound f v ρ)

pub data Body : Type 0 where  -- a function's body
  an_expr : Expr → Body
  a_block : Block → Body

-- a function that is applied (APP, APPR; with a block, 004's APP', APPR'): its body under the names of its definition
abbrev pub open_function : Val → List Val → Option (Entered Body)
open_function (in_z n) vs = none
open_function (in_f e xs ρ) vs = entering (an_expr e) (length xs) (bind_all xs vs ρ)
open_function (in_fr e f xs ρ) vs = entering (an_expr e) (suc (length xs)) (also f (in_fr e f xs ρ) (bind_all xs vs ρ))
open_function (in_p b xs ρ) vs = entering (a_block b) (length xs) (bind_all xs vs ρ)
open_function (in_pr b f xs ρ) vs = entering (a_block b) (suc (length xs)) (also f (in_pr b f xs ρ) (bind_all xs vs ρ))
open_function (in_a a) vs = none
open_function (in_b a n) vs = none

-- a procedure that is called (CALL, CALLR): its block under the names of its definition
abbrev pub open_procedure : Val → List Val → Option (Entered Block)
open_procedure (in_z n) vs = none
open_procedure (in_f e xs ρ) vs = none
open_procedure (in_fr e f xs ρ) vs = none
open_procedure (in_p b xs ρ) vs = entering b (length xs) (bind_all xs vs ρ)
open_procedure (in_pr b f xs ρ) vs = entering b (suc (length xs)) (also f (in_pr b f xs ρ) (bind_all xs vs ρ))
open_procedure (in_a a) vs = none
open_procedure (in_b a n) vs = none

unfoldable pub give : Computed → ℕ → State → Outcome Val
give (amount n) p s = ok (in_z n) s
give (fails x) p s = halt (stop (error x)) p s

unfoldable pub give_cell : Option Val → (made place : ℕ) → State → Outcome Val  -- a cell that is read: its value, or UNSET with the place that made it
give_cell none m p s = halt (stop (error (UNSET m))) p s
give_cell (some v) m p s = ok v s

-- ---- the rules, over the evaluators of one level further down

pub record Level : Type 0 where
  pub expr : Expr → Env → State → Outcome Val
  pub arg : ExprP → Env → State → Outcome Val
  pub def : Def → Env → State → Outcome Env
  pub stat : Stat → Env → State → Outcome Returned

abbrev pub exprs : Level → Exprs → Env → State → Outcome (List Val)  -- e₁ … eₙ, left to right
exprs r (one_expr e) ρ s = bind (r.expr e ρ s) λ v s₁. ok (v ∷ []) s₁
exprs r (more_exprs e es) ρ s = bind (r.expr e ρ s) λ v s₁. bind (exprs r es ρ s₁) λ vs s₂. ok (v ∷ vs) s₂

abbrev pub args : Level → List ExprP → Env → State → Outcome (List Val)
args r [] ρ s = ok [] s
args r (a ∷ as') ρ s = bind (r.arg a ρ s) λ v s₁. bind (args r as' ρ s₁) λ vs s₂. ok (v ∷ vs) s₂

abbrev pub cmds : Level → Cmds → Env → State → Outcome Returned  -- (DECS), (STATS: 004's STAT0 and STAT1), (END)
cmds r (def_then d cs) ρ s = bind (r.def d ρ s) λ ρ₁ s₁. cmds r cs ρ₁ s₁
cmds r (stat_then c cs) ρ s = unless_returned (r.stat c ρ s) λ s₁. cmds r cs ρ s₁
cmds r (last c) ρ s = r.stat c ρ s

abbrev pub in_block : Level → Block → Env → State → Outcome Returned  -- (BLOCK)
in_block r (block p cs) ρ s = cmds r cs ρ s

abbrev pub in_body : Level → Body → Env → ℕ → State → Outcome Val  -- a body's value is what its expression has, or what its block returns
in_body r (an_expr e) ρ p s = r.expr e ρ s
in_body r (a_block b) ρ p s = bind (in_block r b ρ s) λ o s₁. need o p s₁ λ v. ok v s₁

abbrev pub read : Val → ℕ → State → Outcome Val  -- (ID1) an address is read through, (ID2) any other value is the name's
read (in_z n) p s = ok (in_z n) s
read (in_f e xs ρ) p s = ok (in_f e xs ρ) s
read (in_fr e f xs ρ) p s = ok (in_fr e f xs ρ) s
read (in_p b xs ρ) p s = ok (in_p b xs ρ) s
read (in_pr b f xs ρ) p s = ok (in_pr b f xs ρ) s
read (in_a a) p s = need (nth s.cells a) p s λ c. give_cell c.holds c.made p s
read (in_b a n) p s = ok (in_b a n) s

abbrev pub name_rule : Meaning → Option Val → ℕ → State → Outcome Val  -- (TRUE), (FALSE), (ID1), (ID2); an operator's name alone has no rule
name_rule (literal b) o p s = ok (in_z (bit b)) s
name_rule (operator f) o p s = halt no_rule p s
name_rule free o p s = need o p s λ v. read v p s

-- (PRIM1), (PRIM2) where the head is an operator; else (APP), (APPR), (APP'), (APPR'): head, arguments, bindings, body
abbrev pub apply_rule : Limits → Level → Option Op → ℕ → Expr → Exprs → Env → State → Outcome Val
apply_rule L r (some o) p f es ρ s = bind (exprs r es ρ s) λ vs s₁. need (operate o vs) p s₁ λ c. give c p s₁
apply_rule L r none p f es ρ s =
    bind (r.expr f ρ s) λ v s₁. bind (exprs r es ρ s₁) λ vs s₂. need (open_function v vs) p s₂ λ c. make L c.count p s₂ λ s₃. in_body r c.body c.env p s₃

-- (ALLOC) so many fresh cells, which are unset, all or none: a size below 0 is SIZE, then too few cells are CELLS
abbrev pub alloc_rule : Limits → ℕ → ℤ → State → Outcome Val
alloc_rule L p n s =
    otherwise (as_size n) SIZE p s λ k. within (leb (k + length s.cells) L.cells) CELLS p s
    (ok (in_b (length s.cells) k) (with_cells (s.cells ++ replicate k (fresh p)) s))

-- the cell of the element that a block and an index name: else INDEX
abbrev pub element_rule : ℕ → Val → Val → State → (ℕ → Outcome Val) → Outcome Val
element_rule p v w s k = need (as_block v) p s λ b. need (as_number w) p s λ i. otherwise (cell_in b i) INDEX p s k

abbrev pub expr_rule : Limits → Level → Expr → Env → State → Outcome Val
expr_rule L r (num p n) ρ s = ok (in_z n) s  -- (NUM)
expr_rule L r (name (at p x)) ρ s = name_rule (meaning x) (look ρ x) p s
-- (IF1), (IF0)
expr_rule L r (if_expr p a b c) ρ s = bind (r.expr a ρ s) λ v s₁. need (as_truth v) p s₁ λ t. branch t (r.expr b ρ s₁) (r.expr c ρ s₁)
-- (AND1), (AND0)
expr_rule L r (and p a b) ρ s = bind (r.expr a ρ s) λ v s₁. need (as_truth v) p s₁ λ t. branch t (r.expr b ρ s₁) (ok (in_z (pos 0)) s₁)
-- (OR1), (OR0)
expr_rule L r (or p a b) ρ s = bind (r.expr a ρ s) λ v s₁. need (as_truth v) p s₁ λ t. branch t (ok (in_z (pos 1)) s₁) (r.expr b ρ s₁)
expr_rule L r (app p f es) ρ s = apply_rule L r (head_operator f) p f es ρ s
expr_rule L r (abs p ps e) ρ s = ok (in_f e (param_names (values ps)) ρ) s  -- (ABS)
expr_rule L r (alloc p t e) ρ s = bind (r.expr e ρ s) λ v s₁. need (as_number v) p s₁ λ n. alloc_rule L p n s₁
-- (NTH), (LEN), (VSET): the parts left to right, and then what they come to; vset answers the block
expr_rule L r (nth_expr p a b) ρ s =
    bind (r.expr a ρ s) λ v s₁. bind (r.expr b ρ s₁) λ w s₂. element_rule p v w s₂ λ k. need (nth s₂.cells k) p s₂ λ c. give_cell c.holds c.made p s₂
expr_rule L r (len p a) ρ s = bind (r.expr a ρ s) λ v s₁. need (as_block v) p s₁ λ k. ok (in_z (pos k.1)) s₁
expr_rule L r (vset p a b c) ρ s =
    bind (r.expr a ρ s) λ v s₁. bind (r.expr b ρ s₁) λ w s₂. bind (r.expr c ρ s₂) λ u s₃.
    element_rule p v w s₃ λ k. need (store s₃.cells k u) p s₃ λ cs. ok v (with_cells cs s₃)

abbrev pub arg_rule : Limits → Level → ExprP → Env → State → Outcome Val  -- (VAL), (REF): the address, which is not read
arg_rule L r (val e) ρ s = expr_rule L r e ρ s
arg_rule L r (adr p (at q x)) ρ s = need (look ρ x) p s λ v. need (as_address v) p s λ a. ok (in_a a) s

abbrev pub def_rule : Limits → Level → Def → Env → State → Outcome Env
def_rule L r (const p (at q x) t e) ρ s = bind (r.expr e ρ s) λ v s₁. make L 1 p s₁ λ s₂. ok (bound x v ρ) s₂  -- (CONST)
def_rule L r (fun p (at q x) t ps e) ρ s = make L 1 p s λ s₁. ok (bound x (in_f e (param_names (values ps)) ρ) ρ) s₁  -- (FUN), (FUNREC)
def_rule L r (fun_rec p (at q x) t ps e) ρ s = make L 1 p s λ s₁. ok (bound x (in_fr e x (param_names (values ps)) ρ) ρ) s₁
def_rule L r (fun_block p (at q x) t ps b) ρ s = make L 1 p s λ s₁. ok (bound x (in_p b (param_names (values ps)) ρ) ρ) s₁  -- (FUNP), (FUNPR)
def_rule L r (fun_rec_block p (at q x) t ps b) ρ s = make L 1 p s λ s₁. ok (bound x (in_pr b x (param_names (values ps)) ρ) ρ) s₁
-- (VAR) a fresh cell, which is unset; then a binding
def_rule L r (var p (at q x) t) ρ s =
    within (ltb (length s.cells) L.cells) CELLS p s
    (make L 1 p (with_cells (s.cells ++ fresh p ∷ []) s) λ s₁. ok (bound x (in_a (length s.cells)) ρ) s₁)
def_rule L r (proc p (at q x) ps b) ρ s = make L 1 p s λ s₁. ok (bound x (in_p b (param_names ps) ρ) ρ) s₁  -- (PROC), (PROCREC)
def_rule L r (proc_rec p (at q x) ps b) ρ s = make L 1 p s λ s₁. ok (bound x (in_pr b x (param_names ps) ρ) ρ) s₁

-- the rounds of a WHILE that is entered: each ends by entering it anew. The count makes the recursion structural and never ends a loop:
-- each round takes a unit, and the claim `WhileRule` is 004's (LOOP0), (LOOP1A) and (LOOP1B). A round that returns is the last
abbrev pub rounds : Limits → ℕ → (State → Outcome Val) → (State → Outcome Returned) → ℕ → State → Outcome Returned
rounds L zero test run p s = halt (stop (limit FUEL)) p s
rounds L (suc n) test run p s =
    bind (test s) λ v s₁. need (as_truth v) p s₁ λ t.
    branch t (unless_returned (run s₁) λ s₂. enter L p s₂ λ s₃. rounds L n test run p s₃) (ok none s₁)

abbrev pub stat_rule : Limits → Level → Stat → Env → State → Outcome Returned
-- (ECHO)
stat_rule L r (echo p e) ρ s =
    bind (r.expr e ρ s) λ v s₁. need (as_number v) p s₁ λ n. within (ltb (length s₁.numbers) L.output) OUTPUT p s₁ (ok none (put_out n s₁))
-- (SET)
stat_rule L r (set p (at q x) e) ρ s =
    need (look ρ x) p s λ w. need (as_address w) p s λ a. bind (r.expr e ρ s) λ v s₁. need (store s₁.cells a v) p s₁ λ c. ok none (with_cells c s₁)
-- (IF1), (IF0)
stat_rule L r (if_stat p e a b) ρ s = bind (r.expr e ρ s) λ v s₁. need (as_truth v) p s₁ λ t. branch t (in_block r a ρ s₁) (in_block r b ρ s₁)
stat_rule L r (while p e b) ρ s = rounds L (suc L.fuel) (r.expr e ρ) (in_block r b ρ) p s  -- (LOOP0), (LOOP1A), (LOOP1B)
-- (CALL), (CALLR): arguments, bindings, block
stat_rule L r (call p (at q x) as') ρ s =
    need (look ρ x) p s λ w. bind (args r as' ρ s) λ vs s₁. need (open_procedure w vs) p s₁ λ c. make L c.count p s₁ λ s₂. in_block r c.body c.env s₂
-- (RET)
stat_rule L r (return p e) ρ s = bind (r.expr e ρ s) λ v s₁. ok (some v) s₁

-- ---- depth

abbrev pub bottom : Limits → Level  -- no depth left: an entry takes its unit and is DEPTH
bottom L = record {
  expr = λ e ρ s. enter L (place_expr e) s λ s₁. halt (stop (limit DEPTH)) (place_expr e) s₁;
  arg = λ a ρ s. enter L (place_arg a) s λ s₁. halt (stop (limit DEPTH)) (place_arg a) s₁;
  def = λ d ρ s. enter L (place_def d) s λ s₁. halt (stop (limit DEPTH)) (place_def d) s₁;
  stat = λ c ρ s. enter L (place_stat c) s λ s₁. halt (stop (limit DEPTH)) (place_stat c) s₁;
}

abbrev pub step : Limits → Level → Level  -- one level: an entry takes its unit, and then its rule is followed with the level below
step L r = record {
  expr = λ e ρ s. enter L (place_expr e) s λ s₁. expr_rule L r e ρ s₁;
  arg = λ a ρ s. enter L (place_arg a) s λ s₁. arg_rule L r a ρ s₁;
  def = λ d ρ s. enter L (place_def d) s λ s₁. def_rule L r d ρ s₁;
  stat = λ c ρ s. enter L (place_stat c) s λ s₁. stat_rule L r c ρ s₁;
}

unfoldable pub level : Limits → ℕ → Level  -- the evaluators with d levels left
level L zero = bottom L
level L (suc d) = step L (level L d)

abbrev pub start : State  -- no units, no bindings, no cells, no numbers
start = record { units = 0; bindings = 0; cells = []; numbers = [] }

abbrev pub ended : Returned → ℕ → State → Outcome (Unit {0})  -- no rule fits a program that returns
ended none p s = ok tt s
ended (some v) p s = halt no_rule p s

abbrev pub run : Limits → Block → Outcome (Unit {0})  -- (PROG) a program is its block, run from no bindings, no cells and no numbers
run L b = bind (in_block (level L L.depth) b empty start) λ o s. ended o (place_block b) s
