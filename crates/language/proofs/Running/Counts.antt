-- What each change of the state keeps, every run keeps: one walk over the rules for every such fact.
use mathlib.Core.Path.{◌≡◌, refl, ◌∙◌, subst}
use Prim.Native.Nat.{ℕ, zero, suc, ◌+◌, ◌≤◌, ◌<◌, zero-le}
use native.Mathlib.Omega.{arith}
use mathlib.Core.Bool.{Bool, true, false, cond, not as notb}
use mathlib.Core.List.{List, [], ◌∷◌, ◌++◌}
use mathlib.Core.Option.{Option, none, some}
use lib.Dec.{T, ltb, leb, leb→le, ltb→lt, nltb→le}
use lib.IntN.{ℤ, pos, ◌+ℤ◌, ◌-ℤ◌, ◌*ℤ◌}
use lib.ListN.{length, length-append, replicate, length-replicate}
use Rattle.language.specs.Syntax.{at, Expr, num, name, if_expr, and, or, app, abs, alloc, nth_expr, len, vset, Exprs, one_expr, more_exprs, ExprP, val, adr, Cmds, last, def_then, stat_then, Def, const, fun, fun_rec, fun_block, fun_rec_block, var, proc, proc_rec, Stat, echo, set, if_stat, while, call, return, Block, block}
use Rattle.language.specs.Answers.{LimitStop, FUEL, DEPTH, CELLS, BINDINGS, OUTPUT, ErrorStop, RANGE, ZERO, UNSET, SIZE, INDEX, limit, error}
use Rattle.language.specs.Names.{Op, not, eq, lt, add, sub, mul, div, Meaning, literal, operator, free, meaning, head_operator}
use Rattle.language.specs.Numbers.{in_range, quotient, Computed, amount, fails, ranged, same_number, as_bit, negated, op1, op2, compute}
use Rattle.language.specs.Limits.{Limits}
use Rattle.language.specs.Rules.{Val, in_z, in_f, in_fr, in_p, in_pr, in_a, in_b, Env, empty, Cell, State, Returned, Why, stop, no_rule, Outcome, ok, halt, bind, need, unless_returned, otherwise, within, branch, take_unit, take_bindings, with_cells, put_out, enter, make, look, nth, fresh, store, Body, an_expr, a_block, as_numbers, if_numbers, operate, give, give_cell, Level, exprs, args, cmds, in_block, in_body, read, name_rule, apply_rule, alloc_rule, element_rule, expr_rule, arg_rule, def_rule, rounds, stat_rule, step, level, start, run, ended}
use Rattle.language.specs.Outcome.{state_of}
use Rattle.language.specs.Claims.{InLimits, UsedUp, NamesCell, UnsetCell}
use Rattle.language.proofs.Running.Cells.{length_store}
use Rattle.language.proofs.Running.Stable.{Mark, mark, After, a_ok, a_halt, sim_after, SimLevel, block_sim, level_self}
use Rattle.language.specs.Places.{place_block}

-- I is kept by each change of the state, and H holds where a run may halt
pub record Inv (L : Limits) (I : State → Type 0) (H : Why → State → Type 0) : Type 0 where
  pub on_unit : (s : State) → T (ltb s.units L.fuel) → I s → I (take_unit s)
  pub on_bindings : (n : ℕ) (s : State) → T (leb (n + s.bindings) L.bindings) → I s → I (take_bindings n s)
  pub on_cell : (p : ℕ) (s : State) → T (ltb (length s.cells) L.cells) → I s → I (with_cells (s.cells ++ fresh p ∷ []) s)
  pub on_cells : (p n : ℕ) (s : State) → T (leb (n + length s.cells) L.cells) → I s → I (with_cells (s.cells ++ replicate n (fresh p)) s)
  pub on_store : (s : State) (a : ℕ) (v : Val) (c : List Cell) → store s.cells a v ≡ some c → I s → I (with_cells c s)
  pub on_number : (n : ℤ) (s : State) → T (ltb (length s.numbers) L.output) → I s → I (put_out n s)
  pub at_fuel : (s : State) → T (notb (ltb s.units L.fuel)) → I s → H (stop (limit FUEL)) s
  pub at_depth : (s : State) → I s → H (stop (limit DEPTH)) s
  pub at_cells : (s : State) → I s → H (stop (limit CELLS)) s
  pub at_bindings : (s : State) → I s → H (stop (limit BINDINGS)) s
  pub at_output : (s : State) → T (notb (ltb (length s.numbers) L.output)) → I s → H (stop (limit OUTPUT)) s
  pub at_error : (x : ErrorStop) (s : State) → NamesCell (error x) s → I s → H (stop (error x)) s
  pub at_no_rule : (s : State) → I s → H no_rule s
  pub in_fuel : (s : State) → I s → s.units ≤ L.fuel

pub data Keeps {A : Type 0} (I : State → Type 0) (H : Why → State → Type 0) : Outcome A → Type 0 where
  k_ok : {a : A} {s : State} → I s → Keeps I H (ok a s)
  k_halt : {w : Why} {p : ℕ} {s : State} → H w s → Keeps I H (halt w p s)

-- a level that keeps I
pub record KeepsLevel (I : State → Type 0) (H : Why → State → Type 0) (r : Level) : Type 0 where
  pub expr_keeps : (e : Expr) (ρ : Env) (s : State) → I s → Keeps I H (r.expr e ρ s)
  pub arg_keeps : (a : ExprP) (ρ : Env) (s : State) → I s → Keeps I H (r.arg a ρ s)
  pub def_keeps : (d : Def) (ρ : Env) (s : State) → I s → Keeps I H (r.def d ρ s)
  pub stat_keeps : (c : Stat) (ρ : Env) (s : State) → I s → Keeps I H (r.stat c ρ s)

module _ {H : Why → State → Type 0} where
  keeps_bind : {I J : State → Type 0} {A B : Type 0} {o : Outcome A} {k : A → State → Outcome B} → Keeps J H o → ((a : A) (s : State) → J s → Keeps I H (k a s)) → Keeps I H (bind o k)
  unfolding bind
  keeps_bind (k_ok {a = a} {s = s} i) f = f a s i
  keeps_bind (k_halt i) f = k_halt i

  keeps_then : {I J : State → Type 0} {o : Outcome Returned} {k : State → Outcome Returned} → ((s : State) → J s → I s) → Keeps J H o →
      ((s : State) → J s → Keeps I H (k s)) → Keeps I H (unless_returned o k)
  unfolding unless_returned
  keeps_then c (k_ok {a = none} {s = s} i) f = f s i
  keeps_then c (k_ok {a = some v} {s = s} i) f = k_ok (c s i)
  keeps_then c (k_halt i) f = k_halt i

  keeps_within : {I : State → Type 0} {A : Type 0} (b : Bool) (l : LimitStop) (p : ℕ) (s : State) {o : Outcome A} →
      (T (notb b) → H (stop (limit l)) s) → (T b → Keeps I H o) → Keeps I H (within b l p s o)
  unfolding within
  keeps_within true l p s g f = f tt
  keeps_within false l p s g f = k_halt (g tt)

  keeps_branch : {I : State → Type 0} {A : Type 0} (b : Bool) {o o' : Outcome A} → Keeps I H o → Keeps I H o' → Keeps I H (branch b o o')
  unfolding branch
  keeps_branch true h h' = h
  keeps_branch false h h' = h'

  -- what is kept, and no unit was given back
  keeps_past : {I : State → Type 0} {A : Type 0} {w : Mark} {o : Outcome A} → Keeps I H o → After w o → Keeps (λ s. I s × (w.1 ≤ s.units)) H o
  keeps_past (k_ok i) (a_ok h) = k_ok (i, h.used)
  keeps_past (k_halt i) (a_halt h) = k_halt i

-- an operator fails as RANGE or ZERO, never as UNSET
abbrev FailsAs : State → Computed → Type 0
FailsAs s (amount n) = Unit {0}
FailsAs s (fails x) = NamesCell (error x) s

abbrev MayFailAs : State → Option Computed → Type 0
MayFailAs s none = Unit {0}
MayFailAs s (some c) = FailsAs s c

ranged_fails : (s : State) (z : ℤ) → FailsAs s (ranged z)
ranged_fails s z = go (in_range z)
  where
    go : (b : Bool) → FailsAs s (cond b (amount z) (fails RANGE))
    go true = tt
    go false = tt

negated_fails : (s : State) (o : Option Bool) → MayFailAs s (negated o)
negated_fails s none = tt
negated_fails s (some true) = tt
negated_fails s (some false) = tt

op1_fails : (s : State) (o : Op) (a : ℤ) → MayFailAs s (op1 o a)
op1_fails s not a = negated_fails s (as_bit a)
op1_fails s eq a = tt
op1_fails s lt a = tt
op1_fails s add a = tt
op1_fails s sub a = tt
op1_fails s mul a = tt
op1_fails s div a = tt

op2_fails : (s : State) (o : Op) (a b : ℤ) → MayFailAs s (op2 o a b)
op2_fails s not a b = tt
op2_fails s eq a b = tt
op2_fails s lt a b = tt
op2_fails s add a b = ranged_fails s (a +ℤ b)
op2_fails s sub a b = ranged_fails s (a -ℤ b)
op2_fails s mul a b = ranged_fails s (a *ℤ b)
op2_fails s div a b = go (same_number b (pos 0))
  where
    go : (t : Bool) → FailsAs s (cond t (fails ZERO) (ranged (quotient a b)))
    go true = tt
    go false = ranged_fails s (quotient a b)

compute_fails : (s : State) (o : Op) (l : List ℤ) → MayFailAs s (compute o l)
compute_fails s o [] = tt
compute_fails s o (a ∷ []) = op1_fails s o a
compute_fails s o (a ∷ b ∷ []) = op2_fails s o a b
compute_fails s o (a ∷ b ∷ c ∷ l) = tt

operate_fails : (s : State) (o : Op) (vs : List Val) (c : Computed) → operate o vs ≡ some c → FailsAs s c
operate_fails s o vs c e = subst (MayFailAs s) e (go (as_numbers vs))
  where
    go : (m : Option (List ℤ)) → MayFailAs s (if_numbers m (compute o))
    go none = tt
    go (some l) = compute_fails s o l

module _ (L : Limits) {I : State → Type 0} {H : Why → State → Type 0} (W : Inv L I H) where
  keeps_need : {A B : Type 0} (o : Option A) (p : ℕ) (s : State) {k : A → Outcome B} → I s → ((a : A) → o ≡ some a → Keeps I H (k a)) → Keeps I H (need o p s k)
  unfolding need
  keeps_need none p s i f = k_halt (W.at_no_rule s i)
  keeps_need (some a) p s i f = f a refl

  keeps_otherwise : {A B : Type 0} (o : Option A) (x : ErrorStop) (p : ℕ) (s : State) {k : A → Outcome B} → NamesCell (error x) s → I s → ((a : A) → Keeps I H (k a)) →
      Keeps I H (otherwise o x p s k)
  unfolding otherwise
  keeps_otherwise none x p s h i f = k_halt (W.at_error x s h i)
  keeps_otherwise (some a) x p s h i f = f a

  keeps_give : (c : Computed) (p : ℕ) (s : State) → FailsAs s c → I s → Keeps I H (give c p s)
  unfolding give
  keeps_give (amount n) p s h i = k_ok i
  keeps_give (fails x) p s h i = k_halt (W.at_error x s h i)

  keeps_cell : (a : ℕ) (c : Cell) (p : ℕ) (s : State) → nth s.cells a ≡ some c → I s → Keeps I H (give_cell c.holds c.made p s)
  unfolding give_cell
  keeps_cell a c p s h i = go c.holds refl
    where
      go : (o : Option Val) → c.holds ≡ o → Keeps I H (give_cell o c.made p s)
      go none e = k_halt (W.at_error (UNSET c.made) s (a, h ∙ λ j. some (record { made = c.made; holds = e j })) i)
      go (some v) e = k_ok i

  keeps_read : (v : Val) (p : ℕ) (s : State) → I s → Keeps I H (read v p s)
  keeps_read (in_z n) p s i = k_ok i
  keeps_read (in_f e xs ρ) p s i = k_ok i
  keeps_read (in_fr e f xs ρ) p s i = k_ok i
  keeps_read (in_p b xs ρ) p s i = k_ok i
  keeps_read (in_pr b f xs ρ) p s i = k_ok i
  keeps_read (in_a a) p s i = keeps_need _ p s i λ c e. keeps_cell a c p s e i
  keeps_read (in_b a n) p s i = k_ok i

  keeps_name : (m : Meaning) (o : Option Val) (p : ℕ) (s : State) → I s → Keeps I H (name_rule m o p s)
  keeps_name (literal b) o p s i = k_ok i
  keeps_name (operator f) o p s i = k_halt (W.at_no_rule s i)
  keeps_name free o p s i = keeps_need o p s i λ v _. keeps_read v p s i

  keeps_ended : (o : Returned) (p : ℕ) (s : State) → I s → Keeps I H (ended o p s)
  keeps_ended none p s i = k_ok i
  keeps_ended (some v) p s i = k_halt (W.at_no_rule s i)

  enter_k : {A : Type 0} (p : ℕ) (s : State) {o : Outcome A} → I s → (I (take_unit s) → Keeps I H o) → Keeps I H (enter L p s (λ _. o))
  enter_k p s i f = keeps_within _ _ p s (λ b. W.at_fuel s b i) λ b. f (W.on_unit s b i)

  make_k : {A : Type 0} (n p : ℕ) (s : State) {o : Outcome A} → I s → (I (take_bindings n s) → Keeps I H o) → Keeps I H (make L n p s (λ _. o))
  make_k n p s i f = keeps_within _ _ p s (λ b. W.at_bindings s i) λ b. f (W.on_bindings n s b i)

  alloc_k : (p : ℕ) (n : ℤ) (s : State) → I s → Keeps I H (alloc_rule L p n s)
  alloc_k p n s i = keeps_otherwise _ SIZE p s tt i λ k. keeps_within _ _ p s (λ b. W.at_cells s i) λ b. k_ok (W.on_cells p k s b i)

  element_k : (p : ℕ) (v w : Val) (s : State) {k : ℕ → Outcome Val} → I s → ((a : ℕ) → Keeps I H (k a)) → Keeps I H (element_rule p v w s k)
  element_k p v w s i f = keeps_need _ p s i λ b _. keeps_need _ p s i λ n _. keeps_otherwise _ INDEX p s tt i f

  -- the count of the rounds never runs out: each takes a unit, and there are no more than the fuel
  rounds_k : (n : ℕ) (test : State → Outcome Val) (run : State → Outcome Returned) →
      ((s : State) → I s → Keeps I H (test s)) → ((s : State) → I s → Keeps I H (run s)) → ((s : State) → After (mark s) (test s)) → ((s : State) → After (mark s) (run s)) →
      (p : ℕ) (s : State) → L.fuel < s.units + n → I s → Keeps I H (rounds L n test run p s)
  rounds_k zero test run ht hr ut ur p s few i = absurd (omega (arith, few, W.in_fuel s i))
  rounds_k (suc n) test run ht hr ut ur p s few i = keeps_bind (keeps_past (ht s i) (ut s)) λ v s₁ i₁. keeps_need _ p s₁ i₁.0 λ t _.
      keeps_branch t (keeps_then (λ s i. i.0) (keeps_past (hr s₁ i₁.0) (ur s₁)) λ s₂ i₂. enter_k p s₂ i₂.0 λ i₃.
      rounds_k n test run ht hr ut ur p (take_unit s₂) (omega (arith, few, i₁.1, i₂.1)) i₃) (k_ok i₁.0)

  module _ {r : Level} (h : KeepsLevel I H r) (u : SimLevel r r) where
    exprs_k : (es : Exprs) (ρ : Env) (s : State) → I s → Keeps I H (exprs r es ρ s)
    exprs_k (one_expr e) ρ s i = keeps_bind (h.expr_keeps e ρ s i) λ v s₁ i₁. k_ok i₁
    exprs_k (more_exprs e es) ρ s i = keeps_bind (h.expr_keeps e ρ s i) λ v s₁ i₁. keeps_bind (exprs_k es ρ s₁ i₁) λ vs s₂ i₂. k_ok i₂

    args_k : (as' : List ExprP) (ρ : Env) (s : State) → I s → Keeps I H (args r as' ρ s)
    args_k [] ρ s i = k_ok i
    args_k (a ∷ as') ρ s i = keeps_bind (h.arg_keeps a ρ s i) λ v s₁ i₁. keeps_bind (args_k as' ρ s₁ i₁) λ vs s₂ i₂. k_ok i₂

    cmds_k : (cs : Cmds) (ρ : Env) (s : State) → I s → Keeps I H (cmds r cs ρ s)
    cmds_k (def_then d cs) ρ s i = keeps_bind (h.def_keeps d ρ s i) λ ρ₁ s₁ i₁. cmds_k cs ρ₁ s₁ i₁
    cmds_k (stat_then c cs) ρ s i = keeps_then (λ s i. i) (h.stat_keeps c ρ s i) λ s₁ i₁. cmds_k cs ρ s₁ i₁
    cmds_k (last c) ρ s i = h.stat_keeps c ρ s i

    block_k : (b : Block) (ρ : Env) (s : State) → I s → Keeps I H (in_block r b ρ s)
    block_k (block p cs) ρ s i = cmds_k cs ρ s i

    body_k : (b : Body) (ρ : Env) (p : ℕ) (s : State) → I s → Keeps I H (in_body r b ρ p s)
    body_k (an_expr e) ρ p s i = h.expr_keeps e ρ s i
    body_k (a_block b) ρ p s i = keeps_bind (block_k b ρ s i) λ o s₁ i₁. keeps_need o p s₁ i₁ λ v _. k_ok i₁

    apply_k : (g : Option Op) (p : ℕ) (f : Expr) (es : Exprs) (ρ : Env) (s : State) → I s → Keeps I H (apply_rule L r g p f es ρ s)
    apply_k (some o) p f es ρ s i = keeps_bind (exprs_k es ρ s i) λ vs s₁ i₁. keeps_need _ p s₁ i₁ λ c e. keeps_give c p s₁ (operate_fails s₁ o vs c e) i₁
    apply_k none p f es ρ s i = keeps_bind (h.expr_keeps f ρ s i) λ v s₁ i₁. keeps_bind (exprs_k es ρ s₁ i₁) λ vs s₂ i₂. keeps_need _ p s₂ i₂ λ c _.
        make_k c.count p s₂ i₂ λ i₃. body_k c.body c.env p _ i₃

    expr_k : (e : Expr) (ρ : Env) (s : State) → I s → Keeps I H (expr_rule L r e ρ s)
    expr_k (num p n) ρ s i = k_ok i
    expr_k (name (at p x)) ρ s i = keeps_name (meaning x) (look ρ x) p s i
    expr_k (if_expr p a b c) ρ s i = keeps_bind (h.expr_keeps a ρ s i) λ v s₁ i₁. keeps_need _ p s₁ i₁ λ t _. keeps_branch t (h.expr_keeps b ρ s₁ i₁) (h.expr_keeps c ρ s₁ i₁)
    expr_k (and p a b) ρ s i = keeps_bind (h.expr_keeps a ρ s i) λ v s₁ i₁. keeps_need _ p s₁ i₁ λ t _. keeps_branch t (h.expr_keeps b ρ s₁ i₁) (k_ok i₁)
    expr_k (or p a b) ρ s i = keeps_bind (h.expr_keeps a ρ s i) λ v s₁ i₁. keeps_need _ p s₁ i₁ λ t _. keeps_branch t (k_ok i₁) (h.expr_keeps b ρ s₁ i₁)
    expr_k (app p f es) ρ s i = apply_k (head_operator f) p f es ρ s i
    expr_k (abs p ps e) ρ s i = k_ok i
    expr_k (alloc p t e) ρ s i = keeps_bind (h.expr_keeps e ρ s i) λ v s₁ i₁. keeps_need _ p s₁ i₁ λ n _. alloc_k p n s₁ i₁
    expr_k (nth_expr p a b) ρ s i = keeps_bind (h.expr_keeps a ρ s i) λ v s₁ i₁. keeps_bind (h.expr_keeps b ρ s₁ i₁) λ w s₂ i₂.
        element_k p v w s₂ i₂ λ k. keeps_need _ p s₂ i₂ λ c e. keeps_cell k c p s₂ e i₂
    expr_k (len p a) ρ s i = keeps_bind (h.expr_keeps a ρ s i) λ v s₁ i₁. keeps_need _ p s₁ i₁ λ k _. k_ok i₁
    expr_k (vset p a b c) ρ s i = keeps_bind (h.expr_keeps a ρ s i) λ v s₁ i₁. keeps_bind (h.expr_keeps b ρ s₁ i₁) λ w s₂ i₂.
        keeps_bind (h.expr_keeps c ρ s₂ i₂) λ u s₃ i₃. element_k p v w s₃ i₃ λ k. keeps_need _ p s₃ i₃ λ cs m. k_ok (W.on_store s₃ k u cs m i₃)

    arg_k : (a : ExprP) (ρ : Env) (s : State) → I s → Keeps I H (arg_rule L r a ρ s)
    arg_k (val e) ρ s i = expr_k e ρ s i
    arg_k (adr p (at q x)) ρ s i = keeps_need _ p s i λ v _. keeps_need _ p s i λ a _. k_ok i

    def_k : (d : Def) (ρ : Env) (s : State) → I s → Keeps I H (def_rule L r d ρ s)
    def_k (const p (at q x) t e) ρ s i = keeps_bind (h.expr_keeps e ρ s i) λ v s₁ i₁. make_k 1 p s₁ i₁ λ i₂. k_ok i₂
    def_k (fun p (at q x) t ps e) ρ s i = make_k 1 p s i λ i₁. k_ok i₁
    def_k (fun_rec p (at q x) t ps e) ρ s i = make_k 1 p s i λ i₁. k_ok i₁
    def_k (fun_block p (at q x) t ps b) ρ s i = make_k 1 p s i λ i₁. k_ok i₁
    def_k (fun_rec_block p (at q x) t ps b) ρ s i = make_k 1 p s i λ i₁. k_ok i₁
    def_k (var p (at q x) t) ρ s i = keeps_within _ _ p s (λ b. W.at_cells s i) λ b. make_k 1 p (with_cells (s.cells ++ fresh p ∷ []) s) (W.on_cell p s b i) λ i₁. k_ok i₁
    def_k (proc p (at q x) ps b) ρ s i = make_k 1 p s i λ i₁. k_ok i₁
    def_k (proc_rec p (at q x) ps b) ρ s i = make_k 1 p s i λ i₁. k_ok i₁

    stat_k : (c : Stat) (ρ : Env) (s : State) → I s → Keeps I H (stat_rule L r c ρ s)
    stat_k (echo p e) ρ s i =
        keeps_bind (h.expr_keeps e ρ s i) λ v s₁ i₁. keeps_need _ p s₁ i₁ λ n _. keeps_within _ _ p s₁ (λ b. W.at_output s₁ b i₁) λ b. k_ok (W.on_number n s₁ b i₁)
    stat_k (set p (at q x) e) ρ s i = keeps_need _ p s i λ w _. keeps_need _ p s i λ a _. keeps_bind (h.expr_keeps e ρ s i) λ v s₁ i₁.
        keeps_need _ p s₁ i₁ λ c m. k_ok (W.on_store s₁ a v c m i₁)
    stat_k (if_stat p e a b) ρ s i =
        keeps_bind (h.expr_keeps e ρ s i) λ v s₁ i₁. keeps_need _ p s₁ i₁ λ t _. keeps_branch t (block_k a ρ s₁ i₁) (block_k b ρ s₁ i₁)
    stat_k (while p e b) ρ s i = rounds_k (suc L.fuel) (r.expr e ρ) (in_block r b ρ) (λ s₁ i₁. h.expr_keeps e ρ s₁ i₁) (λ s₁ i₁. block_k b ρ s₁ i₁)
        (λ s₁. sim_after (u.expr_sim e ρ s₁)) (λ s₁. sim_after (block_sim u b ρ s₁)) p s (omega arith) i
    stat_k (call p (at q x) as') ρ s i = keeps_need _ p s i λ w _. keeps_bind (args_k as' ρ s i) λ vs s₁ i₁.
        keeps_need _ p s₁ i₁ λ c _. make_k c.count p s₁ i₁ λ i₂. block_k c.body c.env _ i₂
    stat_k (return p e) ρ s i = keeps_bind (h.expr_keeps e ρ s i) λ v s₁ i₁. k_ok i₁

    step_k : KeepsLevel I H (step L r)
    step_k = record {
      expr_keeps = λ e ρ s i. enter_k _ s i λ i₁. expr_k e ρ (take_unit s) i₁;
      arg_keeps = λ a ρ s i. enter_k _ s i λ i₁. arg_k a ρ (take_unit s) i₁;
      def_keeps = λ d ρ s i. enter_k _ s i λ i₁. def_k d ρ (take_unit s) i₁;
      stat_keeps = λ c ρ s i. enter_k _ s i λ i₁. stat_k c ρ (take_unit s) i₁;
    }

  pub level_keeps : (d : ℕ) → KeepsLevel I H (level L d)
  unfolding level
  level_keeps zero = record {
    expr_keeps = λ e ρ s i. enter_k _ s i λ i₁. k_halt (W.at_depth _ i₁);
    arg_keeps = λ a ρ s i. enter_k _ s i λ i₁. k_halt (W.at_depth _ i₁);
    def_keeps = λ d ρ s i. enter_k _ s i λ i₁. k_halt (W.at_depth _ i₁);
    stat_keeps = λ c ρ s i. enter_k _ s i λ i₁. k_halt (W.at_depth _ i₁);
  }
  level_keeps (suc d) = step_k (level_keeps d) (level_self L d)

  pub run_keeps : (b : Block) → I start → Keeps I H (run L b)
  run_keeps b i = keeps_bind (block_k (level_keeps L.depth) (level_self L L.depth) b empty start i) λ o s i₁. keeps_ended o (place_block b) s i₁

-- where a limit stops a run, the limit is used up
pub data StopsAt (L : Limits) : Why → State → Type 0 where
  out_of_fuel : {s : State} → s.units ≡ L.fuel → StopsAt L (stop (limit FUEL)) s
  no_cells : {s : State} → StopsAt L (stop (limit CELLS)) s
  out_of_output : {s : State} → length s.numbers ≡ L.output → StopsAt L (stop (limit OUTPUT)) s
  too_deep : {s : State} → StopsAt L (stop (limit DEPTH)) s
  no_bindings : {s : State} → StopsAt L (stop (limit BINDINGS)) s
  by_error : {x : ErrorStop} {s : State} → NamesCell (error x) s → StopsAt L (stop (error x)) s
  by_no_rule : {s : State} → StopsAt L no_rule s

full : (a b : ℕ) → a ≤ b → T (notb (ltb a b)) → a ≡ b
full a b le t = omega (arith, le, nltb→le a b t)

pub limits_kept : (L : Limits) → Inv L (InLimits L) (λ w s. InLimits L s × StopsAt L w s)
limits_kept L = record {
  on_unit = λ s b i. record { units_in = ltb→lt _ _ b; bindings_in = i.bindings_in; cells_in = i.cells_in; numbers_in = i.numbers_in };
  on_bindings = λ n s b i. record { units_in = i.units_in; bindings_in = leb→le _ _ b; cells_in = i.cells_in; numbers_in = i.numbers_in };
  on_cell = λ p s b i. record {
    units_in = i.units_in;
    bindings_in = i.bindings_in;
    numbers_in = i.numbers_in;
    cells_in = omega (arith, length-append s.cells (fresh p ∷ []), ltb→lt (length s.cells) L.cells b);
  };
  on_cells = λ p n s b i. record {
    units_in = i.units_in;
    bindings_in = i.bindings_in;
    numbers_in = i.numbers_in;
    cells_in = omega (arith, length-append s.cells (replicate n (fresh p)), length-replicate n (fresh p), leb→le (n + length s.cells) L.cells b);
  };
  on_store = λ s a v c q i. record {
    units_in = i.units_in;
    bindings_in = i.bindings_in;
    numbers_in = i.numbers_in;
    cells_in = omega (arith, length_store s.cells a v c q, i.cells_in);
  };
  on_number = λ n s b i. record {
    units_in = i.units_in;
    bindings_in = i.bindings_in;
    cells_in = i.cells_in;
    numbers_in = omega (arith, length-append s.numbers (n ∷ []), ltb→lt (length s.numbers) L.output b);
  };
  at_fuel = λ s b i. (i, out_of_fuel (full s.units L.fuel i.units_in b));
  at_depth = λ s i. (i, too_deep);
  at_cells = λ s i. (i, no_cells);
  at_bindings = λ s i. (i, no_bindings);
  at_output = λ s b i. (i, out_of_output (full (length s.numbers) L.output i.numbers_in b));
  at_error = λ x s h i. (i, by_error h);
  at_no_rule = λ s i. (i, by_no_rule);
  in_fuel = λ s i. i.units_in;
}

run_kept : (L : Limits) (b : Block) → Keeps (InLimits L) (λ w s. InLimits L s × StopsAt L w s) (run L b)
run_kept L b = run_keeps L (limits_kept L) b (record { units_in = zero-le; bindings_in = zero-le; cells_in = zero-le; numbers_in = zero-le })

counts_kept : {L : Limits} {o : Outcome (Unit {0})} → Keeps (InLimits L) (λ w s. InLimits L s × StopsAt L w s) o → InLimits L (state_of o)
counts_kept (k_ok i) = i
counts_kept (k_halt i) = i.0

used_up : {L : Limits} (o : Outcome (Unit {0})) → Keeps (InLimits L) (λ w s. InLimits L s × StopsAt L w s) o → UsedUp L o
used_up (ok a s) k = tt
used_up {L} (halt w p s) (k_halt i) = go i.1
  where
    go : {w : Why} → StopsAt L w s → UsedUp L (halt w p s)
    go (out_of_fuel e) = e
    go no_cells = tt
    go (out_of_output e) = e
    go too_deep = tt
    go no_bindings = tt
    go (by_error h) = tt
    go by_no_rule = tt

pub counts_in_limits : (L : Limits) (b : Block) → InLimits L (state_of (run L b))
counts_in_limits L b = counts_kept (run_kept L b)

pub limit_is_used_up : (L : Limits) (b : Block) → UsedUp L (run L b)
limit_is_used_up L b = used_up (run L b) (run_kept L b)

unset_cell : {L : Limits} (o : Outcome (Unit {0})) → Keeps (InLimits L) (λ w s. InLimits L s × StopsAt L w s) o → UnsetCell o
unset_cell (ok a s) k = tt
unset_cell {L} (halt w p s) (k_halt i) = go i.1
  where
    go : {w : Why} → StopsAt L w s → UnsetCell (halt w p s)
    go (out_of_fuel e) = tt
    go no_cells = tt
    go (out_of_output e) = tt
    go too_deep = tt
    go no_bindings = tt
    go (by_error h) = h
    go by_no_rule = tt

pub unset_names_its_cell : (L : Limits) (b : Block) → UnsetCell (run L b)
unset_names_its_cell L b = unset_cell (run L b) (run_kept L b)
