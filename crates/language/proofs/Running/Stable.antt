-- A run that no limit stops is the same under larger limits, what any run put out is how the other's numbers begin, and what any run took the other takes too.
use mathlib.Core.Path.{◌≡◌, refl, sym, ◌∙◌, ap}
use Prim.Native.Nat.{ℕ, zero, suc, ◌≤◌, suc-le-suc}
use native.Mathlib.Nat.{le_refl, le_trans, le_of_suc-le-suc, not-suc-le-zero}
use native.Mathlib.Omega.{arith}
use mathlib.Core.Bool.{Bool, true, false}
use mathlib.Core.List.{List, [], ◌∷◌, ◌++◌, append_assoc, append-nil}
use mathlib.Core.Option.{Option, none, some}
use lib.Dec.{T, leb, leb→le, le→leb}
use lib.IntN.{ℤ}
use lib.ListN.{length, length-append, replicate}
use Rattle.language.specs.Syntax.{at, Expr, num, name, if_expr, and, or, app, abs, alloc, nth_expr, len, vset, Exprs, one_expr, more_exprs, ExprP, val, adr, Cmds, last, def_then, stat_then, Def, const, fun, fun_rec, fun_block, fun_rec_block, var, proc, proc_rec, Stat, echo, set, if_stat, while, call, return, Block, block}
use Rattle.language.specs.Answers.{LimitStop, ErrorStop, limit}
use Rattle.language.specs.Names.{Op, Meaning, literal, operator, free, meaning, head_operator}
use Rattle.language.specs.Numbers.{Computed, amount, fails}
use Rattle.language.specs.Limits.{Limits, ◌⊑◌}
use Rattle.language.specs.Rules.{Val, in_z, in_f, in_fr, in_p, in_pr, in_a, in_b, Env, empty, Cell, State, Returned, Why, stop, Outcome, ok, halt, bind, need, unless_returned, otherwise, within, branch, take_unit, take_bindings, with_cells, put_out, enter, make, look, Body, an_expr, a_block, fresh, store, give, give_cell, Level, exprs, args, cmds, in_block, in_body, read, name_rule, apply_rule, alloc_rule, element_rule, expr_rule, arg_rule, def_rule, rounds, stat_rule, bottom, step, level, start, run, ended}
use Rattle.language.specs.Outcome.{state_of}
use Rattle.language.specs.Claims.{NotLimited}
use Rattle.language.proofs.Running.Cells.{length_store}
use Rattle.language.specs.Places.{place_block}

-- the numbers of the second list begin with those of the first
pub data Begins : List ℤ → List ℤ → Type 0 where
  all : {l : List ℤ} → Begins l l
  more : {l m : List ℤ} (n : ℤ) → Begins l m → Begins l (m ++ n ∷ [])

begins_trans : {a b c : List ℤ} → Begins a b → Begins b c → Begins a c
begins_trans h all = h
begins_trans h (more n k) = more n (begins_trans h k)

-- how far a run has come: the numbers put out, and the units, bindings and cells taken
abbrev pub Mark : Type 0
Mark = List ℤ × ℕ × ℕ × ℕ

abbrev pub mark : State → Mark
mark s = (s.numbers, s.units, s.bindings, length s.cells)

pub record Past (a b : Mark) : Type 0 where
  pub outs : Begins a.0 b.0
  pub used : a.1 ≤ b.1
  pub made : a.2 ≤ b.2
  pub taken : a.3 ≤ b.3

pub p_here : {a : Mark} → Past a a
p_here = record { outs = all; used = le_refl _; made = le_refl _; taken = le_refl _ }

past_trans : {a b c : Mark} → Past a b → Past b c → Past a c
past_trans h k =
    record { outs = begins_trans h.outs k.outs; used = le_trans h.used k.used; made = le_trans h.made k.made; taken = le_trans h.taken k.taken }

past_unit : (s : State) → Past (mark s) (mark (take_unit s))
past_unit s = record { outs = all; used = omega arith; made = le_refl _; taken = le_refl _ }

past_bindings : (n : ℕ) (s : State) → Past (mark s) (mark (take_bindings n s))
past_bindings n s = record { outs = all; used = le_refl _; made = omega arith; taken = le_refl _ }

past_cell : (p : ℕ) (s : State) → Past (mark s) (mark (with_cells (s.cells ++ fresh p ∷ []) s))
past_cell p s = record { outs = all; used = le_refl _; made = le_refl _; taken = omega (arith, length-append s.cells (fresh p ∷ [])) }

past_cells : (p n : ℕ) (s : State) → Past (mark s) (mark (with_cells (s.cells ++ replicate n (fresh p)) s))
past_cells p n s = record { outs = all; used = le_refl _; made = le_refl _; taken = omega (arith, length-append s.cells (replicate n (fresh p))) }

past_store : (s : State) (a : ℕ) (v : Val) (c : List Cell) → store s.cells a v ≡ some c → Past (mark s) (mark (with_cells c s))
past_store s a v c e = record { outs = all; used = le_refl _; made = le_refl _; taken = omega (arith, length_store s.cells a v c e) }

past_number : (n : ℤ) (s : State) → Past (mark s) (mark (put_out n s))
past_number n s = record { outs = more n all; used = le_refl _; made = le_refl _; taken = le_refl _ }

pub data After {A : Type 0} (w : Mark) : Outcome A → Type 0 where
  a_ok : {a : A} {s : State} → Past w (mark s) → After w (ok a s)
  a_halt : {y : Why} {p : ℕ} {s : State} → Past w (mark s) → After w (halt y p s)

-- from a mark w: the same end; or the first is stopped by a limit, and the second goes on from there
pub data Sim {A : Type 0} (w : Mark) : Outcome A → Outcome A → Type 0 where
  same : {o : Outcome A} → After w o → Sim w o o
  cut : {l : LimitStop} {p : ℕ} {s : State} {o : Outcome A} → Past w (mark s) → After (mark s) o → Sim w (halt (stop (limit l)) p s) o

module _ {A : Type 0} where
  after_lift : {w u : Mark} {o : Outcome A} → Past w u → After u o → After w o
  after_lift t (a_ok h) = a_ok (past_trans t h)
  after_lift t (a_halt h) = a_halt (past_trans t h)

  sim_lift : {w u : Mark} {o o' : Outcome A} → Past w u → Sim u o o' → Sim w o o'
  sim_lift t (same h) = same (after_lift t h)
  sim_lift t (cut h k) = cut (past_trans t h) k

  pub sim_after : {w : Mark} {o o' : Outcome A} → Sim w o o' → After w o'
  sim_after (same h) = h
  sim_after (cut h k) = after_lift h k

  sim_self : {w : Mark} {o o' : Outcome A} → Sim w o o' → Sim w o' o'
  sim_self h = same (sim_after h)

  sim_within : (b b' : Bool) (l : LimitStop) (p : ℕ) (s : State) {o o' : Outcome A} → (T b → T b') → Sim (mark s) o o' →
      Sim (mark s) (within b l p s o) (within b' l p s o')
  unfolding within
  sim_within true true l p s f h = h
  sim_within true false l p s f h = absurd (f tt)
  sim_within false true l p s f h = cut p_here (sim_after h)
  sim_within false false l p s f h = same (a_halt p_here)

  sim_branch : (b : Bool) {w : Mark} {o₁ o₁' o₂ o₂' : Outcome A} → Sim w o₁ o₁' → Sim w o₂ o₂' → Sim w (branch b o₁ o₂) (branch b o₁' o₂')
  unfolding branch
  sim_branch true h k = h
  sim_branch false h k = k

module _ {A B : Type 0} where
  sim_bind : {w : Mark} {o o' : Outcome A} {k k' : A → State → Outcome B} → Sim w o o' → ((a : A) (s : State) → Sim (mark s) (k a s) (k' a s)) →
      Sim w (bind o k) (bind o' k')
  unfolding bind
  sim_bind (same {o = ok a s} (a_ok t)) f = sim_lift t (f a s)
  sim_bind (same {o = halt y p s} (a_halt t)) f = same (a_halt t)
  sim_bind (cut {o = ok a s} t (a_ok u)) f = cut t (after_lift u (sim_after (f a s)))
  sim_bind (cut {o = halt y p s} t (a_halt u)) f = cut t (a_halt u)

  sim_need_as : (o : Option A) (p : ℕ) (s : State) {k k' : A → Outcome B} → ((a : A) → o ≡ some a → Sim (mark s) (k a) (k' a)) →
      Sim (mark s) (need o p s k) (need o p s k')
  unfolding need
  sim_need_as none p s f = same (a_halt p_here)
  sim_need_as (some a) p s f = f a refl

  sim_need : (o : Option A) (p : ℕ) (s : State) {k k' : A → Outcome B} → ((a : A) → Sim (mark s) (k a) (k' a)) → Sim (mark s) (need o p s k) (need o p s k')
  sim_need o p s f = sim_need_as o p s λ a _. f a

  sim_otherwise : (o : Option A) (x : ErrorStop) (p : ℕ) (s : State) {k k' : A → Outcome B} → ((a : A) → Sim (mark s) (k a) (k' a)) →
      Sim (mark s) (otherwise o x p s k) (otherwise o x p s k')
  unfolding otherwise
  sim_otherwise none x p s f = same (a_halt p_here)
  sim_otherwise (some a) x p s f = f a

sim_then : {w : Mark} {o o' : Outcome Returned} {k k' : State → Outcome Returned} → Sim w o o' → ((s : State) → Sim (mark s) (k s) (k' s)) →
    Sim w (unless_returned o k) (unless_returned o' k')
unfolding unless_returned
sim_then (same {o = ok none s} (a_ok t)) f = sim_lift t (f s)
sim_then (same {o = ok (some v) s} (a_ok t)) f = same (a_ok t)
sim_then (same {o = halt y p s} (a_halt t)) f = same (a_halt t)
sim_then (cut {o = ok none s} t (a_ok u)) f = cut t (after_lift u (sim_after (f s)))
sim_then (cut {o = ok (some v) s} t (a_ok u)) f = cut t (a_ok u)
sim_then (cut {o = halt y p s} t (a_halt u)) f = cut t (a_halt u)

ended_sim : (o : Returned) (p : ℕ) (s : State) → Sim (mark s) (ended o p s) (ended o p s)
ended_sim none p s = same (a_ok p_here)
ended_sim (some v) p s = same (a_halt p_here)

give_sim : (c : Computed) (p : ℕ) (s : State) → Sim (mark s) (give c p s) (give c p s)
unfolding give
give_sim (amount n) p s = same (a_ok p_here)
give_sim (fails x) p s = same (a_halt p_here)

give_cell_sim : (c : Option Val) (m p : ℕ) (s : State) → Sim (mark s) (give_cell c m p s) (give_cell c m p s)
unfolding give_cell
give_cell_sim none m p s = same (a_halt p_here)
give_cell_sim (some v) m p s = same (a_ok p_here)

read_sim : (v : Val) (p : ℕ) (s : State) → Sim (mark s) (read v p s) (read v p s)
read_sim (in_z n) p s = same (a_ok p_here)
read_sim (in_f e xs ρ) p s = same (a_ok p_here)
read_sim (in_fr e f xs ρ) p s = same (a_ok p_here)
read_sim (in_p b xs ρ) p s = same (a_ok p_here)
read_sim (in_pr b f xs ρ) p s = same (a_ok p_here)
read_sim (in_a a) p s = sim_need _ p s λ c. give_cell_sim c.holds c.made p s
read_sim (in_b a n) p s = same (a_ok p_here)

name_sim : (m : Meaning) (o : Option Val) (p : ℕ) (s : State) → Sim (mark s) (name_rule m o p s) (name_rule m o p s)
name_sim (literal b) o p s = same (a_ok p_here)
name_sim (operator f) o p s = same (a_halt p_here)
name_sim free o p s = sim_need o p s λ v. read_sim v p s

element_sim : (p : ℕ) (v w : Val) (s : State) {k : ℕ → Outcome Val} → ((a : ℕ) → Sim (mark s) (k a) (k a)) → Sim (mark s) (element_rule p v w s k) (element_rule p v w s k)
element_sim p v w s f = sim_need _ p s λ b. sim_need _ p s λ i. sim_otherwise _ _ p s f

pub ⊑_refl : (L : Limits) → L ⊑ L
⊑_refl L = record { fuel_le = le_refl _; depth_le = le_refl _; bindings_le = le_refl _; cells_le = le_refl _; output_le = le_refl _ }

up : {a b : ℕ} (x : ℕ) → a ≤ b → T (leb x a) → T (leb x b)
up {a} {b} x h t = le→leb x b (le_trans (leb→le x a t) h)

-- levels that agree so
pub record SimLevel (r r' : Level) : Type 0 where
  pub expr_sim : (e : Expr) (ρ : Env) (s : State) → Sim (mark s) (r.expr e ρ s) (r'.expr e ρ s)
  pub arg_sim : (a : ExprP) (ρ : Env) (s : State) → Sim (mark s) (r.arg a ρ s) (r'.arg a ρ s)
  pub def_sim : (d : Def) (ρ : Env) (s : State) → Sim (mark s) (r.def d ρ s) (r'.def d ρ s)
  pub stat_sim : (c : Stat) (ρ : Env) (s : State) → Sim (mark s) (r.stat c ρ s) (r'.stat c ρ s)

module _ {L L' : Limits} (le : L ⊑ L') where
  enter_sim : {A : Type 0} (p : ℕ) (s : State) {o o' : Outcome A} → Sim (mark (take_unit s)) o o' → Sim (mark s) (enter L p s (λ _. o)) (enter L' p s (λ _. o'))
  enter_sim p s h = sim_within _ _ _ p s (up _ le.fuel_le) (sim_lift (past_unit s) h)

  make_sim : {A : Type 0} (n p : ℕ) (s : State) {o o' : Outcome A} → Sim (mark (take_bindings n s)) o o' →
      Sim (mark s) (make L n p s (λ _. o)) (make L' n p s (λ _. o'))
  make_sim n p s h = sim_within _ _ _ p s (up _ le.bindings_le) (sim_lift (past_bindings n s) h)

  alloc_sim : (p : ℕ) (n : ℤ) (s : State) → Sim (mark s) (alloc_rule L p n s) (alloc_rule L' p n s)
  alloc_sim p n s = sim_otherwise _ _ p s λ k. sim_within _ _ _ p s (up _ le.cells_le) (same (a_ok (past_cells p k s)))

-- rounds, with the same count and then with a larger one
abbrev Round : (test test' : State → Outcome Val) (run run' : State → Outcome Returned) → Type 0
Round test test' run run' = ((s : State) → Sim (mark s) (test s) (test' s)) × ((s : State) → Sim (mark s) (run s) (run' s))

rounds_self : (L : Limits) (n : ℕ) (test : State → Outcome Val) (run : State → Outcome Returned) → Round test test run run → (p : ℕ) (s : State) →
    Sim (mark s) (rounds L n test run p s) (rounds L n test run p s)
rounds_self L zero test run h p s = same (a_halt p_here)
rounds_self L (suc n) test run h p s =
    sim_bind (h.0 s) λ v s₁. sim_need _ p s₁ λ t. sim_branch t (sim_then (h.1 s₁) λ s₂. enter_sim (⊑_refl L) p s₂ (rounds_self L n test run h p (take_unit s₂))) (same (a_ok p_here))

rounds_sim : {L L' : Limits} → L ⊑ L' → (n n' : ℕ) → n ≤ n' → (test test' : State → Outcome Val) (run run' : State → Outcome Returned) →
    Round test test' run run' →
    (p : ℕ) (s : State) → Sim (mark s) (rounds L n test run p s) (rounds L' n' test' run' p s)
rounds_sim {L' = L'} le zero n' m test test' run run' h p s =
    cut p_here (sim_after (rounds_self L' n' test' run' ((λ s. sim_self (h.0 s)), (λ s. sim_self (h.1 s))) p s))
rounds_sim le (suc n) zero m test test' run run' h p s = absurd (not-suc-le-zero m)
rounds_sim le (suc n) (suc n') m test test' run run' h p s =
    sim_bind (h.0 s) λ v s₁. sim_need _ p s₁ λ t.
    sim_branch t (sim_then (h.1 s₁) λ s₂. enter_sim le p s₂ (rounds_sim le n n' (le_of_suc-le-suc m) test test' run run' h p (take_unit s₂))) (same (a_ok p_here))

module _ {r r' : Level} (h : SimLevel r r') where
  exprs_sim : (es : Exprs) (ρ : Env) (s : State) → Sim (mark s) (exprs r es ρ s) (exprs r' es ρ s)
  exprs_sim (one_expr e) ρ s = sim_bind (h.expr_sim e ρ s) λ v s₁. same (a_ok p_here)
  exprs_sim (more_exprs e es) ρ s = sim_bind (h.expr_sim e ρ s) λ v s₁. sim_bind (exprs_sim es ρ s₁) λ vs s₂. same (a_ok p_here)

  args_sim : (as' : List ExprP) (ρ : Env) (s : State) → Sim (mark s) (args r as' ρ s) (args r' as' ρ s)
  args_sim [] ρ s = same (a_ok p_here)
  args_sim (a ∷ as') ρ s = sim_bind (h.arg_sim a ρ s) λ v s₁. sim_bind (args_sim as' ρ s₁) λ vs s₂. same (a_ok p_here)

  cmds_sim : (cs : Cmds) (ρ : Env) (s : State) → Sim (mark s) (cmds r cs ρ s) (cmds r' cs ρ s)
  cmds_sim (def_then d cs) ρ s = sim_bind (h.def_sim d ρ s) λ ρ₁ s₁. cmds_sim cs ρ₁ s₁
  cmds_sim (stat_then c cs) ρ s = sim_then (h.stat_sim c ρ s) λ s₁. cmds_sim cs ρ s₁
  cmds_sim (last c) ρ s = h.stat_sim c ρ s

  pub block_sim : (b : Block) (ρ : Env) (s : State) → Sim (mark s) (in_block r b ρ s) (in_block r' b ρ s)
  block_sim (block p cs) ρ s = cmds_sim cs ρ s

  body_sim : (b : Body) (ρ : Env) (p : ℕ) (s : State) → Sim (mark s) (in_body r b ρ p s) (in_body r' b ρ p s)
  body_sim (an_expr e) ρ p s = h.expr_sim e ρ s
  body_sim (a_block b) ρ p s = sim_bind (block_sim b ρ s) λ o s₁. sim_need o p s₁ λ v. same (a_ok p_here)

  module _ {L L' : Limits} (le : L ⊑ L') where
    apply_sim : (g : Option Op) (p : ℕ) (f : Expr) (es : Exprs) (ρ : Env) (s : State) →
        Sim (mark s) (apply_rule L r g p f es ρ s) (apply_rule L' r' g p f es ρ s)
    apply_sim (some o) p f es ρ s = sim_bind (exprs_sim es ρ s) λ vs s₁. sim_need _ p s₁ λ c. give_sim c p s₁
    apply_sim none p f es ρ s =
        sim_bind (h.expr_sim f ρ s) λ v s₁. sim_bind (exprs_sim es ρ s₁) λ vs s₂. sim_need _ p s₂ λ c.
        make_sim le c.count p s₂ (body_sim c.body c.env p (take_bindings c.count s₂))

    expr_rule_sim : (e : Expr) (ρ : Env) (s : State) → Sim (mark s) (expr_rule L r e ρ s) (expr_rule L' r' e ρ s)
    expr_rule_sim (num p n) ρ s = same (a_ok p_here)
    expr_rule_sim (name (at p x)) ρ s = name_sim (meaning x) (look ρ x) p s
    expr_rule_sim (if_expr p a b c) ρ s = sim_bind (h.expr_sim a ρ s) λ v s₁. sim_need _ p s₁ λ t. sim_branch t (h.expr_sim b ρ s₁) (h.expr_sim c ρ s₁)
    expr_rule_sim (and p a b) ρ s = sim_bind (h.expr_sim a ρ s) λ v s₁. sim_need _ p s₁ λ t. sim_branch t (h.expr_sim b ρ s₁) (same (a_ok p_here))
    expr_rule_sim (or p a b) ρ s = sim_bind (h.expr_sim a ρ s) λ v s₁. sim_need _ p s₁ λ t. sim_branch t (same (a_ok p_here)) (h.expr_sim b ρ s₁)
    expr_rule_sim (app p f es) ρ s = apply_sim (head_operator f) p f es ρ s
    expr_rule_sim (abs p ps e) ρ s = same (a_ok p_here)
    expr_rule_sim (alloc p t e) ρ s = sim_bind (h.expr_sim e ρ s) λ v s₁. sim_need _ p s₁ λ n. alloc_sim le p n s₁
    expr_rule_sim (nth_expr p a b) ρ s =
        sim_bind (h.expr_sim a ρ s) λ v s₁. sim_bind (h.expr_sim b ρ s₁) λ w s₂. element_sim p v w s₂ λ k. sim_need _ p s₂ λ c. give_cell_sim c.holds c.made p s₂
    expr_rule_sim (len p a) ρ s = sim_bind (h.expr_sim a ρ s) λ v s₁. sim_need _ p s₁ λ k. same (a_ok p_here)
    expr_rule_sim (vset p a b c) ρ s =
        sim_bind (h.expr_sim a ρ s) λ v s₁. sim_bind (h.expr_sim b ρ s₁) λ w s₂. sim_bind (h.expr_sim c ρ s₂) λ u s₃.
        element_sim p v w s₃ λ k. sim_need_as _ p s₃ λ cs e. same (a_ok (past_store s₃ k u cs e))

    arg_rule_sim : (a : ExprP) (ρ : Env) (s : State) → Sim (mark s) (arg_rule L r a ρ s) (arg_rule L' r' a ρ s)
    arg_rule_sim (val e) ρ s = expr_rule_sim e ρ s
    arg_rule_sim (adr p (at q x)) ρ s = sim_need _ p s λ v. sim_need _ p s λ a. same (a_ok p_here)

    def_rule_sim : (d : Def) (ρ : Env) (s : State) → Sim (mark s) (def_rule L r d ρ s) (def_rule L' r' d ρ s)
    def_rule_sim (const p (at q x) t e) ρ s = sim_bind (h.expr_sim e ρ s) λ v s₁. make_sim le 1 p s₁ (same (a_ok p_here))
    def_rule_sim (fun p (at q x) t ps e) ρ s = make_sim le 1 p s (same (a_ok p_here))
    def_rule_sim (fun_rec p (at q x) t ps e) ρ s = make_sim le 1 p s (same (a_ok p_here))
    def_rule_sim (fun_block p (at q x) t ps b) ρ s = make_sim le 1 p s (same (a_ok p_here))
    def_rule_sim (fun_rec_block p (at q x) t ps b) ρ s = make_sim le 1 p s (same (a_ok p_here))
    def_rule_sim (var p (at q x) t) ρ s = sim_within _ _ _ p s (up _ le.cells_le) (sim_lift (past_cell p s) (make_sim le 1 p (with_cells (s.cells ++ fresh p ∷ []) s) (same (a_ok p_here))))
    def_rule_sim (proc p (at q x) ps b) ρ s = make_sim le 1 p s (same (a_ok p_here))
    def_rule_sim (proc_rec p (at q x) ps b) ρ s = make_sim le 1 p s (same (a_ok p_here))

    stat_rule_sim : (c : Stat) (ρ : Env) (s : State) → Sim (mark s) (stat_rule L r c ρ s) (stat_rule L' r' c ρ s)
    stat_rule_sim (echo p e) ρ s =
        sim_bind (h.expr_sim e ρ s) λ v s₁. sim_need _ p s₁ λ n. sim_within _ _ _ p s₁ (up _ le.output_le) (same (a_ok (past_number n s₁)))
    stat_rule_sim (set p (at q x) e) ρ s =
        sim_need _ p s λ w. sim_need _ p s λ a. sim_bind (h.expr_sim e ρ s) λ v s₁. sim_need_as _ p s₁ λ c e. same (a_ok (past_store s₁ a v c e))
    stat_rule_sim (if_stat p e a b) ρ s = sim_bind (h.expr_sim e ρ s) λ v s₁. sim_need _ p s₁ λ t. sim_branch t (block_sim a ρ s₁) (block_sim b ρ s₁)
    stat_rule_sim (while p e b) ρ s = rounds_sim le _ _ (suc-le-suc le.fuel_le) _ _ _ _ ((λ s. h.expr_sim e ρ s), (λ s. block_sim b ρ s)) p s
    stat_rule_sim (call p (at q x) as') ρ s =
        sim_need _ p s λ w. sim_bind (args_sim as' ρ s) λ vs s₁. sim_need _ p s₁ λ c. make_sim le c.count p s₁ (block_sim c.body c.env (take_bindings c.count s₁))
    stat_rule_sim (return p e) ρ s = sim_bind (h.expr_sim e ρ s) λ v s₁. same (a_ok p_here)

    step_sim : SimLevel (step L r) (step L' r')
    step_sim = record {
      expr_sim = λ e ρ s. enter_sim le _ s (expr_rule_sim e ρ (take_unit s));
      arg_sim = λ a ρ s. enter_sim le _ s (arg_rule_sim a ρ (take_unit s));
      def_sim = λ d ρ s. enter_sim le _ s (def_rule_sim d ρ (take_unit s));
      stat_sim = λ c ρ s. enter_sim le _ s (stat_rule_sim c ρ (take_unit s));
    }

bottom_sim : {L L' : Limits} → L ⊑ L' → SimLevel (bottom L) (bottom L')
bottom_sim le = record {
  expr_sim = λ e ρ s. enter_sim le _ s (same (a_halt p_here));
  arg_sim = λ a ρ s. enter_sim le _ s (same (a_halt p_here));
  def_sim = λ d ρ s. enter_sim le _ s (same (a_halt p_here));
  stat_sim = λ c ρ s. enter_sim le _ s (same (a_halt p_here));
}

-- DEPTH where the other goes on
cut_sim : {L L' : Limits} → L ⊑ L' → {r : Level} → SimLevel r r → SimLevel (bottom L) (step L' r)
cut_sim {L} {L'} le h = let self = ⊑_refl L' in record {
  expr_sim = λ e ρ s. enter_sim le _ s (cut p_here (sim_after (expr_rule_sim h self e ρ (take_unit s))));
  arg_sim = λ a ρ s. enter_sim le _ s (cut p_here (sim_after (arg_rule_sim h self a ρ (take_unit s))));
  def_sim = λ d ρ s. enter_sim le _ s (cut p_here (sim_after (def_rule_sim h self d ρ (take_unit s))));
  stat_sim = λ c ρ s. enter_sim le _ s (cut p_here (sim_after (stat_rule_sim h self c ρ (take_unit s))));
}

pub level_self : (L : Limits) (d : ℕ) → SimLevel (level L d) (level L d)
unfolding level
level_self L zero = bottom_sim (⊑_refl L)
level_self L (suc d) = step_sim (level_self L d) (⊑_refl L)

pub level_sim : {L L' : Limits} → L ⊑ L' → (d d' : ℕ) → d ≤ d' → SimLevel (level L d) (level L' d')
unfolding level
level_sim le zero zero m = bottom_sim le
level_sim {L' = L'} le zero (suc d') m = cut_sim le (level_self L' d')
level_sim le (suc d) zero m = absurd (not-suc-le-zero m)
level_sim le (suc d) (suc d') m = step_sim (level_sim le d d' (le_of_suc-le-suc m)) le

pub run_sim : {L L' : Limits} → L ⊑ L' → (b : Block) → Sim (mark start) (run L b) (run L' b)
run_sim {L} {L'} le b = sim_bind (block_sim (level_sim le L.depth L'.depth le.depth_le) b empty start) λ o s. ended_sim o (place_block b) s

same_end : {A : Type 0} {w : Mark} {o o' : Outcome A} → Sim w o o' → NotLimited o → o' ≡ o
same_end (same h) n = refl
same_end (cut t h) n = absurd n

pub begins_is : {a b : List ℤ} → Begins a b → (m : List ℤ) × (b ≡ a ++ m)
begins_is {a} all = ([], sym (append-nil a))
begins_is {a} (more n h) = let r = begins_is h in (r.0 ++ n ∷ [], ap {B = List ℤ} (λ l. l ++ n ∷ []) r.1 ∙ append_assoc a r.0 (n ∷ []))

outputs_begin : {A : Type 0} {w : Mark} {o o' : Outcome A} → Sim w o o' → (m : List ℤ) × ((state_of o').numbers ≡ (state_of o).numbers ++ m)
outputs_begin (same {o = o} h) = begins_is {a = (state_of o).numbers} all
outputs_begin (cut t (a_ok h)) = begins_is h.outs
outputs_begin (cut t (a_halt h)) = begins_is h.outs

pub same_under_larger_limits : (L L' : Limits) → L ⊑ L' → (b : Block) → NotLimited (run L b) → run L' b ≡ run L b
same_under_larger_limits L L' le b n = same_end (run_sim le b) n

pub numbers_begin : (L L' : Limits) → L ⊑ L' → (b : Block) → (m : List ℤ) × ((state_of (run L' b)).numbers ≡ (state_of (run L b)).numbers ++ m)
numbers_begin L L' le b = outputs_begin (run_sim le b)
