-- Two runs in step: trees that agree but for places and for names that correspond one to one, under the same limits, go through states that agree.
use mathlib.Core.Path.{◌≡◌, refl, ap, subst}
use Prim.Native.Nat.{ℕ, zero, suc, ◌+◌}
use native.Mathlib.Omega.{arith}
use mathlib.Core.Bool.{Bool, true, false, cond}
use mathlib.Core.List.{List, [], ◌∷◌, ◌++◌}
use mathlib.Core.Option.{Option, none, some}
use lib.Dec.{leb, ltb}
use lib.IntN.{ℤ}
use lib.ListN.{length, replicate}
use Rattle.language.specs.Syntax.{Name, Arg, ArgP, Expr, Exprs, ExprP, Cmds, Def, Stat, Block}
use Rattle.language.specs.Bytes.{same_bytes}
use Rattle.language.specs.Places.{place_block}
use Rattle.language.specs.Answers.{LimitStop, CELLS, OUTPUT, ErrorStop, UNSET, SIZE, INDEX, error, Answer, done, stopped}
use Rattle.language.specs.Names.{Op, Meaning, literal, operator, free, meaning, unless_nine, head_operator}
use Rattle.language.specs.Numbers.{Computed, amount, fails, as_bit}
use Rattle.language.specs.Grammar.{BLOCK, CMDS, DEF, STAT, ARGS, ARGSP, EXPR, EXPRS, EXPRP, EXPRSP}
use Rattle.language.specs.Types.{values, param_names}
use Rattle.language.specs.Limits.{Limits}
use Rattle.language.specs.Rules.{Val, in_z, in_f, in_fr, in_p, in_pr, in_a, in_b, Env, empty, bound, Cell, State, Returned, Why, stop, no_rule, Outcome, ok, halt, bind, need, otherwise, unless_returned, within, branch, take_unit, take_bindings, with_cells, put_out, enter, make, lookup_env, look, bind_all, nth, behind, fresh, store, as_number, if_number, as_truth, as_address, as_block, as_size, cell_in, as_numbers, operate, Entered, entering, also, Body, an_expr, open_function, open_procedure, give, give_cell, Level, exprs, args, cmds, in_block, in_body, read, name_rule, apply_rule, alloc_rule, element_rule, expr_rule, arg_rule, def_rule, rounds, stat_rule, step, level, ended, run}
use Rattle.language.specs.Outcome.{Report, report}
use Rattle.renaming.specs.Alike.{Alike, a_block, a_last, a_def_then, a_stat_then, a_const, a_fun, a_fun_rec, a_fun_block, a_fun_rec_block, a_var, a_proc, a_proc_rec, a_args, a_no_args, a_arg, a_val_arg, a_var_arg, a_no_argsp, a_argsp, a_echo, a_set, a_if_stat, a_while, a_call, a_return, a_val, a_adr, a_no_exprsp, a_exprsp, a_num, a_name, a_if_expr, a_and, a_or, a_app, a_abs, a_alloc, a_nth, a_len, a_vset, a_one_expr, a_more_exprs}
use Rattle.renaming.specs.RenamingClaims.{unmade, unplaced_report}
use Rattle.renaming.proofs.Corresponding.{Corresponds, SameNames, no_names, a_name_more, same_head}

-- ---- what agrees

data SameOption {A : Type 0} (P : A → A → Type 0) : Option A → Option A → Type 0 where
  nones : SameOption P none none
  somes : {a b : A} → P a b → SameOption P (some a) (some b)

mutual
  data SameVal (N : Name → Name → Type 0) : Val → Val → Type 0 where
    s_number : {n : ℤ} → SameVal N (in_z n) (in_z n)
    s_function : {e f : Expr} {xs ys : List Name} {ρ π : Env} → Alike N EXPR e f → SameNames N xs ys → SameEnv N ρ π → SameVal N (in_f e xs ρ) (in_f f ys π)
    s_function_rec : {e f : Expr} {x y : Name} {xs ys : List Name} {ρ π : Env} → Alike N EXPR e f → N x y → SameNames N xs ys → SameEnv N ρ π → SameVal N (in_fr e x xs ρ) (in_fr f y ys π)
    s_procedure : {b c : Block} {xs ys : List Name} {ρ π : Env} → Alike N BLOCK b c → SameNames N xs ys → SameEnv N ρ π → SameVal N (in_p b xs ρ) (in_p c ys π)
    s_procedure_rec : {b c : Block} {x y : Name} {xs ys : List Name} {ρ π : Env} → Alike N BLOCK b c → N x y → SameNames N xs ys → SameEnv N ρ π → SameVal N (in_pr b x xs ρ) (in_pr c y ys π)
    s_address : {a : ℕ} → SameVal N (in_a a) (in_a a)
    s_block : {a n : ℕ} → SameVal N (in_b a n) (in_b a n)

  data SameEnv (N : Name → Name → Type 0) : Env → Env → Type 0 where
    s_empty : SameEnv N empty empty
    s_bound : {x y : Name} {v w : Val} {ρ π : Env} → N x y → SameVal N v w → SameEnv N ρ π → SameEnv N (bound x v ρ) (bound y w π)

data SameVals (N : Name → Name → Type 0) : List Val → List Val → Type 0 where
  no_vals : SameVals N [] []
  a_val_more : {v w : Val} {vs ws : List Val} → SameVal N v w → SameVals N vs ws → SameVals N (v ∷ vs) (w ∷ ws)

abbrev SameCell : (N : Name → Name → Type 0) → Cell → Cell → Type 0  -- the same stands in both, wherever they were made
SameCell N c d = SameOption (SameVal N) c.holds d.holds

data SameCells (N : Name → Name → Type 0) : List Cell → List Cell → Type 0 where
  no_cells : SameCells N [] []
  a_cell_more : {v w : Cell} {c d : List Cell} → SameCell N v w → SameCells N c d → SameCells N (v ∷ c) (w ∷ d)

-- the same counts and numbers, and cells that agree
data SameState (N : Name → Name → Type 0) (s : State) : State → Type 0 where
  state : {c : List Cell} → SameCells N s.cells c → SameState N s (with_cells c s)

-- the same result, or the same early end, wherever it is
data SameOutcome (N : Name → Name → Type 0) {A : Type 0} (P : A → A → Type 0) : Outcome A → Outcome A → Type 0 where
  s_ok : {a b : A} {s t : State} → P a b → SameState N s t → SameOutcome N P (ok a s) (ok b t)
  s_halt : {w : Why} {p q : ℕ} {s t : State} → SameState N s t → SameOutcome N P (halt w p s) (halt w q t)
  s_unset : {m n p q : ℕ} {s t : State} → SameState N s t → SameOutcome N P (halt (stop (error (UNSET m))) p s) (halt (stop (error (UNSET n))) q t)

abbrev Both : (N : Name → Name → Type 0) → Returned → Returned → Type 0  -- both go on, or both returned values that agree
Both N a b = SameOption (SameVal N) a b

abbrev Units : Unit {0} → Unit {0} → Type 0
Units a b = Unit {0}

-- ---- how rules are put together

module _ {N : Name → Name → Type 0} {A B : Type 0} {P : A → A → Type 0} {Q : B → B → Type 0} where
  same_bind : {o o' : Outcome A} {k k' : A → State → Outcome B} → SameOutcome N P o o' →
      ((a b : A) (s t : State) → P a b → SameState N s t → SameOutcome N Q (k a s) (k' b t)) → SameOutcome N Q (bind o k) (bind o' k')
  unfolding bind
  same_bind (s_ok {a} {b} {s} {t} h i) f = f a b s t h i
  same_bind (s_halt i) f = s_halt i
  same_bind (s_unset i) f = s_unset i

  same_need : {o o' : Option A} (p q : ℕ) {s t : State} {k k' : A → Outcome B} → SameOption P o o' → SameState N s t →
      ((a b : A) → P a b → SameOutcome N Q (k a) (k' b)) → SameOutcome N Q (need o p s k) (need o' q t k')
  unfolding need
  same_need p q nones i f = s_halt i
  same_need p q (somes {a} {b} h) i f = f a b h

same_then : {N : Name → Name → Type 0} {o o' : Outcome Returned} {k k' : State → Outcome Returned} → SameOutcome N (Both N) o o' →
    ((s t : State) → SameState N s t → SameOutcome N (Both N) (k s) (k' t)) → SameOutcome N (Both N) (unless_returned o k) (unless_returned o' k')
unfolding unless_returned
same_then (s_ok {s = s} {t = t} nones i) f = f s t i
same_then (s_ok (somes v) i) f = s_ok (somes v) i
same_then (s_halt i) f = s_halt i
same_then (s_unset i) f = s_unset i

module _ {N : Name → Name → Type 0} {A B : Type 0} {Q : B → B → Type 0} where
  same_otherwise : (o : Option A) (x : ErrorStop) (p q : ℕ) {s t : State} {k k' : A → Outcome B} → SameState N s t →
      ((a : A) → SameOutcome N Q (k a) (k' a)) → SameOutcome N Q (otherwise o x p s k) (otherwise o x q t k')
  unfolding otherwise
  same_otherwise none x p q i f = s_halt i
  same_otherwise (some a) x p q i f = f a

  need_one : (o : Option A) (p q : ℕ) {s t : State} {k k' : A → Outcome B} → SameState N s t →
      ((a : A) → SameOutcome N Q (k a) (k' a)) → SameOutcome N Q (need o p s k) (need o q t k')
  unfolding need
  need_one none p q i f = s_halt i
  need_one (some a) p q i f = f a

  need_equal : (o o' : Option A) → o ≡ o' → (p q : ℕ) {s t : State} {k k' : A → Outcome B} → SameState N s t →
      ((a : A) → SameOutcome N Q (k a) (k' a)) → SameOutcome N Q (need o p s k) (need o' q t k')
  need_equal o o' e p q {s} {t} {k} {k'} i f = subst (λ (z : Option A). SameOutcome N Q (need o p s k) (need z q t k')) e (need_one o p q i f)

module _ {N : Name → Name → Type 0} {A : Type 0} {P : A → A → Type 0} where
  same_within : (b : Bool) (l : LimitStop) (p q : ℕ) {s t : State} {o o' : Outcome A} → SameState N s t → SameOutcome N P o o' →
      SameOutcome N P (within b l p s o) (within b l q t o')
  unfolding within
  same_within true l p q i h = h
  same_within false l p q i h = s_halt i

  same_branch : (b : Bool) {o₁ o₁' o₂ o₂' : Outcome A} → SameOutcome N P o₁ o₁' → SameOutcome N P o₂ o₂' → SameOutcome N P (branch b o₁ o₂) (branch b o₁' o₂')
  unfolding branch
  same_branch true h k = h
  same_branch false h k = k

  module _ (L : Limits) where
    enter_same : (p q : ℕ) {s t : State} {o o' : Outcome A} → SameState N s t → SameOutcome N P o o' → SameOutcome N P (enter L p s (λ _. o)) (enter L q t (λ _. o'))
    enter_same p q {s} (state c) h = same_within _ _ p q (state c) h

    make_same : (n p q : ℕ) {s t : State} {o o' : Outcome A} → SameState N s t → SameOutcome N P o o' → SameOutcome N P (make L n p s (λ _. o)) (make L n q t (λ _. o'))
    make_same n p q {s} (state c) h = same_within _ _ p q (state c) h

unit_taken : {N : Name → Name → Type 0} {s t : State} → SameState N s t → SameState N (take_unit s) (take_unit t)
unit_taken (state c) = state c

bindings_taken : {N : Name → Name → Type 0} (n : ℕ) {s t : State} → SameState N s t → SameState N (take_bindings n s) (take_bindings n t)
bindings_taken n (state c) = state c

number_out : {N : Name → Name → Type 0} (n : ℤ) {s t : State} → SameState N s t → SameState N (put_out n s) (put_out n t)
number_out n (state c) = state c

cells_of : {N : Name → Name → Type 0} {s t : State} → SameState N s t → SameCells N s.cells t.cells
cells_of (state c) = c

cells_become : {N : Name → Name → Type 0} {c d : List Cell} {s t : State} → SameCells N c d → SameState N s t → SameState N (with_cells c s) (with_cells d t)
cells_become h (state c) = state h

-- ---- names, cells and the forms that rules ask for

module _ {N : Name → Name → Type 0} where
  same_number : {v w : Val} → SameVal N v w → as_number v ≡ as_number w
  same_number s_number = refl
  same_number (s_function a n e) = refl
  same_number (s_function_rec a x n e) = refl
  same_number (s_procedure a n e) = refl
  same_number (s_procedure_rec a x n e) = refl
  same_number s_address = refl
  same_number s_block = refl

  same_truth : {v w : Val} → SameVal N v w → as_truth v ≡ as_truth w
  same_truth h = ap (λ (o : Option ℤ). if_number o as_bit) (same_number h)

  same_address : {v w : Val} → SameVal N v w → as_address v ≡ as_address w
  same_address s_number = refl
  same_address (s_function a n e) = refl
  same_address (s_function_rec a x n e) = refl
  same_address (s_procedure a n e) = refl
  same_address (s_procedure_rec a x n e) = refl
  same_address s_address = refl
  same_address s_block = refl

  same_as_block : {v w : Val} → SameVal N v w → as_block v ≡ as_block w
  same_as_block s_number = refl
  same_as_block (s_function a n e) = refl
  same_as_block (s_function_rec a x n e) = refl
  same_as_block (s_procedure a n e) = refl
  same_as_block (s_procedure_rec a x n e) = refl
  same_as_block s_address = refl
  same_as_block s_block = refl

  same_numbers : {vs ws : List Val} → SameVals N vs ws → as_numbers vs ≡ as_numbers ws
  same_numbers no_vals = refl
  same_numbers (a_val_more h k) = rw (same_number h, same_numbers k)

  same_operate : (o : Op) {vs ws : List Val} → SameVals N vs ws → operate o vs ≡ operate o ws
  same_operate o h = rw (same_numbers h)

  same_lengths : {xs ys : List Name} → SameNames N xs ys → length xs ≡ length ys
  same_lengths no_names = refl
  same_lengths (a_name_more n h) = ap suc (same_lengths h)

  same_cells_length : {c d : List Cell} → SameCells N c d → length c ≡ length d
  same_cells_length no_cells = refl
  same_cells_length (a_cell_more v h) = ap suc (same_cells_length h)

  same_cells_more : (p q : ℕ) {c d : List Cell} → SameCells N c d → SameCells N (c ++ fresh p ∷ []) (d ++ fresh q ∷ [])
  same_cells_more p q no_cells = a_cell_more nones no_cells
  same_cells_more p q (a_cell_more v h) = a_cell_more v (same_cells_more p q h)

  same_fresh : (p q n : ℕ) → SameCells N (replicate n (fresh p)) (replicate n (fresh q))
  same_fresh p q zero = no_cells
  same_fresh p q (suc n) = a_cell_more nones (same_fresh p q n)

  same_cells_and : {c d e f : List Cell} → SameCells N c d → SameCells N e f → SameCells N (c ++ e) (d ++ f)
  same_cells_and no_cells k = k
  same_cells_and (a_cell_more v h) k = a_cell_more v (same_cells_and h k)

  same_nth : {c d : List Cell} → SameCells N c d → (a : ℕ) → SameOption (SameCell N) (nth c a) (nth d a)
  same_nth no_cells a = nones
  same_nth (a_cell_more v h) zero = somes v
  same_nth (a_cell_more v h) (suc a) = same_nth h a

  same_store : {c d : List Cell} {v w : Val} → SameCells N c d → (a : ℕ) → SameVal N v w → SameOption (SameCells N) (store c a v) (store d a w)
  same_store no_cells a v = nones
  same_store (a_cell_more u h) zero v = somes (a_cell_more (somes v) h)
  same_store (a_cell_more {v = b} {w = e} u h) (suc a) v = go b e u (same_store h a v)
    where
      go : (p q : Cell) {o o' : Option (List Cell)} → SameCell N p q → SameOption (SameCells N) o o' → SameOption (SameCells N) (behind p o) (behind q o')
      go p q u nones = nones
      go p q u (somes k) = somes (a_cell_more u k)

  same_bind_all : {xs ys : List Name} {vs ws : List Val} {ρ π : Env} → SameNames N xs ys → SameVals N vs ws → SameEnv N ρ π → SameOption (SameEnv N) (bind_all xs vs ρ) (bind_all ys ws π)
  same_bind_all no_names no_vals e = somes e
  same_bind_all no_names (a_val_more v vs) e = nones
  same_bind_all (a_name_more n ns) no_vals e = nones
  same_bind_all (a_name_more n ns) (a_val_more v vs) e = same_bind_all ns vs (s_bound n v e)

  same_also : (x y : Name) {v w : Val} {o o' : Option Env} → N x y → SameVal N v w → SameOption (SameEnv N) o o' → SameOption (SameEnv N) (also x v o) (also y w o')
  same_also x y n v nones = nones
  same_also x y n v (somes e) = somes (s_bound n v e)

  same_param_names : {a b : List ArgP} → Alike N ARGSP a b → SameNames N (param_names a) (param_names b)
  same_param_names a_no_argsp = no_names
  same_param_names (a_argsp (a_val_arg n t) h) = a_name_more n (same_param_names h)
  same_param_names (a_argsp (a_var_arg n t) h) = a_name_more n (same_param_names h)

  same_arg_names : {a b : List Arg} → Alike N ARGS a b → SameNames N (param_names (values a)) (param_names (values b))
  same_arg_names a_no_args = no_names
  same_arg_names (a_args (a_arg n t) h) = a_name_more n (same_arg_names h)

record SameEntered (N : Name → Name → Type 0) {B : Type 0} (P : B → B → Type 0) (c d : Entered B) : Type 0 where
  bodies : P c.body d.body
  envs : SameEnv N c.env d.env
  counts : c.count ≡ d.count

data SameBody (N : Name → Name → Type 0) : Body → Body → Type 0 where
  both_exprs : {e f : Expr} → Alike N EXPR e f → SameBody N (an_expr e) (an_expr f)
  both_blocks : {b c : Block} → Alike N BLOCK b c → SameBody N (Body.a_block b) (Body.a_block c)

module _ {N : Name → Name → Type 0} where
  same_entering : {B : Type 0} (P : B → B → Type 0) {b c : B} {n m : ℕ} {o o' : Option Env} → P b c → n ≡ m → SameOption (SameEnv N) o o' →
      SameOption (SameEntered N P) (entering b n o) (entering c m o')
  same_entering P h e nones = nones
  same_entering P h e (somes k) = somes (record { bodies = h; envs = k; counts = e })

  same_function : {v w : Val} {vs ws : List Val} → SameVal N v w → SameVals N vs ws → SameOption (SameEntered N (SameBody N)) (open_function v vs) (open_function w ws)
  same_function s_number h = nones
  same_function (s_function a n e) h = same_entering (SameBody N) (both_exprs a) (same_lengths n) (same_bind_all n h e)
  same_function (s_function_rec {x = x} {y = y} a m n e) h =
      same_entering (SameBody N) (both_exprs a) (ap suc (same_lengths n)) (same_also x y m (s_function_rec a m n e) (same_bind_all n h e))
  same_function (s_procedure a n e) h = same_entering (SameBody N) (both_blocks a) (same_lengths n) (same_bind_all n h e)
  same_function (s_procedure_rec {x = x} {y = y} a m n e) h =
      same_entering (SameBody N) (both_blocks a) (ap suc (same_lengths n)) (same_also x y m (s_procedure_rec a m n e) (same_bind_all n h e))
  same_function s_address h = nones
  same_function s_block h = nones

  same_procedure : {v w : Val} {vs ws : List Val} → SameVal N v w → SameVals N vs ws → SameOption (SameEntered N (Alike N BLOCK)) (open_procedure v vs) (open_procedure w ws)
  same_procedure s_number h = nones
  same_procedure (s_function a n e) h = nones
  same_procedure (s_function_rec a x n e) h = nones
  same_procedure (s_procedure a n e) h = same_entering (Alike N BLOCK) a (same_lengths n) (same_bind_all n h e)
  same_procedure (s_procedure_rec {x = x} {y = y} a m n e) h =
      same_entering (Alike N BLOCK) a (ap suc (same_lengths n)) (same_also x y m (s_procedure_rec a m n e) (same_bind_all n h e))
  same_procedure s_address h = nones
  same_procedure s_block h = nones

  same_give : (c : Computed) (p q : ℕ) {s t : State} → SameState N s t → SameOutcome N (SameVal N) (give c p s) (give c q t)
  unfolding give
  same_give (amount n) p q i = s_ok s_number i
  same_give (fails x) p q i = s_halt i

  same_give_cell : (c d : Cell) (p q : ℕ) {s t : State} → SameCell N c d → SameState N s t →
      SameOutcome N (SameVal N) (give_cell c.holds c.made p s) (give_cell d.holds d.made q t)
  unfolding give_cell
  same_give_cell c d p q {s} {t} h i = go h
    where
      go : {u v : Option Val} → SameOption (SameVal N) u v → SameOutcome N (SameVal N) (give_cell u c.made p s) (give_cell v d.made q t)
      go nones = s_unset i
      go (somes v) = s_ok v i

  same_read : {v w : Val} (p q : ℕ) {s t : State} → SameVal N v w → SameState N s t → SameOutcome N (SameVal N) (read v p s) (read w q t)
  same_read p q s_number i = s_ok s_number i
  same_read p q (s_function a n e) i = s_ok (s_function a n e) i
  same_read p q (s_function_rec a x n e) i = s_ok (s_function_rec a x n e) i
  same_read p q (s_procedure a n e) i = s_ok (s_procedure a n e) i
  same_read p q (s_procedure_rec a x n e) i = s_ok (s_procedure_rec a x n e) i
  same_read p q (s_address {a}) i = same_need p q (same_nth (cells_of i) a) i λ c d h. same_give_cell c d p q h i
  same_read p q s_block i = s_ok s_block i

  same_name_lem : (m : Meaning) {o o' : Option Val} (p q : ℕ) {s t : State} → SameOption (SameVal N) o o' → SameState N s t → SameOutcome N (SameVal N) (name_rule m o p s) (name_rule m o' q t)
  same_name_lem (literal b) p q h i = s_ok s_number i
  same_name_lem (operator f) p q h i = s_halt i
  same_name_lem free p q h i = same_need p q h i λ v w k. same_read p q k i

-- levels whose evaluators go in step
record InStep (N : Name → Name → Type 0) (r : Level) : Type 0 where
  expr_in : {e f : Expr} {ρ π : Env} {s t : State} → Alike N EXPR e f → SameEnv N ρ π → SameState N s t → SameOutcome N (SameVal N) (r.expr e ρ s) (r.expr f π t)
  arg_in : {e f : ExprP} {ρ π : Env} {s t : State} → Alike N EXPRP e f → SameEnv N ρ π → SameState N s t → SameOutcome N (SameVal N) (r.arg e ρ s) (r.arg f π t)
  def_in : {d e : Def} {ρ π : Env} {s t : State} → Alike N DEF d e → SameEnv N ρ π → SameState N s t → SameOutcome N (SameEnv N) (r.def d ρ s) (r.def e π t)
  stat_in : {c d : Stat} {ρ π : Env} {s t : State} → Alike N STAT c d → SameEnv N ρ π → SameState N s t → SameOutcome N (Both N) (r.stat c ρ s) (r.stat d π t)

module _ {N : Name → Name → Type 0} (O : Corresponds N) (L : Limits) where
  same_lookup : {ρ π : Env} → SameEnv N ρ π → (x y : Name) → N x y → SameOption (SameVal N) (lookup_env ρ x) (lookup_env π y)
  same_lookup s_empty x y n = nones
  same_lookup (s_bound {x = x₁} {y = y₁} m v e) x y n = go (same_bytes x₁ x) (same_bytes y₁ y) (O.same_test x₁ x y₁ y m n) v (same_lookup e x y n)
    where
      go : (b b' : Bool) → b ≡ b' → {v w : Val} {o o' : Option Val} → SameVal N v w → SameOption (SameVal N) o o' → SameOption (SameVal N) (cond b (some v) o) (cond b' (some w) o')
      go true true e v h = somes v
      go true false e v h = let z : ◌≡◌ {A = ℕ} 0 1 = cc in absurd (omega arith)
      go false true e v h = let z : ◌≡◌ {A = ℕ} 0 1 = cc in absurd (omega arith)
      go false false e v h = h

  same_look : {ρ π : Env} → SameEnv N ρ π → (x y : Name) → N x y → SameOption (SameVal N) (look ρ x) (look π y)
  same_look {ρ} {π} e x y n =
      subst (λ (m : Meaning). SameOption (SameVal N) (unless_nine (meaning x) (lookup_env ρ x)) (unless_nine m (lookup_env π y))) (O.same_meaning x y n)
      (go (meaning x) (same_lookup e x y n))
    where
      go : (m : Meaning) {o o' : Option Val} → SameOption (SameVal N) o o' → SameOption (SameVal N) (unless_nine m o) (unless_nine m o')
      go (literal b) h = nones
      go (operator f) h = nones
      go free h = h

  same_rounds : (n : ℕ) (test test' : State → Outcome Val) (go go' : State → Outcome Returned) →
      ((s t : State) → SameState N s t → SameOutcome N (SameVal N) (test s) (test' t)) → ((s t : State) → SameState N s t → SameOutcome N (Both N) (go s) (go' t)) →
      (p q : ℕ) (s t : State) → SameState N s t → SameOutcome N (Both N) (rounds L n test go p s) (rounds L n test' go' q t)
  same_rounds zero test test' go go' h k p q s t i = s_halt i
  same_rounds (suc n) test test' go go' h k p q s t i =
      same_bind (h s t i) λ v w s₁ t₁ u i₁. need_equal _ _ (same_truth u) p q i₁ λ b.
      same_branch b (same_then (k s₁ t₁ i₁) λ s₂ t₂ i₂. enter_same L p q i₂ (same_rounds n test test' go go' h k p q (take_unit s₂) (take_unit t₂) (unit_taken i₂))) (s_ok nones i₁)

  module _ {r : Level} (h : InStep N r) where
    same_exprs : (a : Exprs) {b : Exprs} {ρ π : Env} {s t : State} → Alike N EXPRS a b → SameEnv N ρ π → SameState N s t → SameOutcome N (SameVals N) (exprs r a ρ s) (exprs r b π t)
    same_exprs (Exprs.one_expr e) (a_one_expr a) m i = same_bind (h.expr_in a m i) λ v w s₁ t₁ u i₁. s_ok (a_val_more u no_vals) i₁
    same_exprs (Exprs.more_exprs e es) (a_more_exprs a b) m i =
        same_bind (h.expr_in a m i) λ v w s₁ t₁ u i₁. same_bind (same_exprs es b m i₁) λ vs ws s₂ t₂ us i₂. s_ok (a_val_more u us) i₂

    same_args : {a b : List ExprP} {ρ π : Env} {s t : State} → Alike N EXPRSP a b → SameEnv N ρ π → SameState N s t → SameOutcome N (SameVals N) (args r a ρ s) (args r b π t)
    same_args a_no_exprsp m i = s_ok no_vals i
    same_args (a_exprsp a b) m i = same_bind (h.arg_in a m i) λ v w s₁ t₁ u i₁. same_bind (same_args b m i₁) λ vs ws s₂ t₂ us i₂. s_ok (a_val_more u us) i₂

    same_cmds : (c : Cmds) {d : Cmds} {ρ π : Env} {s t : State} → Alike N CMDS c d → SameEnv N ρ π → SameState N s t → SameOutcome N (Both N) (cmds r c ρ s) (cmds r d π t)
    same_cmds (Cmds.def_then d c) (a_def_then a b) m i = same_bind (h.def_in a m i) λ ρ₁ π₁ s₁ t₁ m₁ i₁. same_cmds c b m₁ i₁
    same_cmds (Cmds.stat_then d c) (a_stat_then a b) m i = same_then (h.stat_in a m i) λ s₁ t₁ i₁. same_cmds c b m i₁
    same_cmds (Cmds.last d) (a_last a) m i = h.stat_in a m i

    same_block : {b c : Block} {ρ π : Env} {s t : State} → Alike N BLOCK b c → SameEnv N ρ π → SameState N s t → SameOutcome N (Both N) (in_block r b ρ s) (in_block r c π t)
    same_block (a_block a) m i = same_cmds _ a m i

    same_in_body : {b c : Body} {ρ π : Env} (p q : ℕ) {s t : State} → SameBody N b c → SameEnv N ρ π → SameState N s t →
        SameOutcome N (SameVal N) (in_body r b ρ p s) (in_body r c π q t)
    same_in_body p q (both_exprs a) m i = h.expr_in a m i
    same_in_body p q (both_blocks a) m i = same_bind (same_block a m i) λ o o' s₁ t₁ k i₁. same_need p q k i₁ λ v w u. s_ok u i₁

    same_apply : (g : Option Op) (p q : ℕ) {e f : Expr} {a b : Exprs} {ρ π : Env} {s t : State} → Alike N EXPR e f → Alike N EXPRS a b → SameEnv N ρ π → SameState N s t →
        SameOutcome N (SameVal N) (apply_rule L r g p e a ρ s) (apply_rule L r g q f b π t)
    same_apply (some o) p q a b m i = same_bind (same_exprs _ b m i) λ vs ws s₁ t₁ us i₁. need_equal _ _ (same_operate o us) p q i₁ λ c. same_give c p q i₁
    same_apply none p q a b m i =
        same_bind (h.expr_in a m i) λ v w s₁ t₁ u i₁. same_bind (same_exprs _ b m i₁) λ vs ws s₂ t₂ us i₂. same_need p q (same_function u us) i₂ λ c d k.
        entered c d k s₂ t₂ i₂
      where
        entered : (c d : Entered Body) → SameEntered N (SameBody N) c d → (s t : State) → SameState N s t →
            SameOutcome N (SameVal N) (make L c.count p s λ s₃. in_body r c.body c.env p s₃) (make L d.count q t λ s₃. in_body r d.body d.env q s₃)
        entered c d k s t i =
            subst (λ (n : ℕ). SameOutcome N (SameVal N) (make L c.count p s λ s₃. in_body r c.body c.env p s₃) (make L n q t λ s₃. in_body r d.body d.env q s₃)) k.counts
            (make_same L c.count p q i (same_in_body p q k.bodies k.envs (bindings_taken c.count i)))

    -- blocks of cells
    same_alloc : (p q : ℕ) (n : ℤ) {s t : State} → SameState N s t → SameOutcome N (SameVal N) (alloc_rule L p n s) (alloc_rule L q n t)
    same_alloc p q n {s} (state {c} k) = same_otherwise (as_size n) SIZE p q (state k) λ m.
        subst (λ (l : ℕ). SameOutcome N (SameVal N)
        (within (leb (m + length s.cells) L.cells) CELLS p s (ok (in_b (length s.cells) m) (with_cells (s.cells ++ replicate m (fresh p)) s)))
        (within (leb (m + l) L.cells) CELLS q (with_cells c s) (ok (in_b l m) (with_cells (c ++ replicate m (fresh q)) s))))
        (same_cells_length k)
        (same_within _ _ p q (state k) (s_ok s_block (cells_become (same_cells_and k (same_fresh p q m)) (state k))))

    same_element : (p q : ℕ) {v w v' w' : Val} {s t : State} {k k' : ℕ → Outcome Val} → SameVal N v w → SameVal N v' w' → SameState N s t →
        ((a : ℕ) → SameOutcome N (SameVal N) (k a) (k' a)) → SameOutcome N (SameVal N) (element_rule p v v' s k) (element_rule q w w' t k')
    same_element p q u u' i f =
        need_equal _ _ (same_as_block u) p q i λ b. need_equal _ _ (same_number u') p q i λ j. same_otherwise (cell_in b j) INDEX p q i f

    same_expr_rule : {e f : Expr} {ρ π : Env} {s t : State} → Alike N EXPR e f → SameEnv N ρ π → SameState N s t → SameOutcome N (SameVal N) (expr_rule L r e ρ s) (expr_rule L r f π t)
    same_expr_rule a_num m i = s_ok s_number i
    same_expr_rule {ρ = ρ} {π = π} {s = s} {t = t} (a_name {i = p} {j = q} {x = x} {y = y} n) m i =
        subst (λ (z : Meaning). SameOutcome N (SameVal N) (name_rule (meaning x) (look ρ x) p s) (name_rule z (look π y) q t)) (O.same_meaning x y n)
        (same_name_lem (meaning x) p q (same_look m x y n) i)
    same_expr_rule (a_if_expr {p = p} {q = q} a b c) m i =
        same_bind (h.expr_in a m i) λ v w s₁ t₁ u i₁. need_equal _ _ (same_truth u) p q i₁ λ z. same_branch z (h.expr_in b m i₁) (h.expr_in c m i₁)
    same_expr_rule (a_and {p = p} {q = q} a b) m i =
        same_bind (h.expr_in a m i) λ v w s₁ t₁ u i₁. need_equal _ _ (same_truth u) p q i₁ λ z. same_branch z (h.expr_in b m i₁) (s_ok s_number i₁)
    same_expr_rule (a_or {p = p} {q = q} a b) m i =
        same_bind (h.expr_in a m i) λ v w s₁ t₁ u i₁. need_equal _ _ (same_truth u) p q i₁ λ z. same_branch z (s_ok s_number i₁) (h.expr_in b m i₁)
    same_expr_rule {ρ = ρ} {π = π} {s = s} {t = t} (a_app {p = p} {q = q} {e = e} {f = f} {a = es} {b = fs} a b) m i =
        subst (λ (g : Option Op). SameOutcome N (SameVal N) (apply_rule L r (head_operator e) p e es ρ s) (apply_rule L r g q f fs π t)) (same_head O a)
        (same_apply (head_operator e) p q a b m i)
    same_expr_rule (a_abs a b) m i = s_ok (s_function b (same_arg_names a) m) i
    same_expr_rule (a_alloc {p = p} {q = q} t a) m i = same_bind (h.expr_in a m i) λ v w s₁ t₁ u i₁. need_equal _ _ (same_number u) p q i₁ λ n. same_alloc p q n i₁
    same_expr_rule (a_nth {p = p} {q = q} a b) m i =
        same_bind (h.expr_in a m i) λ v w s₁ t₁ u i₁. same_bind (h.expr_in b m i₁) λ v' w' s₂ t₂ u' i₂.
        same_element p q u u' i₂ λ k. same_need p q (same_nth (cells_of i₂) k) i₂ λ c d g. same_give_cell c d p q g i₂
    same_expr_rule (a_len {p = p} {q = q} a) m i = same_bind (h.expr_in a m i) λ v w s₁ t₁ u i₁. need_equal _ _ (same_as_block u) p q i₁ λ k. s_ok s_number i₁
    same_expr_rule (a_vset {p = p} {q = q} a b c) m i =
        same_bind (h.expr_in a m i) λ v w s₁ t₁ u i₁. same_bind (h.expr_in b m i₁) λ v' w' s₂ t₂ u' i₂. same_bind (h.expr_in c m i₂) λ v'' w'' s₃ t₃ u'' i₃.
        same_element p q u u' i₃ λ k. same_need p q (same_store (cells_of i₃) k u'') i₃ λ cs ds g. s_ok u (cells_become g i₃)

    same_arg_rule : {e f : ExprP} {ρ π : Env} {s t : State} → Alike N EXPRP e f → SameEnv N ρ π → SameState N s t → SameOutcome N (SameVal N) (arg_rule L r e ρ s) (arg_rule L r f π t)
    same_arg_rule (a_val a) m i = same_expr_rule a m i
    same_arg_rule (a_adr {p = p} {q = q} {x = x} {y = y} n) m i =
        same_need p q (same_look m x y n) i λ v w u. need_equal _ _ (same_address u) p q i λ z. s_ok s_address i

    same_def_rule : {d e : Def} {ρ π : Env} {s t : State} → Alike N DEF d e → SameEnv N ρ π → SameState N s t → SameOutcome N (SameEnv N) (def_rule L r d ρ s) (def_rule L r e π t)
    same_def_rule (a_const {p = p} {q = q} n a b) m i =
        same_bind (h.expr_in b m i) λ v w s₁ t₁ u i₁. make_same L 1 p q i₁ (s_ok (s_bound n u m) (bindings_taken 1 i₁))
    same_def_rule (a_fun {p = p} {q = q} n t a b) m i = make_same L 1 p q i (s_ok (s_bound n (s_function b (same_arg_names a) m) m) (bindings_taken 1 i))
    same_def_rule (a_fun_rec {p = p} {q = q} n t a b) m i = make_same L 1 p q i (s_ok (s_bound n (s_function_rec b n (same_arg_names a) m) m) (bindings_taken 1 i))
    same_def_rule (a_fun_block {p = p} {q = q} n t a b) m i = make_same L 1 p q i (s_ok (s_bound n (s_procedure b (same_arg_names a) m) m) (bindings_taken 1 i))
    same_def_rule (a_fun_rec_block {p = p} {q = q} n t a b) m i = make_same L 1 p q i (s_ok (s_bound n (s_procedure_rec b n (same_arg_names a) m) m) (bindings_taken 1 i))
    same_def_rule {ρ = ρ} {π = π} {s = s} (a_var {p = p} {q = q} {x = x} {y = y} n t) m (state {c} k) =
        subst (λ (l : ℕ). SameOutcome N (SameEnv N)
        (within (ltb (length s.cells) L.cells) CELLS p s (make L 1 p (with_cells (s.cells ++ fresh p ∷ []) s) λ s₁. ok (bound x (in_a (length s.cells)) ρ) s₁))
        (within (ltb l L.cells) CELLS q (with_cells c s) (make L 1 q (with_cells (c ++ fresh q ∷ []) s) λ s₁. ok (bound y (in_a l) π) s₁)))
        (same_cells_length k)
        (same_within _ _ p q (state k) (make_same L 1 p q (cells_become (same_cells_more p q k) (state k)) (s_ok (s_bound n s_address m) (bindings_taken 1 (cells_become (same_cells_more p q k) (state k))))))
    same_def_rule (a_proc {p = p} {q = q} n a b) m i = make_same L 1 p q i (s_ok (s_bound n (s_procedure b (same_param_names a) m) m) (bindings_taken 1 i))
    same_def_rule (a_proc_rec {p = p} {q = q} n a b) m i = make_same L 1 p q i (s_ok (s_bound n (s_procedure_rec b n (same_param_names a) m) m) (bindings_taken 1 i))

    same_out : (n : ℤ) (p q : ℕ) {s t : State} → SameState N s t →
        SameOutcome N (Both N) (within (ltb (length s.numbers) L.output) OUTPUT p s (ok none (put_out n s))) (within (ltb (length t.numbers) L.output) OUTPUT q t (ok none (put_out n t)))
    same_out n p q {s} (state c) = same_within _ _ p q (state c) (s_ok nones (number_out n {s = s} (state c)))

    same_stat_rule : {c d : Stat} {ρ π : Env} {s t : State} → Alike N STAT c d → SameEnv N ρ π → SameState N s t → SameOutcome N (Both N) (stat_rule L r c ρ s) (stat_rule L r d π t)
    same_stat_rule (a_echo {p = p} {q = q} a) m i = same_bind (h.expr_in a m i) λ v w s₁ t₁ u i₁. need_equal _ _ (same_number u) p q i₁ λ n. same_out n p q i₁
    same_stat_rule (a_set {p = p} {q = q} {x = x} {y = y} n a) m i =
        same_need p q (same_look m x y n) i λ v w u. need_equal _ _ (same_address u) p q i λ z.
        same_bind (h.expr_in a m i) λ v₁ w₁ s₁ t₁ u₁ i₁. same_need p q (same_store (cells_of i₁) z u₁) i₁ λ c d k. s_ok nones (cells_become k i₁)
    same_stat_rule (a_if_stat {p = p} {q = q} a b c) m i =
        same_bind (h.expr_in a m i) λ v w s₁ t₁ u i₁. need_equal _ _ (same_truth u) p q i₁ λ z. same_branch z (same_block b m i₁) (same_block c m i₁)
    same_stat_rule {s = s} {t = t} (a_while {p = p} {q = q} a b) m i =
        same_rounds (suc L.fuel) _ _ _ _ (λ s t i. h.expr_in a m i) (λ s t i. same_block b m i) p q s t i
    same_stat_rule (a_call {p = p} {q = q} {x = x} {y = y} n a) m i =
        same_need p q (same_look m x y n) i λ v w u. same_bind (same_args a m i) λ vs ws s₁ t₁ us i₁. same_need p q (same_procedure u us) i₁ λ c d k.
        entered c d k s₁ t₁ i₁
      where
        entered : (c d : Entered Block) → SameEntered N (Alike N BLOCK) c d → (s t : State) → SameState N s t →
            SameOutcome N (Both N) (make L c.count p s λ s₃. in_block r c.body c.env s₃) (make L d.count q t λ s₃. in_block r d.body d.env s₃)
        entered c d k s t i =
            subst (λ (n : ℕ). SameOutcome N (Both N) (make L c.count p s λ s₃. in_block r c.body c.env s₃) (make L n q t λ s₃. in_block r d.body d.env s₃)) k.counts
            (make_same L c.count p q i (same_block k.bodies k.envs (bindings_taken c.count i)))
    same_stat_rule (a_return a) m i = same_bind (h.expr_in a m i) λ v w s₁ t₁ u i₁. s_ok (somes u) i₁

    step_in : InStep N (step L r)
    step_in = record {
      expr_in = λ a m i. enter_same L _ _ i (same_expr_rule a m (unit_taken i));
      arg_in = λ a m i. enter_same L _ _ i (same_arg_rule a m (unit_taken i));
      def_in = λ a m i. enter_same L _ _ i (same_def_rule a m (unit_taken i));
      stat_in = λ a m i. enter_same L _ _ i (same_stat_rule a m (unit_taken i));
    }

  level_in : (d : ℕ) → InStep N (level L d)
  unfolding level
  level_in zero = record {
    expr_in = λ a m i. enter_same L _ _ i (s_halt (unit_taken i));
    arg_in = λ a m i. enter_same L _ _ i (s_halt (unit_taken i));
    def_in = λ a m i. enter_same L _ _ i (s_halt (unit_taken i));
    stat_in = λ a m i. enter_same L _ _ i (s_halt (unit_taken i));
  }
  level_in (suc d) = step_in (level_in d)

  same_ended : {o o' : Returned} (p q : ℕ) {s t : State} → Both N o o' → SameState N s t → SameOutcome N Units (ended o p s) (ended o' q t)
  same_ended p q nones i = s_ok tt i
  same_ended p q (somes v) i = s_halt i

  run_in : {b c : Block} → Alike N BLOCK b c → SameOutcome N Units (run L b) (run L c)
  run_in {b} {c} a = same_bind (same_block (level_in L.depth) a s_empty (state no_cells)) λ o o' s t k i. same_ended (place_block b) (place_block c) k i

-- ---- what is reported

abbrev reporting : Option Answer → State → ℕ → Report
reporting e s n = record { end = e; units = s.units; bindings = s.bindings; cells = n; numbers = s.numbers }

same_report : {N : Name → Name → Type 0} {o o' : Outcome (Unit {0})} → SameOutcome N Units o o' → unplaced_report (report o) ≡ unplaced_report (report o')
same_report (s_ok {s = s} h (state k)) = ap (reporting (some done) s) (same_cells_length k)
same_report (s_unset {s = s} (state k)) = ap (reporting (some (stopped (error (UNSET 0)) 0)) s) (same_cells_length k)
same_report (s_halt {w = w} {p = p} {q = q} {s = s} (state {c = c} k)) = go w
  where
    go : (w : Why) → unplaced_report (report (halt w p s)) ≡ unplaced_report (report (halt w q (with_cells c s)))
    go (stop x) = ap (reporting (some (stopped (unmade x) 0)) s) (same_cells_length k)
    go no_rule = ap (reporting none s) (same_cells_length k)

pub renamed_run : {N : Name → Name → Type 0} → Corresponds N → {b c : Block} → Alike N BLOCK b c → (L : Limits) → unplaced_report (report (run L b)) ≡ unplaced_report (report (run L c))
renamed_run O a L = same_report (run_in O L a)
