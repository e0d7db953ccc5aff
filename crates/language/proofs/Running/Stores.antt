-- Stores go to a variable's cell or a block's.
use mathlib.Core.Path.{◌≡◌, refl, sym, ◌∙◌, ap, subst}
use Prim.Native.Nat.{ℕ, zero, suc, ◌+◌, ◌≤◌, ◌<◌, suc-le-suc, zero-le}
use native.Mathlib.Nat.{le_of_suc-le-suc, not-suc-le-zero}
use native.Mathlib.Omega.{arith}
use mathlib.Core.Bool.{Bool, true, false, cond}
use mathlib.Core.List.{List, [], ◌∷◌, ◌++◌}
use mathlib.Core.Option.{Option, none, some, none-ne-some, some-injective}
use lib.Dec.{T, ltb, ltb→lt}
use lib.IntN.{ℤ, pos, negsuc}
use lib.ListN.{length, replicate}
use Rattle.language.specs.Syntax.{at, Expr, num, name, if_expr, and, or, app, abs, alloc, nth_expr, len, vset, Exprs, one_expr, more_exprs, ExprP, val, adr, Cmds, last, def_then, stat_then, Def, const, fun, fun_rec, fun_block, fun_rec_block, var, proc, proc_rec, Stat, echo, set, if_stat, while, call, return, Block, block}
use Rattle.language.specs.Answers.{LimitStop, ErrorStop}
use Rattle.language.specs.Names.{Op, Meaning, literal, operator, free, meaning, head_operator}
use Rattle.language.specs.Numbers.{Computed, amount, fails}
use Rattle.language.specs.Limits.{Limits}
use Rattle.language.specs.Rules.{Val, in_z, in_f, in_fr, in_p, in_pr, in_a, in_b, Env, Cell, State, Returned, Why, Outcome, ok, halt, bind, need, otherwise, unless_returned, within, branch, take_unit, with_cells, look, nth, behind, fresh, store, as_address, as_block, as_size, cell_in, Body, an_expr, a_block, give, give_cell, Level, exprs, args, cmds, in_block, in_body, read, name_rule, apply_rule, alloc_rule, expr_rule, arg_rule, def_rule, rounds, stat_rule}
use Rattle.language.specs.Outcome.{state_of}
use Rattle.language.specs.Claims.{OthersHold, Nowhere, StoresNothing, ExprStores, ArgStores, StatStores, StoresGoToCells}

-- ---- lists of cells

nth_taken : {A : Type 0} (l : List A) (c : ℕ) → c < length l → (x : A) × (nth l c ≡ some x)
nth_taken [] c h = absurd (not-suc-le-zero h)
nth_taken (x ∷ l) zero h = (x, refl)
nth_taken (x ∷ l) (suc c) h = nth_taken l c (le_of_suc-le-suc h)

taken_nth : {A : Type 0} (l : List A) (c : ℕ) (x : A) → nth l c ≡ some x → c < length l
taken_nth [] c x e = absurd (none-ne-some _ e)
taken_nth (y ∷ l) zero x e = suc-le-suc zero-le
taken_nth (y ∷ l) (suc c) x e = suc-le-suc (taken_nth l c x e)

nth_append : {A : Type 0} (l m : List A) (c : ℕ) → c < length l → nth (l ++ m) c ≡ nth l c
nth_append [] m c h = absurd (not-suc-le-zero h)
nth_append (x ∷ l) m zero h = refl
nth_append (x ∷ l) m (suc c) h = nth_append l m c (le_of_suc-le-suc h)

nth_store : (cs : List Cell) (a : ℕ) (v : Val) (ds : List Cell) → store cs a v ≡ some ds → (c : ℕ) → ¬ (c ≡ a) → nth ds c ≡ nth cs c
nth_store [] a v ds e c n = absurd (none-ne-some _ e)
nth_store (x ∷ cs) zero v ds e zero n = absurd (n refl)
nth_store (x ∷ cs) zero v ds e (suc c) n = ap (λ l. nth l (suc c)) (sym (some-injective _ _ e))
nth_store (x ∷ cs) (suc a) v ds e c n = go (store cs a v) (λ l q d m. nth_store cs a v l q d m) e c n
  where
    go : (o : Option (List Cell)) → ((l : List Cell) → o ≡ some l → (d : ℕ) → ¬ (d ≡ a) → nth l d ≡ nth cs d) → behind x o ≡ some ds →
        (c : ℕ) → ¬ (c ≡ suc a) → nth ds c ≡ nth (x ∷ cs) c
    go none rec e c n = absurd (none-ne-some _ e)
    go (some l) rec e zero n = ap (λ l. nth l zero) (sym (some-injective _ _ e))
    go (some l) rec e (suc c) n = ap (λ l. nth l (suc c)) (sym (some-injective _ _ e)) ∙ rec l refl c (λ q. n (ap suc q))

-- ---- what is held

-- cells that hold what they held, but for the cells P
record Hold (P : ℕ → Type 0) (cs ds : List Cell) : Type 0 where
  others : (c : ℕ) → c < length cs → ¬ P c → nth ds c ≡ nth cs c

-- the cells of an outcome's state do so
data Held (P : ℕ → Type 0) (cs : List Cell) {A : Type 0} : Outcome A → Type 0 where
  h_ok : {a : A} {t : State} → Hold P cs t.cells → Held P cs (ok a t)
  h_halt : {w : Why} {p : ℕ} {t : State} → Hold P cs t.cells → Held P cs (halt w p t)

held_is : {P : ℕ → Type 0} (s : State) {A : Type 0} {o : Outcome A} → Held P s.cells o → OthersHold P s (state_of o)
held_is s (h_ok h) = h.others
held_is s (h_halt h) = h.others

module _ {P : ℕ → Type 0} {cs : List Cell} where
  here : Hold P cs cs
  here = record { others = λ c lt other. refl }

  -- what follows and stores nothing
  hold_on : {ds es : List Cell} → Hold P cs ds → ((c : ℕ) → c < length ds → nth es c ≡ nth ds c) → Hold P cs es
  hold_on {ds} h k = record { others = λ c lt other. let x = nth_taken cs c lt in k c (taken_nth ds c x.0 (h.others c lt other ∙ x.1)) ∙ h.others c lt other }

  -- cells are taken behind the others
  hold_more : {ds : List Cell} (m : List Cell) → Hold P cs ds → Hold P cs (ds ++ m)
  hold_more {ds} m h = hold_on h λ c lt. nth_append ds m c lt

  -- one of the cells P is stored to
  hold_store : {ds es : List Cell} (a : ℕ) (v : Val) → P a → store ds a v ≡ some es → Hold P cs ds → Hold P cs es
  hold_store {ds} {es} a v one e h =
      record { others = λ c lt other. nth_store ds a v es e c (λ q. other (subst P (sym q) one)) ∙ h.others c lt other }

  held_part : {A : Type 0} (t : State) (o : Outcome A) → Hold P cs t.cells → OthersHold Nowhere t (state_of o) → Held P cs o
  held_part t (ok a u) h k = h_ok (hold_on h λ c lt. k c lt (λ z. z))
  held_part t (halt w p u) h k = h_halt (hold_on h λ c lt. k c lt (λ z. z))

  held_bind : {A B : Type 0} (o : Outcome A) {k : A → State → Outcome B} → Held P cs o → ((a : A) (t : State) → o ≡ ok a t → Hold P cs t.cells → Held P cs (k a t)) →
      Held P cs (bind o k)
  unfolding bind
  held_bind (ok a t) (h_ok h) f = f a t refl h
  held_bind (halt w p t) (h_halt h) f = h_halt h

  held_unless : {o : Outcome Returned} {k : State → Outcome Returned} → Held P cs o → ((t : State) → Hold P cs t.cells → Held P cs (k t)) → Held P cs (unless_returned o k)
  unfolding unless_returned
  held_unless (h_ok {a = none} {t = t} h) f = f t h
  held_unless (h_ok {a = some v} h) f = h_ok h
  held_unless (h_halt h) f = h_halt h

  held_need : {A B : Type 0} (o : Option A) (p : ℕ) (t : State) {k : A → Outcome B} → Hold P cs t.cells → ((a : A) → o ≡ some a → Held P cs (k a)) → Held P cs (need o p t k)
  unfolding need
  held_need none p t h f = h_halt h
  held_need (some a) p t h f = f a refl

  held_otherwise : {A B : Type 0} (o : Option A) (x : ErrorStop) (p : ℕ) (t : State) {k : A → Outcome B} → Hold P cs t.cells → ((a : A) → o ≡ some a → Held P cs (k a)) →
      Held P cs (otherwise o x p t k)
  unfolding otherwise
  held_otherwise none x p t h f = h_halt h
  held_otherwise (some a) x p t h f = f a refl

  held_within : {A : Type 0} (b : Bool) (l : LimitStop) (p : ℕ) (t : State) {o : Outcome A} → Hold P cs t.cells → Held P cs o → Held P cs (within b l p t o)
  unfolding within
  held_within true l p t h g = g
  held_within false l p t h g = h_halt h

  held_branch : {A : Type 0} (b : Bool) {o o' : Outcome A} → Held P cs o → Held P cs o' → Held P cs (branch b o o')
  unfolding branch
  held_branch true g g' = g
  held_branch false g g' = g'

  held_give : (c : Computed) (p : ℕ) (t : State) → Hold P cs t.cells → Held P cs (give c p t)
  unfolding give
  held_give (amount n) p t h = h_ok h
  held_give (fails x) p t h = h_halt h

  held_cell : (o : Option Val) (m p : ℕ) (t : State) → Hold P cs t.cells → Held P cs (give_cell o m p t)
  unfolding give_cell
  held_cell none m p t h = h_halt h
  held_cell (some v) m p t h = h_ok h

  held_read : (v : Val) (p : ℕ) (t : State) → Hold P cs t.cells → Held P cs (read v p t)
  held_read (in_z n) p t h = h_ok h
  held_read (in_f e xs ρ) p t h = h_ok h
  held_read (in_fr e f xs ρ) p t h = h_ok h
  held_read (in_p b xs ρ) p t h = h_ok h
  held_read (in_pr b f xs ρ) p t h = h_ok h
  held_read (in_a a) p t h = held_need _ p t h λ c _. held_cell c.holds c.made p t h
  held_read (in_b a n) p t h = h_ok h

  held_name : (m : Meaning) (o : Option Val) (p : ℕ) (t : State) → Hold P cs t.cells → Held P cs (name_rule m o p t)
  held_name (literal b) o p t h = h_ok h
  held_name (operator f) o p t h = h_halt h
  held_name free o p t h = held_need o p t h λ v _. held_read v p t h

  held_alloc : (L : Limits) (p : ℕ) (n : ℤ) (t : State) → Hold P cs t.cells → Held P cs (alloc_rule L p n t)
  held_alloc L p n t h = held_otherwise (as_size n) _ p t h λ k _. held_within _ _ p t h (h_ok (hold_more (replicate k (fresh p)) h))

  held_rounds : (L : Limits) (n : ℕ) (test : State → Outcome Val) (run : State → Outcome Returned) →
      ((t : State) → Hold P cs t.cells → Held P cs (test t)) → ((t : State) → Hold P cs t.cells → Held P cs (run t)) →
      (p : ℕ) (t : State) → Hold P cs t.cells → Held P cs (rounds L n test run p t)
  held_rounds L zero test run f g p t h = h_halt h
  held_rounds L (suc n) test run f g p t h = held_bind (test t) (f t h) λ v t₁ _ h₁. held_need _ p t₁ h₁ λ b _.
      held_branch b (held_unless (g t₁ h₁) λ t₂ h₂. held_within _ _ p t₂ h₂ (held_rounds L n test run f g p (take_unit t₂) h₂)) (h_ok h₁)

  -- ---- parts, and rules that store nothing themselves
  module _ (L : Limits) {r : Level} (n : StoresNothing r) where
    expr_h : (e : Expr) (ρ : Env) (t : State) → Hold P cs t.cells → Held P cs (r.expr e ρ t)
    expr_h e ρ t h = held_part t _ h (n.expr_stores e ρ t)

    stat_h : (c : Stat) (ρ : Env) (t : State) → Hold P cs t.cells → Held P cs (r.stat c ρ t)
    stat_h c ρ t h = held_part t _ h (n.stat_stores c ρ t)

    exprs_h : (es : Exprs) (ρ : Env) (t : State) → Hold P cs t.cells → Held P cs (exprs r es ρ t)
    exprs_h (one_expr e) ρ t h = held_bind _ (expr_h e ρ t h) λ v t₁ _ h₁. h_ok h₁
    exprs_h (more_exprs e es) ρ t h = held_bind _ (expr_h e ρ t h) λ v t₁ _ h₁. held_bind _ (exprs_h es ρ t₁ h₁) λ vs t₂ _ h₂. h_ok h₂

    args_h : (as' : List ExprP) (ρ : Env) (t : State) → Hold P cs t.cells → Held P cs (args r as' ρ t)
    args_h [] ρ t h = h_ok h
    args_h (a ∷ as') ρ t h =
        held_bind _ (held_part t (r.arg a ρ t) h (n.arg_stores a ρ t)) λ v t₁ _ h₁. held_bind _ (args_h as' ρ t₁ h₁) λ vs t₂ _ h₂. h_ok h₂

    cmds_h : (ks : Cmds) (ρ : Env) (t : State) → Hold P cs t.cells → Held P cs (cmds r ks ρ t)
    cmds_h (def_then d ks) ρ t h = held_bind _ (held_part t (r.def d ρ t) h (n.def_stores d ρ t)) λ ρ₁ t₁ _ h₁. cmds_h ks ρ₁ t₁ h₁
    cmds_h (stat_then c ks) ρ t h = held_unless (stat_h c ρ t h) λ t₁ h₁. cmds_h ks ρ t₁ h₁
    cmds_h (last c) ρ t h = stat_h c ρ t h

    block_h : (b : Block) (ρ : Env) (t : State) → Hold P cs t.cells → Held P cs (in_block r b ρ t)
    block_h (block p ks) ρ t h = cmds_h ks ρ t h

    body_h : (b : Body) (ρ : Env) (p : ℕ) (t : State) → Hold P cs t.cells → Held P cs (in_body r b ρ p t)
    body_h (an_expr e) ρ p t h = expr_h e ρ t h
    body_h (a_block b) ρ p t h = held_bind _ (block_h b ρ t h) λ o t₁ _ h₁. held_need o p t₁ h₁ λ v _. h_ok h₁

    apply_h : (g : Option Op) (p : ℕ) (f : Expr) (es : Exprs) (ρ : Env) (t : State) → Hold P cs t.cells → Held P cs (apply_rule L r g p f es ρ t)
    apply_h (some o) p f es ρ t h = held_bind _ (exprs_h es ρ t h) λ vs t₁ _ h₁. held_need _ p t₁ h₁ λ c _. held_give c p t₁ h₁
    apply_h none p f es ρ t h = held_bind _ (expr_h f ρ t h) λ v t₁ _ h₁. held_bind _ (exprs_h es ρ t₁ h₁) λ vs t₂ _ h₂. held_need _ p t₂ h₂ λ c _.
        held_within _ _ p t₂ h₂ (body_h c.body c.env p _ h₂)

-- ---- vset's cell is one of its block's

as_block_is : (v : Val) (k : ℕ × ℕ) → as_block v ≡ some k → v ≡ in_b k.0 k.1
as_block_is (in_z n) k e = absurd (none-ne-some _ e)
as_block_is (in_f e xs ρ) k q = absurd (none-ne-some _ q)
as_block_is (in_fr e f xs ρ) k q = absurd (none-ne-some _ q)
as_block_is (in_p b xs ρ) k q = absurd (none-ne-some _ q)
as_block_is (in_pr b f xs ρ) k q = absurd (none-ne-some _ q)
as_block_is (in_a a) k e = absurd (none-ne-some _ e)
as_block_is (in_b a n) k e = ap (λ (x : ℕ × ℕ). in_b x.0 x.1) (some-injective _ _ e)

as_address_is : (v : Val) (a : ℕ) → as_address v ≡ some a → v ≡ in_a a
as_address_is (in_z n) a e = absurd (none-ne-some _ e)
as_address_is (in_f e xs ρ) a q = absurd (none-ne-some _ q)
as_address_is (in_fr e f xs ρ) a q = absurd (none-ne-some _ q)
as_address_is (in_p b xs ρ) a q = absurd (none-ne-some _ q)
as_address_is (in_pr b f xs ρ) a q = absurd (none-ne-some _ q)
as_address_is (in_a b) a e = ap in_a (some-injective _ _ e)
as_address_is (in_b b n) a e = absurd (none-ne-some _ e)

cell_in_is : (k : ℕ × ℕ) (i : ℤ) (c : ℕ) → cell_in k i ≡ some c → (k.0 ≤ c) × (c < k.0 + k.1)
cell_in_is k (negsuc i) c e = absurd (none-ne-some _ e)
cell_in_is k (pos i) c e = go (ltb i k.1) (λ t. ltb→lt i k.1 t) e
  where
    go : (b : Bool) → (T b → i < k.1) → cond b (some (k.0 + i)) none ≡ some c → (k.0 ≤ c) × (c < k.0 + k.1)
    go false f e = absurd (none-ne-some _ e)
    go true f e = let q = some-injective _ _ e in (omega (arith, q), omega (arith, q, f tt))

-- ---- each rule

module _ (L : Limits) {r : Level} (n : StoresNothing r) where
  expr_held : (e : Expr) (ρ : Env) (s : State) → Held (ExprStores r e ρ s) s.cells (expr_rule L r e ρ s)
  expr_held (num p z) ρ s = h_ok here
  expr_held (name (at p x)) ρ s = held_name (meaning x) (look ρ x) p s here
  expr_held (if_expr p a b c) ρ s =
      held_bind _ (expr_h L n a ρ s here) λ v t _ h. held_need _ p t h λ k _. held_branch k (expr_h L n b ρ t h) (expr_h L n c ρ t h)
  expr_held (and p a b) ρ s = held_bind _ (expr_h L n a ρ s here) λ v t _ h. held_need _ p t h λ k _. held_branch k (expr_h L n b ρ t h) (h_ok h)
  expr_held (or p a b) ρ s = held_bind _ (expr_h L n a ρ s here) λ v t _ h. held_need _ p t h λ k _. held_branch k (h_ok h) (expr_h L n b ρ t h)
  expr_held (app p f es) ρ s = apply_h L n (head_operator f) p f es ρ s here
  expr_held (abs p ps e) ρ s = h_ok here
  expr_held (alloc p y e) ρ s = held_bind _ (expr_h L n e ρ s here) λ v t _ h. held_need _ p t h λ z _. held_alloc L p z t h
  expr_held (nth_expr p a b) ρ s =
      held_bind _ (expr_h L n a ρ s here) λ v t _ h. held_bind _ (expr_h L n b ρ t h) λ w t₁ _ h₁.
      held_need _ p t₁ h₁ λ k _. held_need _ p t₁ h₁ λ i _. held_otherwise _ _ p t₁ h₁ λ c _. held_need _ p t₁ h₁ λ x _. held_cell x.holds x.made p t₁ h₁
  expr_held (len p a) ρ s = held_bind _ (expr_h L n a ρ s here) λ v t _ h. held_need _ p t h λ k _. h_ok h
  expr_held (vset p a b c) ρ s =
      held_bind _ (expr_h L n a ρ s here) λ v t e h. held_bind _ (expr_h L n b ρ t h) λ w t₁ _ h₁. held_bind _ (expr_h L n c ρ t₁ h₁) λ u t₂ _ h₂.
      held_need _ p t₂ h₂ λ k is. held_need _ p t₂ h₂ λ i _. held_otherwise _ _ p t₂ h₂ λ m at-m. held_need _ p t₂ h₂ λ ds stored.
      h_ok (hold_store m u (k.0, k.1, t, e ∙ ap (λ x. ok x t) (as_block_is v k is), (cell_in_is k i m at-m).0, (cell_in_is k i m at-m).1) stored h₂)

  arg_held : (a : ExprP) (ρ : Env) (s : State) → Held (ArgStores r a ρ s) s.cells (arg_rule L r a ρ s)
  arg_held (val e) ρ s = expr_held e ρ s
  arg_held (adr p (at q x)) ρ s = held_need _ p s here λ v _. held_need _ p s here λ a _. h_ok here

  def_held : (d : Def) (ρ : Env) (s : State) → Held Nowhere s.cells (def_rule L r d ρ s)
  def_held (const p (at q x) y e) ρ s = held_bind _ (expr_h L n e ρ s here) λ v t _ h. held_within _ _ p t h (h_ok h)
  def_held (fun p (at q x) y ps e) ρ s = held_within _ _ p s here (h_ok here)
  def_held (fun_rec p (at q x) y ps e) ρ s = held_within _ _ p s here (h_ok here)
  def_held (fun_block p (at q x) y ps b) ρ s = held_within _ _ p s here (h_ok here)
  def_held (fun_rec_block p (at q x) y ps b) ρ s = held_within _ _ p s here (h_ok here)
  def_held (var p (at q x) y) ρ s =
      let h = hold_more (fresh p ∷ []) here in held_within _ _ p s here (held_within _ _ p (with_cells (s.cells ++ fresh p ∷ []) s) h (h_ok h))
  def_held (proc p (at q x) ps b) ρ s = held_within _ _ p s here (h_ok here)
  def_held (proc_rec p (at q x) ps b) ρ s = held_within _ _ p s here (h_ok here)

  stat_held : (c : Stat) (ρ : Env) (s : State) → Held (StatStores c ρ) s.cells (stat_rule L r c ρ s)
  stat_held (echo p e) ρ s = held_bind _ (expr_h L n e ρ s here) λ v t _ h. held_need _ p t h λ z _. held_within _ _ p t h (h_ok h)
  stat_held (set p (at q x) e) ρ s =
      held_need _ p s here λ w bound-to. held_need _ p s here λ a is. held_bind _ (expr_h L n e ρ s here) λ v t _ h. held_need _ p t h λ ds stored.
      h_ok (hold_store a v (bound-to ∙ ap some (as_address_is w a is)) stored h)
  stat_held (if_stat p e a b) ρ s =
      held_bind _ (expr_h L n e ρ s here) λ v t _ h. held_need _ p t h λ k _. held_branch k (block_h L n a ρ t h) (block_h L n b ρ t h)
  stat_held (while p e b) ρ s = held_rounds L (suc L.fuel) (r.expr e ρ) (in_block r b ρ) (λ t h. expr_h L n e ρ t h) (λ t h. block_h L n b ρ t h) p s here
  stat_held (call p (at q x) as') ρ s =
      held_need _ p s here λ w _. held_bind _ (args_h L n as' ρ s here) λ vs t _ h. held_need _ p t h λ c _. held_within _ _ p t h (block_h L n c.body c.env _ h)
  stat_held (return p e) ρ s = held_bind _ (expr_h L n e ρ s here) λ v t _ h. h_ok h

pub stores_go_to_cells : StoresGoToCells
stores_go_to_cells L r n ρ s = (
  (λ e. held_is s (expr_held L n e ρ s)),
  (λ a. held_is s (arg_held L n a ρ s)),
  (λ d. held_is s (def_held L n d ρ s)),
  (λ c. held_is s (stat_held L n c ρ s)),
)
