-- What each change of the state keeps, each rule keeps: one walk over the rules, ECHO's apart.
use mathlib.Core.Path.{◌≡◌, refl}
use mathlib.Core.Bool.{Bool, true, false, true≢false}
use mathlib.Core.List.{List, [], ◌∷◌, ◌++◌}
use mathlib.Core.Option.{Option, none, some}
use Prim.Native.Nat.{ℕ, zero, suc}
use lib.IntN.{ℤ}
use lib.ListN.{replicate}
use Rattle.language.specs.Syntax.{at, Expr, num, name, if_expr, and, or, app, abs, alloc, nth_expr, len, vset, Exprs, one_expr, more_exprs, ExprP, val, adr, Cmds, last, def_then, stat_then, Def, const, fun, fun_rec, fun_block, fun_rec_block, var, proc, proc_rec, Stat, echo, set, if_stat, while, call, return, Block, block}
use Rattle.language.specs.Answers.{LimitStop, ErrorStop, SIZE, INDEX}
use Rattle.language.specs.Names.{Op, Meaning, literal, operator, free, meaning, head_operator}
use Rattle.language.specs.Numbers.{Computed, amount, fails}
use Rattle.language.specs.Limits.{Limits}
use Rattle.language.specs.Rules.{Val, in_z, in_f, in_fr, in_p, in_pr, in_a, in_b, Env, Cell, State, Returned, Outcome, ok, bind, need, unless_returned, otherwise, within, branch, take_unit, take_bindings, with_cells, enter, make, look, nth, fresh, store, as_address, Body, an_expr, a_block, give, give_cell, Level, exprs, args, cmds, in_block, in_body, read, name_rule, apply_rule, alloc_rule, element_rule, expr_rule, arg_rule, def_rule, rounds, stat_rule}
use Rattle.sentences.specs.Sentences.{Ends, came, halted, Anything, IsEcho}

-- I is kept by each change of the state, and G holds of the values that stand in cells and of all that are no address
pub record Kept (I : State → Type 0) (G : Val → Type 0) : Type 0 where
  pub on_unit : (s : State) → I s → I (take_unit s)
  pub on_bindings : (n : ℕ) (s : State) → I s → I (take_bindings n s)
  pub on_cell : (p : ℕ) (s : State) → I s → I (with_cells (s.cells ++ fresh p ∷ []) s)
  pub on_cells : (p n : ℕ) (s : State) → I s → I (with_cells (s.cells ++ replicate n (fresh p)) s)
  pub on_store : (s : State) (a : ℕ) (v : Val) (c : List Cell) → store s.cells a v ≡ some c → G v → I s → I (with_cells c s)
  pub held : (s : State) (a : ℕ) (c : Cell) (v : Val) → nth s.cells a ≡ some c → c.holds ≡ some v → I s → G v
  pub no_address : (v : Val) → as_address v ≡ none → G v

abbrev pub If : (Val → Type 0) → Option Val → Type 0  -- G of a value, if there is one
If G none = Unit {0}
If G (some v) = G v

-- evaluators that keep I and come to values as G says
pub record KeptBy (I : State → Type 0) (G : Val → Type 0) (r : Level) : Type 0 where
  pub expr_ends : (e : Expr) (ρ : Env) (s : State) → I s → Ends G I (r.expr e ρ s)
  pub arg_ends : (a : ExprP) (ρ : Env) (s : State) → I s → Ends Anything I (r.arg a ρ s)
  pub def_ends : (d : Def) (ρ : Env) (s : State) → I s → Ends Anything I (r.def d ρ s)
  pub stat_ends : (c : Stat) (ρ : Env) (s : State) → I s → Ends (If G) I (r.stat c ρ s)

module _ {I : State → Type 0} where
  pub ends_any : {A : Type 0} {P : A → Type 0} {o : Outcome A} → Ends P I o → Ends Anything I o
  ends_any (came p i) = came tt i
  ends_any (halted i) = halted i

  pub ends_bind : {A B : Type 0} {P : A → Type 0} {Q : B → Type 0} {o : Outcome A} {k : A → State → Outcome B} → Ends P I o →
      ((a : A) (s : State) → P a → I s → Ends Q I (k a s)) → Ends Q I (bind o k)
  unfolding bind
  ends_bind (came {a = a} {s = s} p i) f = f a s p i
  ends_bind (halted i) f = halted i

  pub ends_need : {A B : Type 0} {Q : B → Type 0} (o : Option A) (p : ℕ) (s : State) {k : A → Outcome B} → I s → ((a : A) → o ≡ some a → Ends Q I (k a)) → Ends Q I (need o p s k)
  unfolding need
  ends_need none p s i f = halted i
  ends_need (some a) p s i f = f a refl

  ends_otherwise : {A B : Type 0} {Q : B → Type 0} (o : Option A) (x : ErrorStop) (p : ℕ) (s : State) {k : A → Outcome B} → I s → ((a : A) → Ends Q I (k a)) → Ends Q I (otherwise o x p s k)
  unfolding otherwise
  ends_otherwise none x p s i f = halted i
  ends_otherwise (some a) x p s i f = f a

  ends_then : {G : Val → Type 0} {o : Outcome Returned} {k : State → Outcome Returned} → Ends (If G) I o → ((s : State) → I s → Ends (If G) I (k s)) → Ends (If G) I (unless_returned o k)
  unfolding unless_returned
  ends_then (came {a = none} {s = s} p i) f = f s i
  ends_then (came {a = some v} p i) f = came p i
  ends_then (halted i) f = halted i

  pub ends_within : {A : Type 0} {Q : A → Type 0} (b : Bool) (l : LimitStop) (p : ℕ) (s : State) {o : Outcome A} → I s → Ends Q I o → Ends Q I (within b l p s o)
  unfolding within
  ends_within true l p s i h = h
  ends_within false l p s i h = halted i

  ends_branch : {A : Type 0} {Q : A → Type 0} (b : Bool) {o o' : Outcome A} → Ends Q I o → Ends Q I o' → Ends Q I (branch b o o')
  unfolding branch
  ends_branch true h k = h
  ends_branch false h k = k

  -- what a block returned
  given_ends : {G : Val → Type 0} (o : Returned) (p : ℕ) (s : State) → If G o → I s → Ends G I (need o p s λ v. ok v s)
  unfolding need
  given_ends none p s u i = halted i
  given_ends (some v) p s u i = came u i

module _ (L : Limits) {I : State → Type 0} {G : Val → Type 0} (W : Kept I G) where
  pub enter_ends : {A : Type 0} {Q : A → Type 0} (p : ℕ) (s : State) {o : Outcome A} → I s → (I (take_unit s) → Ends Q I o) → Ends Q I (enter L p s (λ _. o))
  enter_ends p s i f = ends_within _ _ p s i (f (W.on_unit s i))

  make_ends : {A : Type 0} {Q : A → Type 0} (n p : ℕ) (s : State) {o : Outcome A} → I s → (I (take_bindings n s) → Ends Q I o) → Ends Q I (make L n p s (λ _. o))
  make_ends n p s i f = ends_within _ _ p s i (f (W.on_bindings n s i))

  give_ends : (c : Computed) (p : ℕ) (s : State) → I s → Ends G I (give c p s)
  unfolding give
  give_ends (amount n) p s i = came (W.no_address (in_z n) refl) i
  give_ends (fails x) p s i = halted i

  cell_ends : (a : ℕ) (c : Cell) (p : ℕ) (s : State) → nth s.cells a ≡ some c → I s → Ends G I (give_cell c.holds c.made p s)
  unfolding give_cell
  cell_ends a c p s h i = go c.holds refl
    where
      go : (o : Option Val) → c.holds ≡ o → Ends G I (give_cell o c.made p s)
      go none e = halted i
      go (some v) e = came (W.held s a c v h e i) i

  read_ends : (v : Val) (p : ℕ) (s : State) → I s → Ends G I (read v p s)
  read_ends (in_z n) p s i = came (W.no_address (in_z n) refl) i
  read_ends (in_f e xs ρ) p s i = came (W.no_address (in_f e xs ρ) refl) i
  read_ends (in_fr e f xs ρ) p s i = came (W.no_address (in_fr e f xs ρ) refl) i
  read_ends (in_p b xs ρ) p s i = came (W.no_address (in_p b xs ρ) refl) i
  read_ends (in_pr b f xs ρ) p s i = came (W.no_address (in_pr b f xs ρ) refl) i
  read_ends (in_a a) p s i = ends_need _ p s i λ c e. cell_ends a c p s e i
  read_ends (in_b a n) p s i = came (W.no_address (in_b a n) refl) i

  name_ends : (m : Meaning) (o : Option Val) (p : ℕ) (s : State) → I s → Ends G I (name_rule m o p s)
  name_ends (literal b) o p s i = came (W.no_address (in_z _) refl) i
  name_ends (operator f) o p s i = halted i
  name_ends free o p s i = ends_need o p s i λ v _. read_ends v p s i

  alloc_ends : (p : ℕ) (n : ℤ) (s : State) → I s → Ends G I (alloc_rule L p n s)
  alloc_ends p n s i = ends_otherwise _ SIZE p s i λ k. ends_within _ _ p s i (came (W.no_address (in_b _ k) refl) (W.on_cells p k s i))

  element_ends : (p : ℕ) (v w : Val) (s : State) {k : ℕ → Outcome Val} → I s → ((a : ℕ) → Ends G I (k a)) → Ends G I (element_rule p v w s k)
  element_ends p v w s i f = ends_need _ p s i λ b _. ends_need _ p s i λ n _. ends_otherwise _ INDEX p s i f

  rounds_end : (n : ℕ) (test : State → Outcome Val) (run : State → Outcome Returned) →
      ((s : State) → I s → Ends G I (test s)) → ((s : State) → I s → Ends (If G) I (run s)) → (p : ℕ) (s : State) → I s → Ends (If G) I (rounds L n test run p s)
  rounds_end zero test run ht hr p s i = halted i
  rounds_end (suc n) test run ht hr p s i = ends_bind (ht s i) λ v s₁ u i₁. ends_need _ p s₁ i₁ λ t _.
      ends_branch t (ends_then (hr s₁ i₁) λ s₂ i₂. enter_ends p s₂ i₂ λ i₃. rounds_end n test run ht hr p (take_unit s₂) i₃) (came tt i₁)

  module _ {r : Level} (h : KeptBy I G r) where
    exprs_end : (es : Exprs) (ρ : Env) (s : State) → I s → Ends Anything I (exprs r es ρ s)
    exprs_end (one_expr e) ρ s i = ends_bind (h.expr_ends e ρ s i) λ v s₁ u i₁. came tt i₁
    exprs_end (more_exprs e es) ρ s i = ends_bind (h.expr_ends e ρ s i) λ v s₁ u i₁. ends_bind (exprs_end es ρ s₁ i₁) λ vs s₂ w i₂. came tt i₂

    args_end : (as' : List ExprP) (ρ : Env) (s : State) → I s → Ends Anything I (args r as' ρ s)
    args_end [] ρ s i = came tt i
    args_end (a ∷ as') ρ s i = ends_bind (h.arg_ends a ρ s i) λ v s₁ u i₁. ends_bind (args_end as' ρ s₁ i₁) λ vs s₂ w i₂. came tt i₂

    cmds_end : (cs : Cmds) (ρ : Env) (s : State) → I s → Ends (If G) I (cmds r cs ρ s)
    cmds_end (def_then d cs) ρ s i = ends_bind (h.def_ends d ρ s i) λ ρ₁ s₁ u i₁. cmds_end cs ρ₁ s₁ i₁
    cmds_end (stat_then c cs) ρ s i = ends_then (h.stat_ends c ρ s i) λ s₁ i₁. cmds_end cs ρ s₁ i₁
    cmds_end (last c) ρ s i = h.stat_ends c ρ s i

    block_ends : (b : Block) (ρ : Env) (s : State) → I s → Ends (If G) I (in_block r b ρ s)
    block_ends (block p cs) ρ s i = cmds_end cs ρ s i

    body_ends : (b : Body) (ρ : Env) (p : ℕ) (s : State) → I s → Ends G I (in_body r b ρ p s)
    body_ends (an_expr e) ρ p s i = h.expr_ends e ρ s i
    body_ends (a_block b) ρ p s i = ends_bind (block_ends b ρ s i) λ o s₁ u i₁. given_ends o p s₁ u i₁

    apply_ends : (g : Option Op) (p : ℕ) (f : Expr) (es : Exprs) (ρ : Env) (s : State) → I s → Ends G I (apply_rule L r g p f es ρ s)
    apply_ends (some o) p f es ρ s i = ends_bind (exprs_end es ρ s i) λ vs s₁ u i₁. ends_need _ p s₁ i₁ λ c _. give_ends c p s₁ i₁
    apply_ends none p f es ρ s i = ends_bind (h.expr_ends f ρ s i) λ v s₁ u i₁. ends_bind (exprs_end es ρ s₁ i₁) λ vs s₂ w i₂. ends_need _ p s₂ i₂ λ c _.
        make_ends c.count p s₂ i₂ λ i₃. body_ends c.body c.env p _ i₃

    pub expr_rule_ends : (e : Expr) (ρ : Env) (s : State) → I s → Ends G I (expr_rule L r e ρ s)
    expr_rule_ends (num p n) ρ s i = came (W.no_address (in_z n) refl) i
    expr_rule_ends (name (at p x)) ρ s i = name_ends (meaning x) (look ρ x) p s i
    expr_rule_ends (if_expr p a b c) ρ s i = ends_bind (h.expr_ends a ρ s i) λ v s₁ u i₁. ends_need _ p s₁ i₁ λ t _. ends_branch t (h.expr_ends b ρ s₁ i₁) (h.expr_ends c ρ s₁ i₁)
    expr_rule_ends (and p a b) ρ s i = ends_bind (h.expr_ends a ρ s i) λ v s₁ u i₁. ends_need _ p s₁ i₁ λ t _. ends_branch t (h.expr_ends b ρ s₁ i₁) (came (W.no_address (in_z _) refl) i₁)
    expr_rule_ends (or p a b) ρ s i = ends_bind (h.expr_ends a ρ s i) λ v s₁ u i₁. ends_need _ p s₁ i₁ λ t _. ends_branch t (came (W.no_address (in_z _) refl) i₁) (h.expr_ends b ρ s₁ i₁)
    expr_rule_ends (app p f es) ρ s i = apply_ends (head_operator f) p f es ρ s i
    expr_rule_ends (abs p ps e) ρ s i = came (W.no_address (in_f e _ ρ) refl) i
    expr_rule_ends (alloc p t e) ρ s i = ends_bind (h.expr_ends e ρ s i) λ v s₁ u i₁. ends_need _ p s₁ i₁ λ n _. alloc_ends p n s₁ i₁
    expr_rule_ends (nth_expr p a b) ρ s i = ends_bind (h.expr_ends a ρ s i) λ v s₁ u i₁. ends_bind (h.expr_ends b ρ s₁ i₁) λ w s₂ u₂ i₂.
        element_ends p v w s₂ i₂ λ k. ends_need _ p s₂ i₂ λ c e. cell_ends k c p s₂ e i₂
    expr_rule_ends (len p a) ρ s i = ends_bind (h.expr_ends a ρ s i) λ v s₁ u i₁. ends_need _ p s₁ i₁ λ k _. came (W.no_address (in_z _) refl) i₁
    expr_rule_ends (vset p a b c) ρ s i = ends_bind (h.expr_ends a ρ s i) λ v s₁ u i₁. ends_bind (h.expr_ends b ρ s₁ i₁) λ w s₂ u₂ i₂.
        ends_bind (h.expr_ends c ρ s₂ i₂) λ z s₃ u₃ i₃. element_ends p v w s₃ i₃ λ k. ends_need _ p s₃ i₃ λ cs m. came u (W.on_store s₃ k z cs m u₃ i₃)

    pub arg_rule_ends : (a : ExprP) (ρ : Env) (s : State) → I s → Ends Anything I (arg_rule L r a ρ s)
    arg_rule_ends (val e) ρ s i = ends_any (expr_rule_ends e ρ s i)
    arg_rule_ends (adr p (at q x)) ρ s i = ends_need _ p s i λ v _. ends_need _ p s i λ a _. came tt i

    pub def_rule_ends : (d : Def) (ρ : Env) (s : State) → I s → Ends Anything I (def_rule L r d ρ s)
    def_rule_ends (const p (at q x) t e) ρ s i = ends_bind (h.expr_ends e ρ s i) λ v s₁ u i₁. make_ends 1 p s₁ i₁ λ i₂. came tt i₂
    def_rule_ends (fun p (at q x) t ps e) ρ s i = make_ends 1 p s i λ i₁. came tt i₁
    def_rule_ends (fun_rec p (at q x) t ps e) ρ s i = make_ends 1 p s i λ i₁. came tt i₁
    def_rule_ends (fun_block p (at q x) t ps b) ρ s i = make_ends 1 p s i λ i₁. came tt i₁
    def_rule_ends (fun_rec_block p (at q x) t ps b) ρ s i = make_ends 1 p s i λ i₁. came tt i₁
    def_rule_ends (var p (at q x) t) ρ s i = ends_within _ _ p s i (make_ends 1 p (with_cells (s.cells ++ fresh p ∷ []) s) (W.on_cell p s i) λ i₁. came tt i₁)
    def_rule_ends (proc p (at q x) ps b) ρ s i = make_ends 1 p s i λ i₁. came tt i₁
    def_rule_ends (proc_rec p (at q x) ps b) ρ s i = make_ends 1 p s i λ i₁. came tt i₁

    pub stat_rule_ends : (c : Stat) (ρ : Env) (s : State) → IsEcho c ≡ false → I s → Ends (If G) I (stat_rule L r c ρ s)
    stat_rule_ends (echo p e) ρ s n i = absurd (true≢false n)
    stat_rule_ends (set p (at q x) e) ρ s n i = ends_need _ p s i λ w _. ends_need _ p s i λ a _. ends_bind (h.expr_ends e ρ s i) λ v s₁ u i₁.
        ends_need _ p s₁ i₁ λ c m. came tt (W.on_store s₁ a v c m u i₁)
    stat_rule_ends (if_stat p e a b) ρ s n i = ends_bind (h.expr_ends e ρ s i) λ v s₁ u i₁. ends_need _ p s₁ i₁ λ t _. ends_branch t (block_ends a ρ s₁ i₁) (block_ends b ρ s₁ i₁)
    stat_rule_ends (while p e b) ρ s n i =
        rounds_end (suc L.fuel) (r.expr e ρ) (in_block r b ρ) (λ s₁ i₁. h.expr_ends e ρ s₁ i₁) (λ s₁ i₁. block_ends b ρ s₁ i₁) p s i
    stat_rule_ends (call p (at q x) as') ρ s n i = ends_need _ p s i λ w _. ends_bind (args_end as' ρ s i) λ vs s₁ u i₁.
        ends_need _ p s₁ i₁ λ c _. make_ends c.count p s₁ i₁ λ i₂. block_ends c.body c.env _ i₂
    stat_rule_ends (return p e) ρ s n i = ends_bind (h.expr_ends e ρ s i) λ v s₁ u i₁. came u i₁
