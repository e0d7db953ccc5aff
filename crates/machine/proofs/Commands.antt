-- Definitions and statements: one law for each form.
use mathlib.Core.Path.{◌≡◌, refl, sym, subst}
use mathlib.Core.List.{List, ◌∷◌}
use mathlib.Core.Option.{none, some}
use Prim.Native.Nat.{ℕ, zero, suc, ◌≤◌, ◌<◌}
use native.Mathlib.Nat.{le_refl, not-suc-le-zero}
use native.Mathlib.Omega.{arith}
use lib.Dec.{leb→le, ltb→lt}
use lib.ListN.{length}
use Rattle.language.specs.Syntax.{Name, at, Expr, TypeTree, ExprP, Def, const, var, Stat, echo, if_stat, call, return, Block}
use Rattle.language.specs.Syntax as Syntax
use Rattle.language.specs.Places.{place_def, place_stat}
use Rattle.language.specs.Rules.{Val, Env, bound, State, Returned, Outcome, ok, make, Level, in_block, open_procedure, def_rule, stat_rule}
use Rattle.language.specs.Rules as Rules
use Rattle.nodes.specs.Trees.{kind, place, child, next, AtD, at_const, at_fun, at_fun_rec, at_fun_block, at_fun_rec_block, at_var, at_proc, at_proc_rec, AtS, at_echo, at_set, at_if_stat, at_while, at_call, at_return}
use Rattle.machine.specs.Entries.{pick, done_tag}
use Rattle.machine.specs.Codes.{defined, Used, CodedD, CodedS}
use Rattle.machine.specs.State.{Tables, is}
use Rattle.machine.specs.declared.Ending.TheVariants.{Value}
use Rattle.machine.specs.Leaves.{define, define_cell}
use Rattle.machine.specs.Machine.{Evaluators, const_c, echo_c, set_c, return_c, block_c, if_c, call_c, rounds, cmd_by, cmd_in}
use Rattle.machine.proofs.Entries.{place_small, child_small, next_small}
use Rattle.machine.proofs.Lists.{asks_stored, room_one}
use Rattle.machine.proofs.Relation.{Stage, run_of, slot, v_adr, R, Sims, Sim, goes, returns, Spent, IsEnv, IsDone, IsBack, Ran, Here, Adeq, Named, IsVal, node, scope, InE, InAs, InB}
use Rattle.machine.proofs.Agree.{keep, grow_self, sim_lift, relax, making, sim_within, sim_bind, sim_call, sim_end, sim_unless, sim_need, asks_num, sim_bit}
use Rattle.machine.proofs.States.{old_more, r_bind, r_put_out, r_cells, r_store, sim_guard}
use Rattle.machine.proofs.Closures.{params_behind, params_first, function_value, procedure_value, recursive_function_value, recursive_procedure_value}
use Rattle.machine.proofs.Enter.{env_more, kept_binding, procedure_sim, sim_open}
use Rattle.machine.proofs.Names.{sim_look, sim_address}
use Rattle.machine.proofs.Rounds.{rounds_step}
use Rattle.machine.proofs.Expressions.{onward, inside, all_args_lem, on_block}

module _ {g : Stage} where
  -- ---- definitions

  -- one binding, of the name y
  define_sim : (p : ℕ) (y : Name) {ρ : Env} {u : Val} {t x env sp : ℕ} {s : State} {m : Tables} → IsVal g u t x m → Named g ρ env m → R g s m →
      Sim g (IsEnv g (y ∷ scope ρ)) sp m (make g.limits 1 p s λ s₁. ok (bound y u ρ) s₁) (define (run_of g) p t x env m)
  unfolding define
  define_sim p y {m = m} v n r =
      sim_within _ _ _ _ (room_one _ _ (g.limits).bindings r.bindings) r λ e.
      let c : suc m.counts.bindings ≤ (g.limits).bindings = leb→le _ _ ((room_one _ _ (g.limits).bindings r.bindings).0 e) in
      goes (record { named = env_more _ v n (omega (arith, r.roomy.bindings_fit, r.bindings_kept.long)) (omega (arith, r.roomy.few_bindings)) (omega arith); scope_is = refl })
      (r_bind r 1 _ (old_more _ _ _) (kept_binding _ _ _ (omega arith)) (omega arith))
      (record { more = omega arith; old = old_more _ _ _; waits = λ k s h. refl; fell = le_refl _ })

  var_sim : (l : Level) (i : ℕ) (z : Name) (y : TypeTree) {ρ : Env} {env sp : ℕ} {s : State} {m : Tables} → Named g ρ env m → R g s m →
      Sim g (IsEnv g (z ∷ scope ρ)) sp m (def_rule g.limits l (var (place g.script i) (at (place g.script (child g.script i)) z) y) ρ s)
      (define_cell (run_of g) (place g.script i) env m)
  unfolding define_cell
  var_sim l i z y {m = m} n r =
      rw r.cells (sim_within _ _ _ _ (λ h. h, λ h. h) r λ e.
      let c : m.counts.cells < (g.limits).cells = ltb→lt _ _ e in
      sim_lift (record { more = le_refl _; old = λ k h. refl; waits = λ k s h. refl; fell = le_refl _ })
      (define_sim _ z v_adr n (r_cells r 1 _ (place_small (g.script).tree i) (omega (arith, c)))))

  -- commands that returned nothing are done
  done_sim : (env : ℕ) (u : Returned) (t x : ℕ) {sp : ℕ} {s : State} {m : Tables} → Ran u t x m → R g s m → Sims g (IsDone env) (IsBack g) sp m (ok u s) (is (Value done_tag env) m)
  done_sim env none t x v r = goes refl r grow_self
  done_sim env (some u) t x v r = absurd v

  module _ {l : Level} {S : Evaluators} (h : Adeq g l S) where
    const_sim : (i : ℕ) (z : Name) (y : TypeTree) {e : Expr} {ρ : Env} {env sp : ℕ} {s : State} {m : Tables} →
        InE g (scope ρ) (next g.script (next g.script (child g.script i))) e → Here g ρ env s m →
        Sim g (IsEnv g (z ∷ scope ρ)) sp m (def_rule g.limits l (const (place g.script i) (at (place g.script (child g.script i)) z) y e) ρ s)
        (const_c (run_of g) S env (slot sp) (node g i) m)
    unfolding const_c
    const_sim i z y a x =
        sim_bind (h.on_e a x) λ u s₁ t j m₁ v r₁ gr. define_sim _ z v.it (onward x r₁ gr).names' r₁

    -- ---- statements

    return_sim : (i : ℕ) {e : Expr} {ρ : Env} {env sp : ℕ} {s : State} {m : Tables} → InE g (scope ρ) (child g.script i) e → Here g ρ env s m →
        Sims g (IsDone env) (IsBack g) sp m (stat_rule g.limits l (return (place g.script i) e) ρ s) (return_c (run_of g) S env (slot sp) (node g i) m)
    unfolding return_c
    return_sim i a x = sim_bind (h.on_e a x) λ u s₁ t y m₁ v r₁ gr. returns v.it r₁ grow_self

    echo_sim : (i : ℕ) {e : Expr} {ρ : Env} {env sp : ℕ} {s : State} {m : Tables} → InE g (scope ρ) (child g.script i) e → Here g ρ env s m →
        Sims g (IsDone env) (IsBack g) sp m (stat_rule g.limits l (echo (place g.script i) e) ρ s) (echo_c (run_of g) S env (slot sp) (node g i) m)
    unfolding echo_c
    echo_sim i a x =
        sim_bind (h.on_e a x) λ u s₁ t y m₁ v r₁ gr. sim_need _ (asks_num v.it) r₁ λ z e.
        rw (e, r₁.numbers) (sim_within _ _ _ _ (λ h. h, λ h. h) r₁ λ c.
        goes {a = none} refl (r_put_out r₁ _ (ltb→lt _ _ c)) (record { more = le_refl _; old = λ k h. refl; waits = λ k s h. refl; fell = le_refl _ }))

    set_sim : (i : ℕ) {z : Name} {e : Expr} {ρ : Env} {env sp : ℕ} {s : State} {m : Tables} → Used g.script g.codes (scope ρ) (child g.script i) z →
        InE g (scope ρ) (next g.script (child g.script i)) e → Here g ρ env s m →
        Sims g (IsDone env) (IsBack g) sp m (stat_rule g.limits l (Syntax.set (place g.script i) (at (place g.script (child g.script i)) z) e) ρ s)
        (set_c (run_of g) S env (slot sp) (node g i) m)
    unfolding set_c
    set_sim i n a x =
        sim_address _ _ n x.names' x.st λ c.
        sim_bind (h.on_e a x) λ u s₁ t y m₁ v r₁ gr. sim_need _ (asks_stored s₁.cells c _ u r₁.cells) r₁ λ cs w.
        goes {a = none} refl (r_store r₁ c t y u cs w v.it) (record { more = le_refl _; old = λ k h. refl; waits = λ k s h. refl; fell = le_refl _ })

    block_sim : {i : ℕ} {b : Block} {ρ : Env} (env : ℕ) {within sp : ℕ} {s : State} {m : Tables} → InB g (scope ρ) i b → Here g ρ within s m →
        Sims g (IsDone env) (IsBack g) sp m (in_block l b ρ s) (block_c (run_of g) S env within (slot sp) i m)
    unfolding block_c
    block_sim env a x = sim_end (on_block h a x) λ u s₁ t y m₁ v r₁ gr. done_sim env u t y v r₁

    if_stat_sim : (i : ℕ) {e : Expr} {a b : Block} {ρ : Env} {env sp : ℕ} {s : State} {m : Tables} → InE g (scope ρ) (child g.script i) e →
        InB g (scope ρ) (next g.script (child g.script i)) a → InB g (scope ρ) (next g.script (next g.script (child g.script i))) b → Here g ρ env s m →
        Sims g (IsDone env) (IsBack g) sp m (stat_rule g.limits l (if_stat (place g.script i) e a b) ρ s) (if_c (run_of g) S env (slot sp) (node g i) m)
    unfolding if_c
    if_stat_sim i {env = env} e a b x =
        sim_bind (h.on_e e x) λ u s₁ t y m₁ v r₁ gr. sim_bit _ v.it r₁ (block_sim env a (onward x r₁ gr)) (block_sim env b (onward x r₁ gr))

    call_stat_sim : (i : ℕ) {z : Name} {es : List ExprP} {ρ : Env} {env sp : ℕ} {s : State} {m : Tables} → Used g.script g.codes (scope ρ) (child g.script i) z →
        InAs g (scope ρ) (next g.script (child g.script i)) es → Here g ρ env s m →
        Sims g (IsDone env) (IsBack g) sp m (stat_rule g.limits l (call (place g.script i) (at (place g.script (child g.script i)) z) es) ρ s)
        (call_c (run_of g) S env (slot sp) (node g i) m)
    unfolding call_c
    call_stat_sim i {env = env} {sp = sp} z a x =
        sim_look _ _ z x.names' x.st λ u t y v.
        sim_call (all_args_lem h sp a x) λ us s₁ k n m₁ w r₁ gr.
        sim_open (open_procedure u us) _ s₁ (λ c s₂. in_block l c.body c.env s₂) (procedure_sim _ k n (keep v gr.more gr.old) w r₁)
        λ c s₂ env₁ j m₂ b r₂ gr₂.
        making (length us) b.made (block_sim env b.it.body_in (record { names' = b.it.in_env; st = r₂ }))

  -- with d levels left below
  module _ (d : ℕ) {l : Level} {S : Evaluators} (h : Adeq g l S) where
    -- each round takes a unit, so neither count runs out
    rounds_sim : (i n k : ℕ) {e : Expr} {b : Block} {ρ : Env} {env sp : ℕ} {s : State} {m : Tables} → InE g (scope ρ) (child g.script i) e →
        InB g (scope ρ) (next g.script (child g.script i)) b → Here g ρ env s m → m.counts.units < n → m.counts.units < k →
        Sims g (Spent g m (IsDone env)) (IsBack g) sp m
        (Rules.enter g.limits (place g.script i) s λ s₁. Rules.rounds g.limits n (l.expr e ρ) (in_block l b ρ) (place g.script i) s₁)
        (rounds (run_of g) k (suc d) S env (slot sp) (node g i) m)
    rounds_sim i zero k a b x c c' = absurd (not-suc-le-zero c)
    rounds_sim i (suc n) zero a b x c c' = absurd (not-suc-le-zero c')
    rounds_sim i (suc n) (suc k) {env = env} {sp = sp} {m = m} a b x c c' =
        rw (rounds_step (run_of g) (suc d) S env (slot sp) (node g i) k m)
        (sim_guard d _ _ x.st λ r₀. sim_bind (h.on_e {sp = sp} a (inside x r₀)) λ u s₁ t y m₁ v r₁ gr.
        sim_bit _ v.it r₁
        (sim_unless (λ w t x m p. p) (on_block h {sp = sp} b (onward (inside x r₀) r₁ gr)) λ s₂ t₂ z m₂ _ r₂ gr₂.
        relax (rounds_sim i n k a b (onward (onward (inside x r₀) r₁ gr) r₂ gr₂) (omega (arith, v.less, gr₂.fell))
        (omega (arith, v.less, gr₂.fell))))
        (goes {a = none} refl r₁ grow_self))

    -- ---- commands are entered, by kind

    cmd_kind : {A : Type 0} {P B : A → (t x : ℕ) → Tables → Type 0} (k i env : ℕ) {o : Outcome A} {sp : ℕ} {m : Tables} → kind g.script i ≡ k →
        Sims g P B sp m o (cmd_in (run_of g) k (suc d) S env (slot sp) (node g i) m) →
        Sims g P B sp m o (cmd_in (run_of g) (kind g.script i) (suc d) S env (slot sp) (node g i) m)
    cmd_kind {P = P} {B = B} k i env {o} {sp} {m} e f = subst (λ (j : ℕ). Sims g P B sp m o (cmd_in (run_of g) j (suc d) S env (slot sp) (node g i) m)) (sym e) f

    pub def_sim : {i : ℕ} {c : Def} {ρ : Env} {env sp : ℕ} {s : State} {m : Tables} → AtD g.script i c → CodedD g.script g.codes (scope ρ) i c → Here g ρ env s m →
        Sim g (Spent g m (IsEnv g (defined c ∷ scope ρ))) sp m (Rules.enter g.limits (place_def c) s λ s₁. def_rule g.limits l c ρ s₁)
        (cmd_in (run_of g) (kind g.script i) (suc d) S env (slot sp) (node g i) m)
    unfolding cmd_in cmd_by pick
    def_sim (at_const {t = y} k n a e z) q x =
        cmd_kind 2 _ _ k.kind_is (sim_guard d _ _ x.st λ r. const_sim h _ _ y (record { at = e; coded = q }) (inside x r))
    def_sim (at_fun {i = i} {j = j} k n a ps e z) q x =
        cmd_kind 3 _ _ k.kind_is (sim_guard d _ _ x.st λ r. define_sim _ _
        (function_value x.names' r _ (next_small (g.script).tree (next g.script (child g.script i))) ps (record { at = e; coded = q j ps })) x.names' r)
    def_sim (at_fun_rec {i = i} {j = j} k n a ps e z) q x =
        cmd_kind 4 _ _ k.kind_is (sim_guard d _ _ x.st λ r. define_sim _ _
        (recursive_function_value x.names' r _ (child_small (g.script).tree i) ps (record { at = e; coded = q j ps })) x.names' r)
    def_sim (at_fun_block {i = i} {j = j} k n a ps y b z) q x =
        cmd_kind 32 _ _ k.kind_is (sim_guard d _ _ x.st λ r. define_sim _ _
        (procedure_value x.names' r _ (next_small (g.script).tree (next g.script (child g.script i))) ps (record { at = b; coded = q j ps })) x.names' r)
    def_sim (at_fun_rec_block {i = i} {j = j} k n a ps y b z) q x =
        cmd_kind 33 _ _ k.kind_is (sim_guard d _ _ x.st λ r. define_sim _ _
        (recursive_procedure_value x.names' r _ (child_small (g.script).tree i) (params_behind a ps) (record { at = b; coded = q j ps })) x.names' r)
    def_sim (at_var {t = y} k n a z) q x = cmd_kind 5 _ _ k.kind_is (sim_guard d _ _ x.st λ r. var_sim l _ _ y x.names' r)
    def_sim (at_proc {i = i} {j = j} k n ps y b z) q x =
        cmd_kind 6 _ _ k.kind_is (sim_guard d _ _ x.st λ r. define_sim _ _
        (procedure_value x.names' r _ (next_small (g.script).tree (child g.script i)) ps (record { at = b; coded = q j ps })) x.names' r)
    def_sim (at_proc_rec {i = i} {j = j} k n ps y b z) q x =
        cmd_kind 7 _ _ k.kind_is (sim_guard d _ _ x.st λ r. define_sim _ _
        (recursive_procedure_value x.names' r _ (child_small (g.script).tree i) (params_first ps b) (record { at = b; coded = q j ps })) x.names' r)

    pub stat_sim : {i : ℕ} {c : Stat} {ρ : Env} {env sp : ℕ} {s : State} {m : Tables} → AtS g.script i c → CodedS g.script g.codes (scope ρ) i c → Here g ρ env s m →
        Sims g (Spent g m (IsDone env)) (IsBack g) sp m (Rules.enter g.limits (place_stat c) s λ s₁. stat_rule g.limits l c ρ s₁)
        (cmd_in (run_of g) (kind g.script i) (suc d) S env (slot sp) (node g i) m)
    unfolding cmd_in cmd_by pick
    stat_sim (at_echo k e z) q x = cmd_kind 8 _ _ k.kind_is (sim_guard d _ _ x.st λ r. echo_sim h _ (record { at = e; coded = q }) (inside x r))
    stat_sim (at_set k n e z) q x = cmd_kind 9 _ _ k.kind_is (sim_guard d _ _ x.st λ r. set_sim h _ q.0 (record { at = e; coded = q.1 }) (inside x r))
    stat_sim (at_if_stat k e y a y' b z) q x =
        cmd_kind 10 _ _ k.kind_is (sim_guard d _ _ x.st λ r.
        if_stat_sim h _ (record { at = e; coded = q.0 }) (record { at = a; coded = q.1 }) (record { at = b; coded = q.2 }) (inside x r))
    stat_sim {m = m} (at_while k e y b z) q x =
        cmd_kind 11 _ _ k.kind_is (rounds_sim _ (suc (g.limits).fuel) (suc m.counts.units) (record { at = e; coded = q.0 }) (record { at = b; coded = q.1 }) x
        (omega (arith, x.st.units)) (le_refl _))
    stat_sim (at_call k n as') q x =
        cmd_kind 12 _ _ k.kind_is (sim_guard d _ _ x.st λ r. call_stat_sim h _ q.0 (record { at = as'; coded = q.1 }) (inside x r))
    stat_sim (at_return k e z) q x = cmd_kind 31 _ _ k.kind_is (sim_guard d _ _ x.st λ r. return_sim h _ (record { at = e; coded = q }) (inside x r))
