-- A call is entered: parameters and waiting values one by one, all bindings or none, a recursive name last.
use mathlib.Core.Path.{◌≡◌, refl, sym, ◌∙◌, ap, subst}
use mathlib.Core.Bool.{Bool, true, false}
use mathlib.Core.List.{List, [], ◌∷◌}
use mathlib.Core.Option.{Option, none, some}
use Prim.Native.Nat.{ℕ, suc, ◌+◌, ◌*◌, ◌≤◌, ◌<◌}
use native.Mathlib.Nat.{le_refl}
use native.Mathlib.Omega.{arith}
use lib.Dec.{T, eqb, leb, leb→le, eqb→eq}
use lib.ListN.{length}
use Rattle.language.specs.Syntax.{Name, ArgP}
use Rattle.language.specs.Answers.{LimitStop, BINDINGS}
use Rattle.language.specs.Types.{param_names}
use Rattle.language.specs.Limits.{Limits}
use Rattle.language.specs.Rules.{Val, Env, bound, State, Outcome, ok, need, within, make, take_bindings, bind_all, Entered, entering, also, an_expr, a_block, open_function, open_procedure}
use Rattle.language.specs.Rules as Rules
use Rattle.nodes.specs.Nodes.{node_at}
use Rattle.nodes.specs.Trees.{next, at_val_param, at_var_param, AtParams, at_no_param, at_more_params}
use Rattle.machine.specs.declared.Row.{Row}
use Rattle.machine.specs.declared.Binding.{Binding}
use Rattle.machine.specs.declared.Ending.{Ending}
use Rattle.machine.specs.declared.Ending.TheVariants.{Value}
use Rattle.machine.specs.declared.Ending.TheVariants as E
use Rattle.machine.specs.Entries.{pick, ring_rows, row_after, row, row_at, binding, put_binding, env_of}
use Rattle.machine.specs.Codes.{code_over, extended}
use Rattle.machine.specs.State.{Tables, Ret, is, and_then, bind}
use Rattle.machine.specs.Leaves.{code_in, jump_from, binding_behind, is_param, body_after, bind_all_at, enter, enter_again, open_function_at, open_procedure_at}
use Rattle.machine.proofs.Entries.{binding_own, binding_length, binding_beyond}
use Rattle.machine.proofs.Lists.{room_is}
use Rattle.machine.proofs.Relation.{Stage, run_of, slot, Kept, Old, v_num, v_fun, v_rec, v_proc, v_proc_rec, v_adr, v_block, e_bound, ValR, EnvR, Waits, w_none, w_more, R, Grow, Sims, Sim, goes, no_way, Made, Waiting, IsEntered, InBody, Zip, z_none, z_more, Fit, fit, unfit, Bound, Named, Wait, IsVal, scope, InB}
use Rattle.machine.proofs.Chain.{code_in_lem, code_most, jump_from_lem}
use Rattle.machine.proofs.Agree.{kept_self, kept_then, keep, waits_keep, env_in, tag_small, sim_within, sim_bind}
use Rattle.machine.proofs.States.{old_more, r_bind}

-- ---- which nodes are parameters

neither : (b c : Bool) → (T b → ⊥) → (T c → ⊥) → pick b (λ _. true) (λ _. c) ≡ false
unfolding pick
neither true c h k = absurd (h tt)
neither false true h k = absurd (k tt)
neither false false h k = refl

not_param : (k : ℕ) → (k ≡ 13 → ⊥) → (k ≡ 14 → ⊥) → is_param k ≡ false
unfolding is_param
not_param k h j = neither (eqb k 13) (eqb k 14) (λ t. h (eqb→eq k 13 t)) (λ t. j (eqb→eq k 14 t))

a_param : (j k : ℕ) → is_param j ≡ true → k ≡ j → is_param k ≡ true
a_param j k h e = ap is_param e ∙ h

val_param : is_param 13 ≡ true
unfolding is_param pick
val_param = refl

var_param : is_param 14 ≡ true
unfolding is_param pick
var_param = refl

-- the first of some parameters is bound
bind_first : (tree : List ℕ) (n q sp : ℕ) (w : List ℕ) (k env : ℕ) (b : List ℕ) (t x : ℕ) → row_at w sp ≡ row t x →
    bind_all_at tree (suc n) q sp w k env b ≡
    bind_all_at tree n (node_at tree q).next (row_after sp) w (suc k) (suc k) (put_binding b k (binding_behind b t x env))
unfolding bind_all_at
bind_first tree n q sp w k env b t x e =
    ap (λ (r : Row). bind_all_at tree n (node_at tree q).next (row_after sp) w (suc k) (suc k)
    (put_binding b k (binding_behind b r.tag r.word env))) e

-- the row behind a value's
pub after_slot : (k : ℕ) → row_after (slot k) ≡ slot (suc k)
unfolding row_after
after_slot k = omega arith

same_count : (k n : ℕ) → n ≡ 0 + k → n ≡ k
same_count k n e = omega arith

pub kept_binding : {r : ℕ} (b : List ℕ) (c : ℕ) (x : Binding) → 2 * suc c ≤ r → Kept r b (put_binding b c x)
kept_binding {r} b c x h = record { long = binding_length b c x; beyond = binding_beyond b c x r h }

module _ {g : Stage} where
  fit_more : {q : ℕ} {y : Name} {u : Val} {us : List Val} {ρ : Env} {Γ : List Name} {i n : ℕ} {o : Option Env} {e : Ending} →
      Fit g (next g.script q) us (bound y u ρ) Γ i n o e → Fit g q (u ∷ us) ρ Γ i (suc n) o e
  fit_more (fit z e s) = fit (z_more z) (ap suc e) s
  fit_more unfit = unfit

  fit_is : {q i : ℕ} {xs : List ArgP} → AtParams g.script q xs i → (us : List Val) (ρ : Env) →
      Fit g q us ρ (extended (param_names xs) (scope ρ)) i (length (param_names xs)) (bind_all (param_names xs) us ρ) (body_after (g.script).tree (length us) q)
  unfolding body_after pick
  fit_is (at_no_param b c) [] ρ = rw (not_param _ b c, pick) (fit z_none refl refl)
  fit_is (at_no_param b c) (u ∷ us) ρ = rw (not_param _ b c, pick) unfit
  fit_is (at_more_params (at_val_param k t e) b) [] ρ = rw (a_param 13 _ val_param k.kind_is, pick) unfit
  fit_is (at_more_params (at_var_param k t e) b) [] ρ = rw (a_param 14 _ var_param k.kind_is, pick) unfit
  fit_is (at_more_params (at_val_param k t e) b) (u ∷ us) ρ = rw (a_param 13 _ val_param k.kind_is, pick) (fit_more (fit_is b us _))
  fit_is (at_more_params (at_var_param k t e) b) (u ∷ us) ρ = rw (a_param 14 _ var_param k.kind_is, pick) (fit_more (fit_is b us _))

  -- ---- bindings are made

  pub env_more : {b : List ℕ} {c env t x : ℕ} {y : Name} {ρ : Env} {u : Val} (n : ℕ) → ValR g b c u t x → EnvR g b c ρ env →
      2 * suc c ≤ length b → c < 4096 → suc c ≤ n → EnvR g (put_binding b c (binding_behind b t x env)) n (bound y u ρ) (suc c)
  unfolding binding_behind
  env_more {b} {c} {env} {t} {x} {ρ = ρ} n u e l h k =
      let v : env ≤ c = env_in e in
      let w = code_most e in
      let q : code_in b env ≡ code_over (scope ρ) = code_in_lem e in
      let j = jump_from_lem e in
      let z : jump_from b env ≤ c = env_in j.2 in
      e_bound k (binding_own b c (binding (suc (code_in b env)) t x env (jump_from b env)) (omega arith) l (omega (arith, q, w)) (tag_small u) (omega arith) (omega arith)
      ∙ ap (λ (d : ℕ). binding (suc d) t x env (jump_from b env)) q)
      (keep u (le_refl _) (old_more _ _ _)) (keep e (le_refl _) (old_more _ _ _)) j.1 j.3 (keep j.2 (le_refl _) (old_more _ _ _))

  bind_each : {q i : ℕ} {us : List Val} {ρ ρ' : Env} → Zip g q us ρ ρ' i → {b w : List ℕ} {c sp env : ℕ} (n r : ℕ) → Waits g b c w sp us → EnvR g b c ρ env →
      length us + c ≡ n → 2 * n ≤ length b → n ≤ 4096 → 2 * n ≤ r → Bound g b c n r ρ' (bind_all_at (g.script).tree (length us) q (slot sp) w c env b)
  unfolding bind_all_at
  bind_each z_none n r w_none e h l m k = record { env' = keep e (omega arith) (λ j s. refl); old = λ j s. refl; kept = kept_self }
  bind_each (z_more {q = q} {us = us} z) {b} {w} {c} {sp} {env} n r (w_more {t = t} {x = x} e₀ u ws) e h l m k =
      let y : Binding = binding_behind b t x env in
      let more = bind_each z n r (waits_keep ws (omega arith) (old_more b c y))
      (env_more (suc c) u e (omega arith) (omega arith) (le_refl _))
      (omega arith) (omega (arith, binding_length b c y)) m k in
      rw (bind_first (g.script).tree (length us) q (slot sp) w c env b t x e₀, after_slot sp)
      (record {
        env' = more.env';
        old = λ j s. more.old j (omega arith) ∙ old_more b c y j s;
        kept = kept_then (kept_binding b c y (omega arith)) more.kept;
      })

  module _ {B : Type 0} {In : List Name → ℕ → B → Type 0} where
    enter_fit : {q i n' : ℕ} {us : List Val} {ρ : Env} {Γ : List Name} {o : Option Env} {e : Ending} (p : ℕ) (body : B) {env sp : ℕ} {s : State} {m : Tables} →
        Fit g q us ρ Γ i n' o e → In Γ i body → (length us + m.counts.bindings ≤ ring_rows → Wait g sp us m) → Named g ρ env m → R g s m →
        Sim g (Made g (length us) m (IsEntered g In)) sp m (need (entering body n' o) p s λ c. make g.limits c.count p s λ s₁. ok c s₁)
        (and_then (is e m) λ _ i m. pick (leb (length us + m.counts.bindings) (g.limits).bindings) (λ _.
        let o = bind_all_at (g.script).tree (length us) q (slot sp) m.waiting m.counts.bindings env m.bindings in
        is (Value o.env i) (bind (length us) o.bindings m))
        λ _. is (E.Stop 23 p) m)
    unfolding need and_then
    enter_fit p body unfit a w e r = no_way r
    enter_fit {i = j} {us = us} p body {sp = sp} {m = m} (fit z e' s') a w e r =
        rw e' (sim_within _ _ _ _ (room_is (length us) _ _ (g.limits).bindings r.bindings) r λ h.
        let l : length us + m.counts.bindings ≤ (g.limits).bindings = leb→le _ _ ((room_is (length us) _ _ (g.limits).bindings r.bindings).0 h) in
        let x = bind_each z (length us + m.counts.bindings) (2 * (g.limits).bindings) (w (omega (arith, r.roomy.few_bindings))) e refl
        (omega (arith, r.roomy.bindings_fit, r.bindings_kept.long)) (omega (arith, r.roomy.few_bindings)) (omega arith) in
        goes (record { it = record { in_env = x.env'; body_in = subst (λ (Γ : List Name). In Γ j body) (sym s') a }; made = omega arith }) (r_bind r (length us) _ x.old x.kept l)
        (record { more = omega arith; old = x.old; waits = λ k s h. refl; fell = le_refl _ }))

    again_fit : {q i n' : ℕ} {us : List Val} {u : Val} {ρ : Env} {Γ : List Name} {o : Option Env} {e : Ending} (p t x : ℕ) (body : B) (f : Name) {sp : ℕ} {s : State} {m : Tables} →
        Fit g q us ρ Γ i n' o e → In (f ∷ Γ) i body → (length us + m.counts.bindings ≤ ring_rows → Wait g sp us m) → Named g ρ (env_of x) m →
        IsVal g u t x m → R g s m →
        Sim g (Made g (length us) m (IsEntered g In)) sp m
        (need (entering body (suc n') (also f u o)) p s λ c. make g.limits c.count p s λ s₁. ok c s₁)
        (and_then (is e m) λ _ i m. pick (leb (suc (length us) + m.counts.bindings) (g.limits).bindings) (λ _.
        let o = bind_all_at (g.script).tree (length us) q (slot sp) m.waiting m.counts.bindings (env_of x) m.bindings in
        is (Value (suc (length us + m.counts.bindings)) i)
        (bind (suc (length us)) (put_binding o.bindings (length us + m.counts.bindings) (binding_behind o.bindings t x o.env)) m))
        λ _. is (E.Stop 23 p) m)
    unfolding need and_then
    again_fit p t x body f unfit a w e v r = no_way r
    again_fit {i = j} {us = us} p t x body f {sp = sp} {m = m} (fit z e' s') a w e v r =
        rw e' (sim_within _ _ _ _ (room_is (suc (length us)) _ _ (g.limits).bindings r.bindings) r λ h.
        let l : suc (length us) + m.counts.bindings ≤ (g.limits).bindings =
        leb→le _ _ ((room_is (suc (length us)) _ _ (g.limits).bindings r.bindings).0 h) in
        let y = bind_each z (length us + m.counts.bindings) (2 * (g.limits).bindings) (w (omega (arith, r.roomy.few_bindings))) e refl
        (omega (arith, r.roomy.bindings_fit, r.bindings_kept.long)) (omega (arith, r.roomy.few_bindings)) (omega arith) in
        let o : Old m.bindings m.counts.bindings (put_binding _ (length us + m.counts.bindings) _) =
        λ j h. old_more _ _ _ j (omega arith) ∙ y.old j h in
        goes
        (record {
          it = record {
            in_env = env_more _ (keep v (omega arith) y.old) y.env'
                (omega (arith, r.roomy.bindings_fit, r.bindings_kept.long, y.kept.long)) (omega (arith, r.roomy.few_bindings)) (omega arith);
            body_in = subst (λ (Γ : List Name). In (f ∷ Γ) j body) (sym s') a;
          };
          made = omega arith;
        })
        (r_bind r (suc (length us)) _ o (kept_then y.kept (kept_binding _ _ _ (omega arith))) l)
        (record { more = omega arith; old = o; waits = λ k s h. refl; fell = le_refl _ }))

    -- values that wait, n of them by the machine's count, are bound to parameters
    enter_sim : (p t n : ℕ) (body : B) {q i : ℕ} {xs : List ArgP} {us : List Val} {ρ : Env} {env sp : ℕ} {s : State} {m₀ m : Tables} →
        AtParams g.script q xs i → In (extended (param_names xs) (scope ρ)) i body →
        Waiting g m₀ sp 0 us t n m → Named g ρ env m → R g s m →
        Sim g (Made g (length us) m (IsEntered g In)) sp m
        (need (entering body (length (param_names xs)) (bind_all (param_names xs) us ρ)) p s λ c. make g.limits c.count p s λ s₁. ok c s₁)
        (enter (run_of g) p n (slot sp) q env m)
    unfolding enter need and_then
    enter_sim p t n body {xs = xs} {us = us} {ρ = ρ} a at w e r =
        rw (same_count (length us) n w.count) (enter_fit p body (fit_is a us ρ) at w.all e r)

    again_sim : (p t n k x : ℕ) (body : B) (f : Name) {q i : ℕ} {xs : List ArgP} {us : List Val} {u : Val} {ρ : Env} {sp : ℕ} {s : State} {m₀ m : Tables} →
        AtParams g.script q xs i → In (f ∷ extended (param_names xs) (scope ρ)) i body →
        Waiting g m₀ sp 0 us t n m → Named g ρ (env_of x) m → IsVal g u k x m → R g s m →
        Sim g (Made g (length us) m (IsEntered g In)) sp m
        (need (entering body (suc (length (param_names xs))) (also f u (bind_all (param_names xs) us ρ))) p s λ c.
        make g.limits c.count p s λ s₁. ok c s₁)
        (enter_again (run_of g) p n (slot sp) q k x m)
    unfolding enter_again need and_then
    again_sim p t n k x body f {xs = xs} {us = us} {ρ = ρ} a at w e v r =
        rw (same_count (length us) n w.count) (again_fit p k x body f (fit_is a us ρ) at w.all e v r)

  -- ---- closures are opened

  pub procedure_sim : (p k n : ℕ) {t x : ℕ} {u : Val} {us : List Val} {sp : ℕ} {s : State} {m₀ m : Tables} → IsVal g u t x m →
      Waiting g m₀ sp 0 us k n m → R g s m →
      Sim g (Made g (length us) m (IsEntered g (InB g))) sp m (need (open_procedure u us) p s λ c. make g.limits c.count p s λ s₁. ok c s₁)
      (open_procedure_at (run_of g) p n (slot sp) t x m)
  unfolding open_procedure_at pick need
  procedure_sim p k n (v_num x) w r = no_way r
  procedure_sim p k n (v_fun a b e) w r = no_way r
  procedure_sim p k n (v_rec a b e) w r = no_way r
  procedure_sim p k n (v_proc a b e) w r = enter_sim p k n _ a b w e r
  procedure_sim p k n (v_proc_rec a b e) w r = again_sim p k n _ _ _ _ a b w e (v_proc_rec a b e) r
  procedure_sim p k n v_adr w r = no_way r
  procedure_sim p k n (v_block x) w r = no_way r

  pub function_sim : (p k n : ℕ) {t x : ℕ} {u : Val} {us : List Val} {sp : ℕ} {s : State} {m₀ m : Tables} → IsVal g u t x m →
      Waiting g m₀ sp 0 us k n m → R g s m →
      Sim g (Made g (length us) m (IsEntered g (InBody g))) sp m (need (open_function u us) p s λ c. make g.limits c.count p s λ s₁. ok c s₁)
      (open_function_at (run_of g) p n (slot sp) t x m)
  unfolding open_function_at open_procedure_at pick need
  function_sim p k n (v_num x) w r = no_way r
  function_sim p k n (v_fun {e = c} a b e) w r = enter_sim p k n (an_expr c) a b w e r
  function_sim p k n (v_rec {e = c} a b e) w r = again_sim p k n _ _ (an_expr c) _ a b w e (v_rec a b e) r
  function_sim p k n (v_proc {a = c} a b e) w r = enter_sim p k n (a_block c) a b w e r
  function_sim p k n (v_proc_rec {a = c} a b e) w r = again_sim p k n _ _ (a_block c) _ a b w e (v_proc_rec a b e) r
  function_sim p k n v_adr w r = no_way r
  function_sim p k n (v_block x) w r = no_way r

-- what is entered, and then the rest
within_bind : {A B : Type 0} (b : Bool) (l : LimitStop) (p : ℕ) (s : State) (o : Outcome A) (k : A → State → Outcome B) →
    within b l p s (Rules.bind o k) ≡ Rules.bind (within b l p s o) k
unfolding within Rules.bind
within_bind true l p s o k = refl
within_bind false l p s o k = refl

opened_bind : {A B : Type 0} (L : Limits) (o : Option (Entered A)) (p : ℕ) (s : State) (k : Entered A → State → Outcome B) →
    need o p s (λ c. make L c.count p s λ s₁. k c s₁) ≡ Rules.bind (need o p s λ c. make L c.count p s λ s₁. ok c s₁) k
unfolding need Rules.bind
opened_bind L none p s k = refl
opened_bind L (some c) p s k = within_bind (leb (c.count + s.bindings) L.bindings) BINDINGS p s (ok c (take_bindings c.count s)) k

module _ {g : Stage} {A B : Type 0} {P : Entered A → (t x : ℕ) → Tables → Type 0} {Q C : B → (t x : ℕ) → Tables → Type 0} where
  pub sim_open : (o : Option (Entered A)) (p : ℕ) (s : State) {sp : ℕ} {m : Tables} {r : Ret} (k : Entered A → State → Outcome B) {k' : ℕ → ℕ → Tables → Ret} →
      Sim g P sp m (need o p s λ c. make g.limits c.count p s λ s₁. ok c s₁) r →
      ((c : Entered A) (s₁ : State) (t x : ℕ) (m₁ : Tables) → P c t x m₁ → R g s₁ m₁ → Grow g sp m m₁ → Sims g Q C sp m₁ (k c s₁) (k' t x m₁)) →
      Sims g Q C sp m (need o p s λ c. make g.limits c.count p s λ s₁. k c s₁) (and_then r k')
  sim_open o p s {sp} {m} {r} k {k'} h f =
      subst (λ (y : Outcome B). Sims g Q C sp m y (and_then r k')) (sym (opened_bind g.limits o p s k)) (sim_bind h f)
