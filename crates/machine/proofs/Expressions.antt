-- Expressions: one law for each form.
use mathlib.Core.Path.{◌≡◌, refl, sym, ◌∙◌, subst}
use mathlib.Core.Logic.{◌≢◌}
use mathlib.Core.List.{List, [], ◌∷◌}
use mathlib.Core.Option.{Option, none, some}
use Prim.Native.Nat.{ℕ, zero, suc, ◌+◌, ◌<◌}
use native.Mathlib.Nat.{le_refl, not-suc-le-zero}
use native.Mathlib.Omega.{arith}
use lib.Dec.{T, eqb, eqb→eq}
use lib.ListN.{length}
use mir.Syntax.{w64}
use mir.Val.{of_z}
use Rattle.language.specs.Syntax.{Expr, if_expr, and, or, alloc, nth_expr, len, vset, Exprs, ExprP, Block, TypeTree}
use Rattle.language.specs.Names.{Op, operator, head_operator}
use Rattle.language.specs.Rules.{Val, in_z, Env, State, Outcome, ok, bind, Level, exprs, args, Body, an_expr, a_block, in_block, in_body, need, apply_rule, expr_rule, arg_rule, open_function, Returned}
use Rattle.nodes.specs.Names.{meaning_no}
use Rattle.nodes.specs.Written.{Numeral, number_at}
use Rattle.nodes.specs.Trees.{Script, kind, place, child, next, AtE, at_num, at_name, at_if, at_and, at_or, at_app, at_abs, at_alloc, at_nth, at_len, at_vset, AtEs, at_one_expr, at_more_exprs, AtA, at_val, at_adr, AtAs, at_no_arg, at_more_args, AtB, at_block}
use Rattle.nodes.proofs.Laws.{expr_there, exprs_there, arg_there}
use Rattle.machine.specs.declared.Ending.TheVariants.{Value}
use Rattle.machine.specs.Entries.{pick, number_tag, done_tag, ring_rows}
use Rattle.machine.specs.Codes.{operator_no, CodedE, CodedEs, CodedA, CodedAs, CodedB}
use Rattle.machine.specs.State.{Tables, Ret, is, caught, spend, push}
use Rattle.machine.specs.Machine.{Evaluators, all_args, if_e, and_e, or_e, operator_e, body_e, call_e, apply_e, alloc_e, nth_e, len_e, vset_e, expr_by}
use Rattle.machine.specs.Machine as M
use Rattle.machine.proofs.Entries.{row_own, row_other, place_small, child_small}
use Rattle.machine.proofs.Relation.{Stage, run_of, slot, v_num, w_none, w_more, R, Grow, Sims, Sim, goes, returns, stops, unset, no_way, IsVal, IsBack, Ran, InB, InBody, Some, Waiting, Here, Adeq, node, code, scope, InE, InEs, InAs}
use Rattle.machine.proofs.Agree.{keep, grow_self, sim_lift, relax, some_sim, making, sim_yes, sim_no, sim_bind, sim_each, sim_call, sim_stuck, sim_map, sim_ok, sim_after, bind_ok, sim_bit}
use Rattle.machine.proofs.States.{r_push}
use Rattle.machine.proofs.Closures.{function_value}
use Rattle.machine.proofs.Enter.{after_slot, function_sim, sim_open}
use Rattle.machine.proofs.Operate.{in_range_fits, number_val, unary_sim, binary_sim, more_stuck}
use Rattle.machine.proofs.Names.{address_sim, name_sim, operator_number}
use Rattle.machine.proofs.Blocks.{nth_sim, vset_sim, len_sim, alloc_sim}

other_slot : (k top : ℕ) → k < top → top < k + ring_rows → slot k ≢ slot top
other_slot k top h l = omega arith

zero_is : {i : ℕ} → i ≡ 0 → T (eqb i 0)
zero_is e = subst (λ (j : ℕ). T (eqb j 0)) (sym e) tt

-- an expression is no block
no_block : {g : Script} {i : ℕ} {e : Expr} → AtE g i e → kind g i ≡ 1 → ⊥
no_block (at_num k n) e = omega (arith, k.kind_is, e)
no_block (at_name k) e = omega (arith, k.kind_is, e)
no_block (at_if k a b c z) e = omega (arith, k.kind_is, e)
no_block (at_and k a b z) e = omega (arith, k.kind_is, e)
no_block (at_or k a b z) e = omega (arith, k.kind_is, e)
no_block (at_app k f as') e = omega (arith, k.kind_is, e)
no_block (at_abs k ps a z) e = omega (arith, k.kind_is, e)
no_block (at_alloc k t a z) e = omega (arith, k.kind_is, e)
no_block (at_nth k a b z) e = omega (arith, k.kind_is, e)
no_block (at_len k a z) e = omega (arith, k.kind_is, e)
no_block (at_vset k a b c z) e = omega (arith, k.kind_is, e)

is_block : {g : Script} {i : ℕ} {b : Block} → AtB g i b → T (eqb (kind g i) 1)
is_block (at_block k a) = subst (λ (j : ℕ). T (eqb j 1)) (sym k) tt

module _ {g : Stage} where
  -- what was there is there further on
  pub onward : {ρ : Env} {env sp : ℕ} {s s₁ : State} {m m₁ : Tables} → Here g ρ env s m → R g s₁ m₁ → Grow g sp m m₁ → Here g ρ env s₁ m₁
  onward h r a = record { names' = keep h.names' a.more a.old; st = r }

  -- a unit is taken
  pub inside : {ρ : Env} {env : ℕ} {s s₁ : State} {m : Tables} → Here g ρ env s m → R g s₁ (spend m) → Here g ρ env s₁ (spend m)
  inside h r = record { names' = h.names'; st = r }

  -- ---- bodies

  -- what a block returned is its value
  caught_sim : (p : ℕ) {sp : ℕ} {m : Tables} {o : Outcome Returned} {r : Ret} → Sims g Ran (IsBack g) sp m o r →
      Sim g (IsVal g) sp m (bind o λ u s₁. need u p s₁ λ v. ok v s₁) (is (caught r.ending) r.after)
  unfolding bind need
  caught_sim p (goes {a = none} q s a) = no_way s
  caught_sim p (goes {a = some v} q s a) = absurd q
  caught_sim p (returns {a = none} b s a) = absurd b
  caught_sim p (returns {a = some v} b s a) = goes b s a
  caught_sim p (stops w s) = stops w s
  caught_sim p (unset s) = unset s
  caught_sim p (no_way s) = no_way s

  -- ---- values wait

  -- into its own row of the ring
  pushing : (top t x : ℕ) (m : Tables) → Grow g 0 m (push (slot top) t x m)
  pushing top t x m = record { more = le_refl _; old = λ k h. refl; waits = λ k s h. absurd (not-suc-le-zero s); fell = le_refl _ }

  waits_on : {u : Val} {us : List Val} {s : State} (n top t x k j : ℕ) {m m₁ m₂ : Tables} → IsVal g u t x m₁ → R g s m₁ → Grow g top m m₁ →
      Grow g 0 (push (slot top) t x m₁) m₂ → Waiting g (push (slot top) t x m₁) (suc top) (suc n) us k j m₂ → Waiting g m top n (u ∷ us) k j m₂
  waits_on n top t x k j {m₁ = m₁} v r gr a w =
      record {
        count = omega (arith, w.count);
        all = λ l. w_more (w.keeps top (le_refl _) (omega arith) ∙ row_own _ _ _ _ (omega arith) (omega (arith, r.roomy.waiting_fit, r.waiting_kept.long)))
            (keep v a.more a.old) (w.all (omega arith));
        keeps = λ i h l. w.keeps i (omega arith) (omega (arith, gr.more)) ∙
            (row_other m₁.waiting (slot top) t x (slot i) (other_slot i top h (omega (arith, gr.more, a.more))) ∙ gr.waits i h (omega (arith, a.more)));
      }

  -- one value more waits
  wait_sim : (n top t x : ℕ) {u : Val} {s : State} {m m₁ : Tables} {o : Outcome (List Val)} {y : Ret} → IsVal g u t x m₁ → R g s m₁ → Grow g top m m₁ →
      Sim g (Waiting g (push (slot top) t x m₁) (suc top) (suc n)) 0 (push (slot top) t x m₁) o y →
      Sim g (Some g (Waiting g m top n)) 0 m₁ (bind o λ us s. ok (u ∷ us) s) y
  wait_sim n top t x {u} {m₁ = m₁} v r gr f =
      sim_lift (pushing top t x m₁) (sim_map (λ us. u ∷ us) f λ us k j m₂ w a. record { it = waits_on n top t x k j v r gr a w; some = omega arith })

  one_sim : {P : List Val → (t x : ℕ) → Tables → Type 0} {u : Val} {s : State} {sp : ℕ} {m : Tables} {r : Ret} →
      Sim g P sp m (bind (ok [] s) λ us s. ok (u ∷ us) s) r →
      Sim g P sp m (ok (u ∷ []) s) r
  unfolding bind
  one_sim h = h

  no_value : {s : State} (m : Tables) (top n : ℕ) → R g s m → Sim g (Waiting g m top n) 0 m (ok [] s) (is (Value done_tag n) m)
  no_value m top n r = goes {a = []} {x = n} (record { count = omega arith; all = λ l. w_none; keeps = λ k h l. refl }) r grow_self

  no_more : (S : Evaluators) (k env top n i : ℕ) {s : State} {m : Tables} → m.counts.units < k → i ≡ 0 → R g s m →
      Sim g (Waiting g m top n) 0 m (ok [] s) (M.args (run_of g) k S env (slot top) n i m)
  unfolding M.args
  no_more S zero env top n i c e r = absurd (not-suc-le-zero c)
  no_more S (suc k) env top n i c e r = rw e (sim_yes _ _ tt (no_value _ top n r))

  module _ {l : Level} {S : Evaluators} (h : Adeq g l S) where
    exprs_sim : {i : ℕ} {es : Exprs} → AtEs g.script i es → (k n top : ℕ) {ρ : Env} {env : ℕ} {s : State} {m : Tables} → CodedEs g.script g.codes (scope ρ) i es →
        m.counts.units < k → Here g ρ env s m → Sim g (Some g (Waiting g m top n)) 0 m (exprs l es ρ s) (M.args (run_of g) k S env (slot top) n i m)
    unfolding M.args
    exprs_sim a zero n top q c x = absurd (not-suc-le-zero c)
    exprs_sim (at_one_expr {i = i} a z) (suc k) n top {env = env} q c x =
        sim_no _ _ (λ t. expr_there a (eqb→eq _ _ t)) (sim_each (h.on_e {sp = top} (record { at = a; coded = q }) x) λ u s₁ t y m₁ v r₁ gr.
        rw (after_slot top) (one_sim (wait_sim n top t y v.it r₁ gr
        (no_more S k env (suc top) (suc n) (next g.script i) (omega (arith, v.less)) z (r_push r₁ (slot top) t y (omega arith))))))
    exprs_sim (at_more_exprs {i = i} a as') (suc k) n top {env = env} q c x =
        sim_no _ _ (λ t. expr_there a (eqb→eq _ _ t)) (sim_each (h.on_e {sp = top} (record { at = a; coded = q.0 }) x) λ u s₁ t y m₁ v r₁ gr.
        rw (after_slot top) (wait_sim n top t y v.it r₁ gr
        (some_sim (exprs_sim {i = next g.script i} as' k (suc n) (suc top) q.1 (omega (arith, v.less)) (onward (onward x r₁ gr) (r_push r₁ (slot top) t y (omega arith)) (pushing top t y m₁))))))

    args_sim : {i : ℕ} {es : List ExprP} → AtAs g.script i es → (k n top : ℕ) {ρ : Env} {env : ℕ} {s : State} {m : Tables} → CodedAs g.script g.codes (scope ρ) i es →
        m.counts.units < k → Here g ρ env s m → Sim g (Waiting g m top n) 0 m (args l es ρ s) (M.args (run_of g) k S env (slot top) n i m)
    unfolding M.args
    args_sim a zero n top q c x = absurd (not-suc-le-zero c)
    args_sim at_no_arg (suc k) n top q c x = sim_yes _ _ tt (no_value _ top n x.st)
    args_sim (at_more_args {i = i} a as') (suc k) n top {env = env} q c x =
        sim_no _ _ (λ t. arg_there a (eqb→eq _ _ t)) (sim_each (h.on_a {sp = top} (record { at = a; coded = q.0 }) x) λ u s₁ t y m₁ v r₁ gr.
        rw (after_slot top) (some_sim (wait_sim n top t y v.it r₁ gr
        (args_sim {i = next g.script i} as' k (suc n) (suc top) q.1 (omega (arith, v.less)) (onward (onward x r₁ gr) (r_push r₁ (slot top) t y (omega arith)) (pushing top t y m₁))))))

    -- all arguments of an application, and of a CALL
    all_exprs : {i : ℕ} {es : Exprs} {ρ : Env} {env : ℕ} (sp : ℕ) {s : State} {m : Tables} → InEs g (scope ρ) i es → Here g ρ env s m →
        Sim g (Some g (Waiting g m sp 0)) 0 m (exprs l es ρ s) (all_args (run_of g) S env (slot sp) i m)
    unfolding all_args
    all_exprs sp a x = exprs_sim a.at _ 0 sp a.coded (le_refl _) x

    pub all_args_lem : {i : ℕ} {es : List ExprP} {ρ : Env} {env : ℕ} (sp : ℕ) {s : State} {m : Tables} → InAs g (scope ρ) i es → Here g ρ env s m →
        Sim g (Waiting g m sp 0) 0 m (args l es ρ s) (all_args (run_of g) S env (slot sp) i m)
    unfolding all_args
    all_args_lem sp a x = args_sim a.at _ 0 sp a.coded (le_refl _) x

    -- ---- the forms

    if_sim : (i : ℕ) {a b c : Expr} {ρ : Env} {env sp : ℕ} {s : State} {m : Tables} → InE g (scope ρ) (child g.script i) a →
        InE g (scope ρ) (next g.script (child g.script i)) b → InE g (scope ρ) (next g.script (next g.script (child g.script i))) c → Here g ρ env s m →
        Sim g (IsVal g) sp m (expr_rule g.limits l (if_expr (place g.script i) a b c) ρ s) (if_e (run_of g) S env (slot sp) (node g i) m)
    unfolding if_e
    if_sim i a b c x = sim_bind (h.on_e a x) λ u s₁ t y m₁ v r₁ gr. sim_bit _ v.it r₁ (relax (h.on_e b (onward x r₁ gr))) (relax (h.on_e c (onward x r₁ gr)))

    and_sim : (i : ℕ) {a b : Expr} {ρ : Env} {env sp : ℕ} {s : State} {m : Tables} → InE g (scope ρ) (child g.script i) a →
        InE g (scope ρ) (next g.script (child g.script i)) b → Here g ρ env s m →
        Sim g (IsVal g) sp m (expr_rule g.limits l (and (place g.script i) a b) ρ s) (and_e (run_of g) S env (slot sp) (node g i) m)
    unfolding and_e
    and_sim i a b x = sim_bind (h.on_e a x) λ u s₁ t y m₁ v r₁ gr. sim_bit _ v.it r₁ (relax (h.on_e b (onward x r₁ gr))) (goes (v_num 0) r₁ grow_self)

    or_sim : (i : ℕ) {a b : Expr} {ρ : Env} {env sp : ℕ} {s : State} {m : Tables} → InE g (scope ρ) (child g.script i) a →
        InE g (scope ρ) (next g.script (child g.script i)) b → Here g ρ env s m →
        Sim g (IsVal g) sp m (expr_rule g.limits l (or (place g.script i) a b) ρ s) (or_e (run_of g) S env (slot sp) (node g i) m)
    unfolding or_e
    or_sim i a b x = sim_bind (h.on_e a x) λ u s₁ t y m₁ v r₁ gr. sim_bit _ v.it r₁ (goes (v_num 1) r₁ grow_self) (relax (h.on_e b (onward x r₁ gr)))

    -- the first argument, the second, and no third
    operator_sim : (i : ℕ) (f : Op) (e : Expr) {es : Exprs} {ρ : Env} {env sp : ℕ} {s : State} {m : Tables} →
        AtEs g.script (next g.script (child g.script i)) es → CodedEs g.script g.codes (scope ρ) (next g.script (child g.script i)) es → Here g ρ env s m →
        Sim g (IsVal g) sp m (apply_rule g.limits l (some f) (place g.script i) e es ρ s)
        (operator_e (run_of g) (meaning_no (operator f)) S env (slot sp) (node g i) m)
    unfolding operator_e
    operator_sim i f e (at_one_expr a z) q x =
        sim_after _ _ _ (sim_bind (h.on_e (record { at = a; coded = q }) x) λ u s₁ t y m₁ v r₁ gr. sim_ok _ _ _ (sim_yes _ _ (zero_is z) (unary_sim f _ v.it r₁)))
    operator_sim i f e (at_more_exprs a (at_one_expr b z)) q x =
        sim_after _ _ _ (sim_bind (h.on_e (record { at = a; coded = q.0 }) x) λ u s₁ t y m₁ v r₁ gr. sim_no _ _ (λ w. expr_there b (eqb→eq _ _ w))
        (sim_after _ _ _ (sim_after _ _ _ (sim_bind (h.on_e (record { at = b; coded = q.1 }) (onward x r₁ gr)) λ u₂ s₂ t₂ y₂ m₂ v₂ r₂ gr₂.
        sim_ok _ _ _ (sim_ok _ _ _ (sim_yes _ _ (zero_is z) (binary_sim f _ (keep v.it gr₂.more gr₂.old) v₂.it r₂)))))))
    operator_sim i f e {sp = sp} (at_more_exprs a (at_more_exprs b cs)) q x =
        sim_after _ _ _ (sim_bind (h.on_e (record { at = a; coded = q.0 }) x) λ u s₁ t y m₁ v r₁ gr. sim_no _ _ (λ w. expr_there b (eqb→eq _ _ w))
        (sim_after _ _ _ (sim_after _ _ _ (sim_bind (h.on_e (record { at = b; coded = q.1.0 }) (onward x r₁ gr)) λ u₂ s₂ t₂ y₂ m₂ v₂ r₂ gr₂.
        sim_no _ _ (λ w. exprs_there cs (eqb→eq _ _ w))
        (sim_after _ _ _ (sim_stuck (all_exprs sp (record { at = cs; coded = q.1.1 }) (onward (onward x r₁ gr) r₂ gr₂)) _ λ us s₃ t₃ n m₃ w.
        bind_ok _ _ _ ∙ (bind_ok _ _ _ ∙ more_stuck f u u₂ us _ s₃ w.some)))))))

    within_block : {i : ℕ} {b : Block} {ρ : Env} {env sp : ℕ} {s : State} {m : Tables} → AtB g.script i b → CodedB g.script g.codes (scope ρ) i b → Here g ρ env s m →
        Sims g Ran (IsBack g) sp m (in_block l b ρ s) (S.block env (slot sp) (child g.script i) m)
    within_block (at_block k a) q x = h.on_c (record { at = a; coded = q }) x

    pub on_block : {i : ℕ} {b : Block} {ρ : Env} {env sp : ℕ} {s : State} {m : Tables} → InB g (scope ρ) i b → Here g ρ env s m →
        Sims g Ran (IsBack g) sp m (in_block l b ρ s) (S.block env (slot sp) (child g.script i) m)
    on_block a x = within_block a.at a.coded x

    -- what a body comes to
    body_sim : (b : Body) (p i : ℕ) {ρ : Env} {env sp : ℕ} {s : State} {m : Tables} → InBody g (scope ρ) i b → Here g ρ env s m →
        Sim g (IsVal g) sp m (in_body l b ρ p s) (body_e (run_of g) S env (slot sp) i m)
    unfolding body_e
    body_sim (an_expr e) p i a x = sim_no _ _ (λ t. no_block a.at (eqb→eq _ _ t)) (relax (h.on_e a x))
    body_sim (a_block b) p i a x = sim_yes _ _ (is_block a.at) (caught_sim p (on_block a x))

    call_sim : (i : ℕ) {f : Expr} {es : Exprs} {ρ : Env} {env sp : ℕ} {s : State} {m : Tables} → InE g (scope ρ) (child g.script i) f →
        InEs g (scope ρ) (next g.script (child g.script i)) es → Here g ρ env s m →
        Sim g (IsVal g) sp m (apply_rule g.limits l none (place g.script i) f es ρ s) (call_e (run_of g) S env (slot sp) (node g i) m)
    unfolding call_e
    call_sim i {sp = sp} f a x =
        sim_bind (h.on_e f x) λ u s₁ t y m₁ v r₁ gr.
        sim_call (some_sim (all_exprs sp a (onward x r₁ gr))) λ us s₂ k n m₂ w r₂ gr₂.
        sim_open (open_function u us) _ s₂ (λ c s₃. in_body l c.body c.env (place g.script i) s₃) (function_sim _ k n (keep v.it gr₂.more gr₂.old) w r₂)
        λ c s₃ env₁ j m₃ b r₃ gr₃.
        making (length us) b.made (body_sim c.body _ j b.it.body_in (record { names' = b.it.in_env; st = r₃ }))

    apply_sim : (i : ℕ) (o : Option Op) {f : Expr} {es : Exprs} {ρ : Env} {env sp : ℕ} {s : State} {m : Tables} → InE g (scope ρ) (child g.script i) f →
        InEs g (scope ρ) (next g.script (child g.script i)) es → Here g ρ env s m →
        Sim g (IsVal g) sp m (apply_rule g.limits l o (place g.script i) f es ρ s) (apply_e (run_of g) (operator_no o) S env (slot sp) (node g i) m)
    unfolding apply_e
    apply_sim i none f a x = sim_yes _ _ tt (call_sim i f a x)
    apply_sim i (some o) {f = e} f a x = sim_no _ _ (operator_number o) (operator_sim i o e a.at a.coded x)

    -- blocks of cells

    alloc_expr : (i : ℕ) (y : TypeTree) {a : Expr} {ρ : Env} {env sp : ℕ} {s : State} {m : Tables} → InE g (scope ρ) (next g.script (child g.script i)) a → Here g ρ env s m →
        Sim g (IsVal g) sp m (expr_rule g.limits l (alloc (place g.script i) y a) ρ s) (alloc_e (run_of g) S env (slot sp) (node g i) m)
    unfolding alloc_e
    alloc_expr i y a x = sim_bind (h.on_e a x) λ u s₁ t z m₁ v r₁ gr. alloc_sim _ (place_small (g.script).tree i) v.it r₁

    nth_of : (i : ℕ) {a b : Expr} {ρ : Env} {env sp : ℕ} {s : State} {m : Tables} → InE g (scope ρ) (child g.script i) a →
        InE g (scope ρ) (next g.script (child g.script i)) b → Here g ρ env s m →
        Sim g (IsVal g) sp m (expr_rule g.limits l (nth_expr (place g.script i) a b) ρ s) (nth_e (run_of g) S env (slot sp) (node g i) m)
    unfolding nth_e
    nth_of i a b x =
        sim_bind (h.on_e a x) λ u s₁ t y m₁ v r₁ gr. sim_bind (h.on_e b (onward x r₁ gr)) λ u₂ s₂ t₂ y₂ m₂ v₂ r₂ gr₂.
        nth_sim _ (keep v.it gr₂.more gr₂.old) v₂.it r₂

    len_of : (i : ℕ) {a : Expr} {ρ : Env} {env sp : ℕ} {s : State} {m : Tables} → InE g (scope ρ) (child g.script i) a → Here g ρ env s m →
        Sim g (IsVal g) sp m (expr_rule g.limits l (len (place g.script i) a) ρ s) (len_e (run_of g) S env (slot sp) (node g i) m)
    unfolding len_e
    len_of i a x = sim_bind (h.on_e a x) λ u s₁ t y m₁ v r₁ gr. len_sim _ v.it r₁

    vset_of : (i : ℕ) {a b c : Expr} {ρ : Env} {env sp : ℕ} {s : State} {m : Tables} → InE g (scope ρ) (child g.script i) a →
        InE g (scope ρ) (next g.script (child g.script i)) b → InE g (scope ρ) (next g.script (next g.script (child g.script i))) c → Here g ρ env s m →
        Sim g (IsVal g) sp m (expr_rule g.limits l (vset (place g.script i) a b c) ρ s) (vset_e (run_of g) S env (slot sp) (node g i) m)
    unfolding vset_e
    vset_of i a b c x =
        sim_bind (h.on_e a x) λ u s₁ t y m₁ v r₁ gr. sim_bind (h.on_e b (onward x r₁ gr)) λ u₂ s₂ t₂ y₂ m₂ v₂ r₂ gr₂.
        sim_bind (h.on_e c (onward (onward x r₁ gr) r₂ gr₂)) λ u₃ s₃ t₃ y₃ m₃ v₃ r₃ gr₃.
        vset_sim _ (keep (keep v.it gr₂.more gr₂.old) gr₃.more gr₃.old) (keep v₂.it gr₃.more gr₃.old) v₃.it r₃

    number_sim : (i : ℕ) {ρ : Env} {env sp : ℕ} {s : State} {m : Tables} → Numeral (g.script).text (place g.script i) →
        code g i ≡ of_z w64 (number_at (g.script).text (place g.script i)) → Here g ρ env s m →
        Sim g (IsVal g) sp m (ok (in_z (number_at (g.script).text (place g.script i))) s) (is (Value number_tag (code g i)) m)
    number_sim i n q x = rw q (goes (number_val _ (in_range_fits _ n.ranged)) x.st grow_self)

    -- ---- by kind

    by_kind : (k i env : ℕ) {o : Outcome Val} {sp : ℕ} {m : Tables} → kind g.script i ≡ k → Sim g (IsVal g) sp m o (expr_by (run_of g) k (code g i) S env (slot sp) (node g i) m) →
        Sim g (IsVal g) sp m o (expr_by (run_of g) (kind g.script i) (code g i) S env (slot sp) (node g i) m)
    by_kind k i env {o} {sp} {m} e f = subst (λ (j : ℕ). Sim g (IsVal g) sp m o (expr_by (run_of g) j (code g i) S env (slot sp) (node g i) m)) (sym e) f

    pub expr_sim : {i : ℕ} {e : Expr} {ρ : Env} {env sp : ℕ} {s : State} {m : Tables} → AtE g.script i e → CodedE g.script g.codes (scope ρ) i e → Here g ρ env s m →
        Sim g (IsVal g) sp m (expr_rule g.limits l e ρ s) (expr_by (run_of g) (kind g.script i) (code g i) S env (slot sp) (node g i) m)
    unfolding expr_by pick
    expr_sim (at_num k n) q x = by_kind 18 _ _ k.kind_is (number_sim _ n q x)
    expr_sim (at_name {i = i} k) q x = by_kind 19 _ _ k.kind_is (name_sim (place g.script i) q x.names' x.st)
    expr_sim (at_if k a b c z) q x =
        by_kind 20 _ _ k.kind_is (if_sim _ (record { at = a; coded = q.0 }) (record { at = b; coded = q.1 }) (record { at = c; coded = q.2 }) x)
    expr_sim (at_and k a b z) q x = by_kind 21 _ _ k.kind_is (and_sim _ (record { at = a; coded = q.0 }) (record { at = b; coded = q.1 }) x)
    expr_sim (at_or k a b z) q x = by_kind 22 _ _ k.kind_is (or_sim _ (record { at = a; coded = q.0 }) (record { at = b; coded = q.1 }) x)
    expr_sim (at_app {i = i} {f = e} k f as') q x =
        by_kind 23 _ _ k.kind_is (rw q.0 (apply_sim _ (head_operator e) (record { at = f; coded = q.1 }) (record { at = as'; coded = q.2 }) x))
    expr_sim (at_abs {i = i} {j = j} k ps a z) q x =
        by_kind 24 _ _ k.kind_is
        (goes (function_value x.names' x.st _ (child_small (g.script).tree i) ps (record { at = a; coded = q j ps })) x.st grow_self)
    expr_sim (at_alloc {t = y} k t a z) q x = by_kind 27 _ _ k.kind_is (alloc_expr _ y (record { at = a; coded = q }) x)
    expr_sim (at_nth k a b z) q x = by_kind 28 _ _ k.kind_is (nth_of _ (record { at = a; coded = q.0 }) (record { at = b; coded = q.1 }) x)
    expr_sim (at_len k a z) q x = by_kind 29 _ _ k.kind_is (len_of _ (record { at = a; coded = q }) x)
    expr_sim (at_vset k a b c z) q x =
        by_kind 30 _ _ k.kind_is (vset_of _ (record { at = a; coded = q.0 }) (record { at = b; coded = q.1 }) (record { at = c; coded = q.2 }) x)

    pub arg_sim : {i : ℕ} {a : ExprP} {ρ : Env} {env sp : ℕ} {s : State} {m : Tables} → AtA g.script i a → CodedA g.script g.codes (scope ρ) i a → Here g ρ env s m →
        Sim g (IsVal g) sp m (arg_rule g.limits l a ρ s) (expr_by (run_of g) (kind g.script i) (code g i) S env (slot sp) (node g i) m)
    unfolding expr_by pick
    arg_sim (at_val a) q x = expr_sim a q x
    arg_sim (at_adr k y z) q x = by_kind 25 _ _ k.kind_is (address_sim _ q x.names' x.st)
