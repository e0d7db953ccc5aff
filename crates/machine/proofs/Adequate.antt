-- The machine does what the rules do, at every depth: by induction on the levels left.
use mathlib.Core.Path.{◌≡◌, sym, subst}
use mathlib.Core.List.{List}
use mathlib.Core.Option.{none, some}
use Prim.Native.Nat.{ℕ, zero, suc, ◌<◌}
use native.Mathlib.Nat.{le_refl, not-suc-le-zero}
use native.Mathlib.Omega.{arith}
use lib.Dec.{eqb→eq}
use Rattle.language.specs.Syntax.{Name, Cmds, Def, Stat}
use Rattle.language.specs.Answers.{DEPTH, limit}
use Rattle.language.specs.Places.{place_def, place_stat}
use Rattle.language.specs.Rules.{Env, State, Returned, stop, Outcome, ok, halt, enter, Level, cmds, bottom, level}
use Rattle.nodes.specs.Trees.{kind, next, AtCs, at_last, at_def_then, at_stat_then, AtD, at_const, at_fun, at_fun_rec, at_fun_block, at_fun_rec_block, at_var, at_proc, at_proc_rec, AtS, at_echo, at_set, at_if_stat, at_while, at_call, at_return}
use Rattle.nodes.proofs.Laws.{expr_place, arg_place, def_there, stat_there}
use Rattle.machine.specs.Entries.{pick}
use Rattle.machine.specs.Codes.{CodedCs}
use Rattle.machine.specs.State.{Tables}
use Rattle.machine.specs.Machine.{Evaluators, rounds, cmd_in, step, evaluators}
use Rattle.machine.specs.Machine as M
use Rattle.machine.proofs.Relation.{Stage, run_of, slot, R, Sims, Sim, goes, Spent, IsEnv, IsDone, IsBack, Ran, Here, Adeq, AdeqC, node, scope}
use Rattle.machine.proofs.Agree.{grow_self, sim_yes, sim_no, sim_bind, sim_end, sim_unless}
use Rattle.machine.proofs.States.{sim_guard, sim_deep}
use Rattle.machine.proofs.Rounds.{rounds_step}
use Rattle.machine.proofs.Expressions.{onward, inside, expr_sim, arg_sim}
use Rattle.machine.proofs.Commands.{def_sim, stat_sim}

module _ {g : Stage} where
  -- ---- commands one after the other

  last_sim : (d : ℕ) (S : Evaluators) (k env i : ℕ) (u : Returned) (e t x : ℕ) {sp : ℕ} {s : State} {m : Tables} → IsDone e u t x m → m.counts.units < k → i ≡ 0 → R g s m →
      Sims g Ran (IsBack g) sp m (ok u s) (M.cmds (run_of g) k d S env (slot sp) i m)
  unfolding M.cmds
  last_sim d S zero env i u e₀ t x v c e r = absurd (not-suc-le-zero c)
  last_sim d S (suc k) env i none e₀ t x v c e r = rw e (sim_yes _ _ tt (goes tt r grow_self))
  last_sim d S (suc k) env i (some u) e₀ t x v c e r = absurd v

  module _ {d : ℕ} {l : Level} {S : Evaluators} where
    cmds_sim : AdeqC g d l S → {i : ℕ} {cs : Cmds} → AtCs g.script i cs → (k : ℕ) {ρ : Env} {env sp : ℕ} {s : State} {m : Tables} → CodedCs g.script g.codes (scope ρ) i cs → m.counts.units < k →
        Here g ρ env s m → Sims g Ran (IsBack g) sp m (cmds l cs ρ s) (M.cmds (run_of g) k d S env (slot sp) i m)
    unfolding M.cmds
    cmds_sim h a zero q c x = absurd (not-suc-le-zero c)
    cmds_sim h (at_last a e) (suc k) q c x =
        sim_no _ _ (λ t. stat_there a (eqb→eq _ _ t)) (sim_end (h.on_s (record { at = a; coded = q }) x) λ u s₁ t y m₁ v r₁ gr. last_sim d S k y _ u _ t y v.it (omega (arith, v.less)) e r₁)
    cmds_sim h (at_def_then {i = i} {cs = cs} a b) (suc k) q c x =
        sim_no _ _ (λ t. def_there a (eqb→eq _ _ t)) (sim_bind (h.on_d (record { at = a; coded = q.0 }) x) λ ρ₁ s₁ t y m₁ v r₁ gr.
        cmds_sim h {i = next g.script i} b k (subst (λ (Γ : List Name). CodedCs g.script g.codes Γ (next g.script i) cs) (sym v.it.scope_is) q.1) (omega (arith, v.less))
        (record { names' = v.it.named; st = r₁ }))
    cmds_sim h (at_stat_then {i = i} a b) (suc k) q c x =
        sim_no _ _ (λ t. stat_there a (eqb→eq _ _ t)) (sim_unless (λ w t x m p. p.it) (h.on_s (record { at = a; coded = q.0 }) x) λ s₁ t y m₁ v r₁ gr.
        rw v.it (cmds_sim h {i = next g.script i} b k q.1 (omega (arith, v.less)) (onward x r₁ gr)))

  -- ---- no level left

  deep_kind : {A : Type 0} {P B : A → (t x : ℕ) → Tables → Type 0} (k i env : ℕ) {o : Outcome A} {sp : ℕ} {m : Tables} → kind g.script i ≡ k →
      Sims g P B sp m o (cmd_in (run_of g) k zero (M.bottom (run_of g)) env (slot sp) (node g i) m) →
      Sims g P B sp m o (cmd_in (run_of g) (kind g.script i) zero (M.bottom (run_of g)) env (slot sp) (node g i) m)
  deep_kind {P = P} {B = B} k i env {o} {sp} {m} e f =
      subst (λ (j : ℕ). Sims g P B sp m o (cmd_in (run_of g) j zero (M.bottom (run_of g)) env (slot sp) (node g i) m)) (sym e) f

  deep_def : (env : ℕ) (Γ : List Name) {i : ℕ} {c : Def} {sp : ℕ} {s : State} {m : Tables} → AtD g.script i c → R g s m →
      Sim g (Spent g m (IsEnv g Γ)) sp m (enter g.limits (place_def c) s λ s₁. halt (stop (limit DEPTH)) (place_def c) s₁)
      (cmd_in (run_of g) (kind g.script i) zero (M.bottom (run_of g)) env (slot sp) (node g i) m)
  unfolding cmd_in pick
  deep_def env Γ (at_const k n a e z) r = deep_kind 2 _ _ k.kind_is (sim_deep _ _ r)
  deep_def env Γ (at_fun k n a ps e z) r = deep_kind 3 _ _ k.kind_is (sim_deep _ _ r)
  deep_def env Γ (at_fun_rec k n a ps e z) r = deep_kind 4 _ _ k.kind_is (sim_deep _ _ r)
  deep_def env Γ (at_fun_block k n a ps y b z) r = deep_kind 32 _ _ k.kind_is (sim_deep _ _ r)
  deep_def env Γ (at_fun_rec_block k n a ps y b z) r = deep_kind 33 _ _ k.kind_is (sim_deep _ _ r)
  deep_def env Γ (at_var k n a z) r = deep_kind 5 _ _ k.kind_is (sim_deep _ _ r)
  deep_def env Γ (at_proc k n ps y b z) r = deep_kind 6 _ _ k.kind_is (sim_deep _ _ r)
  deep_def env Γ (at_proc_rec k n ps y b z) r = deep_kind 7 _ _ k.kind_is (sim_deep _ _ r)

  deep_rounds : (i env : ℕ) {A : Type 0} {P B : A → (t x : ℕ) → Tables → Type 0} {sp : ℕ} {s : State} {m : Tables} → R g s m →
      Sims g P B sp m (enter g.limits (node g i).place s λ s₁. halt (stop (limit DEPTH)) (node g i).place s₁)
      (rounds (run_of g) (suc m.counts.units) zero (M.bottom (run_of g)) env (slot sp) (node g i) m)
  deep_rounds i env {sp = sp} {m = m} r =
      rw (rounds_step (run_of g) zero (M.bottom (run_of g)) env (slot sp) (node g i) m.counts.units m) (sim_deep _ _ r)

  deep_stat : {i : ℕ} {c : Stat} {env sp : ℕ} {s : State} {m : Tables} → AtS g.script i c → R g s m →
      Sims g (Spent g m (IsDone env)) (IsBack g) sp m (enter g.limits (place_stat c) s λ s₁. halt (stop (limit DEPTH)) (place_stat c) s₁)
      (cmd_in (run_of g) (kind g.script i) zero (M.bottom (run_of g)) env (slot sp) (node g i) m)
  unfolding cmd_in pick
  deep_stat (at_echo k e z) r = deep_kind 8 _ _ k.kind_is (sim_deep _ _ r)
  deep_stat (at_set k n e z) r = deep_kind 9 _ _ k.kind_is (sim_deep _ _ r)
  deep_stat (at_if_stat k e y a y' b z) r = deep_kind 10 _ _ k.kind_is (sim_deep _ _ r)
  deep_stat (at_while k e y b z) r = deep_kind 11 _ _ k.kind_is (deep_rounds _ _ r)
  deep_stat (at_call k n as') r = deep_kind 12 _ _ k.kind_is (sim_deep _ _ r)
  deep_stat (at_return k e z) r = deep_kind 31 _ _ k.kind_is (sim_deep _ _ r)

  -- ---- every depth, every node, every environment, every related state

  pub adequate : (d : ℕ) → Adeq g (level g.limits d) (evaluators (run_of g) d)
  unfolding level evaluators step
  adequate zero =
      record {
        on_e = λ a x. rw (expr_place a.at) (sim_deep _ _ x.st);
        on_a = λ a x. rw (arg_place a.at) (sim_deep _ _ x.st);
        on_c = λ a x. cmds_sim {l = level g.limits zero} (record { on_d = λ b y. deep_def _ _ b.at y.st; on_s = λ b y. deep_stat b.at y.st }) a.at _ a.coded (le_refl _) x;
      }
  adequate (suc d) =
      let h = adequate d in
      record {
        on_e = λ a x. rw (expr_place a.at) (sim_guard d _ _ x.st λ r. expr_sim h a.at a.coded (inside x r));
        on_a = λ a x. rw (arg_place a.at) (sim_guard d _ _ x.st λ r. arg_sim h a.at a.coded (inside x r));
        on_c = λ a x. cmds_sim {l = level g.limits (suc d)} (record { on_d = λ b y. def_sim d h b.at b.coded y; on_s = λ b y. stat_sim d h b.at b.coded y }) a.at _ a.coded (le_refl _) x;
      }
