-- A closure's word stands for the closure: its parameters' or its name's node, and the environment of its definition.
use mathlib.Core.List.{List, ◌∷◌}
use mathlib.Core.Path.{◌≡◌, sym, ap, subst}
use mathlib.Core.Bool.{Bool, true, false}
use Prim.Native.Nat.{ℕ, ◌<◌}
use native.Mathlib.Omega.{arith}
use Rattle.language.specs.Syntax.{Name, ArgP, Expr, Block, TypeTree}
use Rattle.language.specs.Types.{param_names}
use Rattle.language.specs.Rules.{in_f, in_fr, in_p, in_pr, Env, State}
use Rattle.nodes.specs.Trees.{Script, kind, next, AtType, at_bool, at_int, at_arrow, at_vec, at_val_param, at_var_param, AtParams, at_no_param, at_more_params, AtB, at_block}
use Rattle.machine.specs.Entries.{function_tag, recursive_function_tag, procedure_tag, recursive_procedure_tag, closure_word, node_of, env_of, pick}
use Rattle.machine.specs.Codes.{extended}
use Rattle.machine.specs.Leaves.{is_type, behind_type}
use Rattle.machine.specs.State.{Tables}
use Rattle.machine.proofs.Entries.{closure_node, closure_env}
use Rattle.machine.proofs.Relation.{Stage, v_fun, v_rec, v_proc, v_proc_rec, R, Named, IsVal, scope, InE, InB}
use Rattle.machine.proofs.Agree.{env_in}

-- ---- what stands before a closure's parameters

skips : (g : Script) (q : ℕ) (b : Bool) → is_type (kind g q) ≡ b → behind_type g.tree q ≡ pick b (λ _. next g q) λ _. q
unfolding behind_type
skips g q b e = ap (λ (c : Bool). pick c (λ _. next g q) λ _. q) e

-- a type is passed over
past_type : {g : Script} {q : ℕ} {t : TypeTree} → AtType g q t → behind_type g.tree q ≡ next g q
unfolding is_type pick
past_type {g} (at_bool k) = skips g _ true (ap is_type k.kind_is)
past_type {g} (at_int k) = skips g _ true (ap is_type k.kind_is)
past_type {g} (at_arrow k ts t z) = skips g _ true (ap is_type k.kind_is)
past_type {g} (at_vec k t z) = skips g _ true (ap is_type k.kind_is)

-- parameters, or a block, are not
no_type : {g : Script} {q j : ℕ} {xs : List ArgP} {b : Block} → AtParams g q xs j → AtB g j b → behind_type g.tree q ≡ q
unfolding is_type pick
no_type {g} (at_no_param h k) (at_block e a) = skips g _ false (ap is_type e)
no_type {g} (at_more_params (at_val_param k t e) a) b = skips g _ false (ap is_type k.kind_is)
no_type {g} (at_more_params (at_var_param k t e) a) b = skips g _ false (ap is_type k.kind_is)

pub params_behind : {g : Script} {q j : ℕ} {t : TypeTree} {xs : List ArgP} → AtType g q t → AtParams g (next g q) xs j → AtParams g (behind_type g.tree q) xs j
params_behind {g} {j = j} {xs = xs} a p = subst (λ (k : ℕ). AtParams g k xs j) (sym (past_type a)) p

pub params_first : {g : Script} {q j : ℕ} {xs : List ArgP} {b : Block} → AtParams g q xs j → AtB g j b → AtParams g (behind_type g.tree q) xs j
params_first {g} {j = j} {xs = xs} p b = subst (λ (k : ℕ). AtParams g k xs j) (sym (no_type p b)) p

module _ {g : Stage} {ρ : Env} {env : ℕ} {s : State} {m : Tables} (e : Named g ρ env m) (r : R g s m) where
  env_small : env < 65536
  env_small = let l = env_in e in omega (arith, l, r.bindings_in, r.roomy.few_bindings)

  kept_env : (i : ℕ) → Named g ρ (env_of (closure_word i env)) m
  kept_env i = rw (closure_env i env env_small) e

  module _ (i : ℕ) (l : i < 65536) {xs : List ArgP} {j : ℕ} where
    pub function_value : {b : Expr} → AtParams g.script i xs j → InE g (extended (param_names xs) (scope ρ)) j b →
        IsVal g (in_f b (param_names xs) ρ) function_tag (closure_word i env) m
    function_value p a = let q : AtParams g.script (node_of (closure_word i env)) xs j = rw (closure_node i env l) p in v_fun q a (kept_env i)

    pub procedure_value : {b : Block} → AtParams g.script i xs j → InB g (extended (param_names xs) (scope ρ)) j b →
        IsVal g (in_p b (param_names xs) ρ) procedure_tag (closure_word i env) m
    procedure_value p a = let q : AtParams g.script (node_of (closure_word i env)) xs j = rw (closure_node i env l) p in v_proc q a (kept_env i)

    -- of the name at the node i
    pub recursive_function_value : {f : Name} {b : Expr} → AtParams g.script (next g.script (next g.script i)) xs j →
        InE g (f ∷ extended (param_names xs) (scope ρ)) j b → IsVal g (in_fr b f (param_names xs) ρ) recursive_function_tag (closure_word i env) m
    recursive_function_value p a =
        let q : AtParams g.script (next g.script (next g.script (node_of (closure_word i env)))) xs j = rw (closure_node i env l) p in v_rec q a (kept_env i)

    pub recursive_procedure_value : {f : Name} {b : Block} → AtParams g.script (behind_type (g.script).tree (next g.script i)) xs j →
        InB g (f ∷ extended (param_names xs) (scope ρ)) j b → IsVal g (in_pr b f (param_names xs) ρ) recursive_procedure_tag (closure_word i env) m
    recursive_procedure_value p a =
        let q : AtParams g.script (behind_type (g.script).tree (next g.script (node_of (closure_word i env)))) xs j = rw (closure_node i env l) p in v_proc_rec q a (kept_env i)
