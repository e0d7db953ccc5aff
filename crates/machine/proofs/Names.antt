-- Names: looked up, read through, asked for an address, and as the head of an application.
use mathlib.Core.Path.{◌≡◌, refl}
use mathlib.Core.Bool.{Bool, true, false, cond}
use mathlib.Core.List.{List, [], ◌∷◌}
use mathlib.Core.Option.{Option, none}
use Prim.Native.Nat.{ℕ, suc, ◌≤◌}
use native.Mathlib.Nat.{le_refl, le_trans}
use native.Mathlib.Omega.{arith}
use lib.Dec.{T, eqb, ltb, ltb→lt}
use Rattle.language.specs.Bytes.{same_bytes}
use Rattle.language.specs.Syntax.{Name}
use Rattle.language.specs.Names.{Op, not, eq, lt, add, sub, mul, div, Meaning, literal, operator, free, meaning, unless_nine}
use Rattle.language.specs.Rules as Rules
use Rattle.language.specs.Rules.{Val, in_a, Env, State, Outcome, ok, need, look, nth, as_address, give_cell, read, name_rule}
use Rattle.nodes.specs.Names.{meaning_no}
use Rattle.machine.specs.declared.Cell.{Cell}
use Rattle.machine.specs.declared.Ending.{Ending}
use Rattle.machine.specs.declared.Ending.TheVariants.{Value, NoRule}
use Rattle.machine.specs.declared.Ending.TheVariants as E
use Rattle.machine.specs.Entries.{pick, address_tag, unset_tag, first_free, most_steps}
use Rattle.machine.specs.State.{Tables, Ret, is, and_then, if_value}
use Rattle.machine.specs.Leaves.{bound_to, address_of, cell_value, read_through, name_value, walk}
use Rattle.machine.specs.Codes.{code_over, level_among, code_by_meaning, Used}
use Rattle.machine.proofs.Lists.{asks_nth}
use Rattle.machine.proofs.Relation.{Stage, v_num, v_fun, v_rec, v_proc, v_proc_rec, v_adr, v_block, ValR, EnvR, Found, found, lost, CellR, c_unset, c_set, R, Sims, Sim, goes, unset, no_way, IsVal, Named, code, scope}
use Rattle.machine.proofs.Chain.{over_least, name_finds}
use Rattle.machine.proofs.Agree.{grow_self, end_need}

is_false : (b : Bool) → (T b → ⊥) → b ≡ false
is_false true h = absurd (h tt)
is_false false h = refl

-- the code of a name that is none of the nine
level_least : (Γ : List Name) (x : Name) → first_free ≤ level_among Γ x
unfolding level_among
level_least [] x = le_refl _
level_least (y ∷ Γ) x = either (same_bytes y x) (over_least Γ) (level_least Γ x)
  where
    either : (b : Bool) → first_free ≤ code_over Γ → first_free ≤ level_among Γ x → first_free ≤ cond b (suc (code_over Γ)) (level_among Γ x)
    either true h l = omega arith
    either false h l = l

not_nine : (Γ : List Name) (x : Name) → ltb (level_among Γ x) first_free ≡ false
not_nine Γ x = is_false _ λ t. let l = ltb→lt (level_among Γ x) first_free t in let h = level_least Γ x in omega (arith, l, h)

module _ {g : Stage} where
  few : {s : State} {m : Tables} → R g s m → m.counts.bindings ≤ 4096
  few r = le_trans r.bindings_in r.roomy.few_bindings

  -- ---- looked up

  bound_by : (k : Meaning) (y env : ℕ) {b : List ℕ} {c : ℕ} {o : Option Val} → ltb y first_free ≡ false → Found g b c o (walk b y most_steps env) →
      Found g b c (unless_nine k o) (bound_to b (code_by_meaning k y) env)
  unfolding bound_to pick
  bound_by free y env e h = rw (e, pick) h
  bound_by (literal true) y env e h = lost
  bound_by (literal false) y env e h = lost
  bound_by (operator not) y env e h = lost
  bound_by (operator eq) y env e h = lost
  bound_by (operator lt) y env e h = lost
  bound_by (operator add) y env e h = lost
  bound_by (operator sub) y env e h = lost
  bound_by (operator mul) y env e h = lost
  bound_by (operator div) y env e h = lost

  bound_finds : {b : List ℕ} {c : ℕ} {ρ : Env} {e : ℕ} → EnvR g b c ρ e → c ≤ 4096 → {q : ℕ} {x : Name} → Used g.script g.codes (scope ρ) q x →
      Found g b c (look ρ x) (bound_to b (code g q) e)
  bound_finds {ρ = ρ} e l {x = x} z = rw z.code_is (bound_by (meaning x) _ _ (not_nine (scope ρ) x) (name_finds e l x))

  module _ {B : Type 0} {P C : B → (t x : ℕ) → Tables → Type 0} where
    found_sim : {b : List ℕ} {c : ℕ} {o : Option Val} {e : Ending} (p : ℕ) {s : State} {sp : ℕ} {m : Tables} {k : Val → Outcome B} (k' : ℕ → ℕ → Tables → Ret) →
        Found g b c o e → R g s m → ((u : Val) (t x : ℕ) → ValR g b c u t x → Sims g P C sp m (k u) (k' t x m)) → Sims g P C sp m (need o p s k) (and_then (is e m) k')
    unfolding need and_then
    found_sim p k' (found u) s f = f _ _ _ u
    found_sim p k' lost s f = no_way s

    pub sim_look : {ρ : Env} {env q : ℕ} {y : Name} (p : ℕ) {s : State} {sp : ℕ} {m : Tables} {k : Val → Outcome B} (k' : ℕ → ℕ → Tables → Ret) →
        Used g.script g.codes (scope ρ) q y → Named g ρ env m → R g s m →
        ((u : Val) (t x : ℕ) → IsVal g u t x m → Sims g P C sp m (k u) (k' t x m)) →
        Sims g P C sp m (need (look ρ y) p s k) (and_then (is (bound_to m.bindings (code g q) env) m) k')
    sim_look p k' z n s f = found_sim p k' (bound_finds n (few s) z) s f

    -- ---- asked for an address

    located : {b : List ℕ} {c : ℕ} {o : Option Val} {e : Ending} (p : ℕ) {s : State} {sp : ℕ} {m : Tables} {k : ℕ → Outcome B} (k' : ℕ → ℕ → Tables → Ret) →
        Found g b c o e → R g s m → ((a : ℕ) → Sims g P C sp m (k a) (k' address_tag a m)) →
        Sims g P C sp m (need o p s λ v. need (as_address v) p s k)
        (and_then (is (if_value e λ t a. pick (eqb t address_tag) (λ _. Value address_tag a) λ _. NoRule) m) k')
    unfolding need and_then pick
    located p k' lost s f = no_way s
    located p k' (found (v_num x)) s f = no_way s
    located p k' (found (v_fun a b n)) s f = no_way s
    located p k' (found (v_rec a b n)) s f = no_way s
    located p k' (found (v_proc a b n)) s f = no_way s
    located p k' (found (v_proc_rec a b n)) s f = no_way s
    located p k' (found (v_adr {a = a})) s f = f a
    located p k' (found (v_block x)) s f = no_way s

    pub sim_address : {ρ : Env} {env q : ℕ} {y : Name} (p : ℕ) {s : State} {sp : ℕ} {m : Tables} {k : ℕ → Outcome B} (k' : ℕ → ℕ → Tables → Ret) →
        Used g.script g.codes (scope ρ) q y → Named g ρ env m → R g s m → ((a : ℕ) → Sims g P C sp m (k a) (k' address_tag a m)) →
        Sims g P C sp m (need (look ρ y) p s λ v. need (as_address v) p s k)
        (and_then (is (address_of m.bindings (code g q) env) m) k')
    unfolding address_of
    sim_address p k' z n s f = located p k' (bound_finds n (few s) z) s f

  -- the address itself
  found_address : {b : List ℕ} {c : ℕ} {o : Option Val} {e : Ending} (p : ℕ) {s : State} {sp : ℕ} {m : Tables} → Found g b c o e → R g s m →
      Sim g (IsVal g) sp m (need o p s λ v. need (as_address v) p s λ a. ok (in_a a) s)
      (is (if_value e λ t a. pick (eqb t address_tag) (λ _. Value address_tag a) λ _. NoRule) m)
  unfolding need pick
  found_address p lost s = no_way s
  found_address p (found (v_num x)) s = no_way s
  found_address p (found (v_fun a b n)) s = no_way s
  found_address p (found (v_rec a b n)) s = no_way s
  found_address p (found (v_proc a b n)) s = no_way s
  found_address p (found (v_proc_rec a b n)) s = no_way s
  found_address p (found v_adr) s = goes v_adr s grow_self
  found_address p (found (v_block x)) s = no_way s

  pub address_sim : {ρ : Env} {env q : ℕ} {y : Name} (p : ℕ) {s : State} {sp : ℕ} {m : Tables} → Used g.script g.codes (scope ρ) q y → Named g ρ env m → R g s m →
      Sim g (IsVal g) sp m (need (look ρ y) p s λ v. need (as_address v) p s λ a. ok (in_a a) s)
      (is (address_of m.bindings (code g q) env) m)
  unfolding address_of
  address_sim p z n s = found_address p (bound_finds n (few s) z) s

  -- ---- read

  not_unset : {b : List ℕ} {c t x : ℕ} {u : Val} → ValR g b c u t x → T (eqb t unset_tag) → ⊥
  not_unset (v_num x) h = h
  not_unset (v_fun a e n) h = h
  not_unset (v_rec a e n) h = h
  not_unset (v_proc a e n) h = h
  not_unset (v_proc_rec a e n) h = h
  not_unset v_adr h = h
  not_unset (v_block x) h = h

  set_cell : (b : Bool) {u : Val} {t x : ℕ} (p q : ℕ) {sp : ℕ} {s : State} {m : Tables} → (T b → ⊥) → IsVal g u t x m → R g s m →
      Sim g (IsVal g) sp m (ok u s) (is (pick b (λ _. E.Unset p q) λ _. Value t x) m)
  unfolding pick
  set_cell true p q h v r = absurd (h tt)
  set_cell false p q h v r = goes v r grow_self

  cell_sim : (p : ℕ) {sp : ℕ} {s : State} {m : Tables} {o : Rules.Cell} {r : Cell} → R g s m → CellR g m.bindings m.counts.bindings o r →
      Sim g (IsVal g) sp m (give_cell o.holds o.made p s) (is (pick (eqb r.tag unset_tag) (λ _. E.Unset p r.made) λ _. Value r.tag r.word) m)
  unfolding give_cell pick
  cell_sim p r c_unset = unset r
  cell_sim p r (c_set {p = q} {t = t} u) = set_cell (eqb t unset_tag) p q (not_unset u) u r

  -- the cell a is asked for
  pub held_sim : (p a : ℕ) {sp : ℕ} {s : State} {m : Tables} → R g s m →
      Sim g (IsVal g) sp m (need (nth s.cells a) p s λ c. give_cell c.holds c.made p s) (is (cell_value m.cells m.counts.cells p a) m)
  unfolding cell_value
  held_sim p a {s = s} r = end_need p (asks_nth s.cells a _ r.cells) r λ c q. cell_sim p r (r.each a c q)

  read_sim : (p : ℕ) {t x sp : ℕ} {s : State} {m : Tables} {u : Val} → IsVal g u t x m → R g s m →
      Sim g (IsVal g) sp m (read u p s) (is (read_through m.cells m.counts.cells p t x) m)
  unfolding read_through pick
  read_sim p (v_num x) r = goes (v_num x) r grow_self
  read_sim p (v_fun a e n) r = goes (v_fun a e n) r grow_self
  read_sim p (v_rec a e n) r = goes (v_rec a e n) r grow_self
  read_sim p (v_proc a e n) r = goes (v_proc a e n) r grow_self
  read_sim p (v_proc_rec a e n) r = goes (v_proc_rec a e n) r grow_self
  read_sim p (v_adr {a = a}) r = held_sim p a r
  read_sim p (v_block x) r = goes (v_block x) r grow_self

  free_sim : (p : ℕ) {sp : ℕ} {s : State} {m : Tables} {o : Option Val} {e : Ending} → Found g m.bindings m.counts.bindings o e → R g s m →
      Sim g (IsVal g) sp m (need o p s λ v. read v p s) (is (if_value e λ t x. read_through m.cells m.counts.cells p t x) m)
  unfolding need
  free_sim p (found u) r = read_sim p u r
  free_sim p lost r = no_way r

  name_by : (k : Meaning) (y p env : ℕ) {sp : ℕ} {s : State} {m : Tables} {o : Option Val} → ltb y first_free ≡ false →
      Found g m.bindings m.counts.bindings o (walk m.bindings y most_steps env) → R g s m →
      Sim g (IsVal g) sp m (name_rule k (unless_nine k o) p s)
      (is (name_value m.bindings m.cells (code_by_meaning k y) p m.counts.cells env) m)
  unfolding name_value pick
  name_by free y p env e h r = rw (e, pick) (free_sim p h r)
  name_by (literal true) y p env e h r = goes (v_num 1) r grow_self
  name_by (literal false) y p env e h r = goes (v_num 0) r grow_self
  name_by (operator not) y p env e h r = no_way r
  name_by (operator eq) y p env e h r = no_way r
  name_by (operator lt) y p env e h r = no_way r
  name_by (operator add) y p env e h r = no_way r
  name_by (operator sub) y p env e h r = no_way r
  name_by (operator mul) y p env e h r = no_way r
  name_by (operator div) y p env e h r = no_way r

  pub name_sim : {ρ : Env} {env q : ℕ} {x : Name} (p : ℕ) {sp : ℕ} {s : State} {m : Tables} → Used g.script g.codes (scope ρ) q x → Named g ρ env m → R g s m →
      Sim g (IsVal g) sp m (name_rule (meaning x) (look ρ x) p s)
      (is (name_value m.bindings m.cells (code g q) p m.counts.cells env) m)
  name_sim {ρ = ρ} {env = env} {x = x} p z n r = rw z.code_is (name_by (meaning x) _ p env (not_nine (scope ρ) x) (name_finds n (few r) x) r)

-- ---- at the head of an application

pub operator_number : (f : Op) → T (ltb (meaning_no (operator f)) 3) → ⊥
operator_number not h = h
operator_number eq h = h
operator_number lt h = h
operator_number add h = h
operator_number sub h = h
operator_number mul h = h
operator_number div h = h
