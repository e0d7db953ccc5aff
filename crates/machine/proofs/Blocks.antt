-- Blocks of cells: made, asked for an element, and stored into.
use mathlib.Core.Path.{◌≡◌, refl, subst}
use mathlib.Core.Bool.{Bool, true, false, cond}
use mathlib.Core.Option.{Option, none, some}
use Prim.Native.Nat.{ℕ, ◌+◌, ◌≤◌, ◌<◌}
use native.Mathlib.Nat.{le_refl}
use native.Mathlib.Omega.{arith}
use lib.Dec.{T, ltb, leb→le, ltb→lt, lt→ltb}
use lib.IntN.{ℤ, pos, negsuc}
use lib.ListN.{length}
use mir.Syntax.{w64}
use mir.Val.{to_z, sel}
use Rattle.language.specs.Answers.{INDEX}
use Rattle.language.specs.Rules.{Val, in_z, in_b, State, Outcome, ok, need, otherwise, nth, store, as_number, as_block, as_size, cell_in, give_cell, with_cells, alloc_rule, element_rule}
use Rattle.machine.specs.declared.Ending.{Ending}
use Rattle.machine.specs.declared.Ending.TheVariants.{Value, NoRule}
use Rattle.machine.specs.declared.Ending.TheVariants as E
use Rattle.machine.specs.Entries.{pick, address_tag, block_tag, first_below, row, block_word, first_of, length_of, env_of}
use Rattle.machine.specs.State.{Tables, Ret, is, and_then, if_value, new_cells}
use Rattle.machine.specs.Leaves.{element_of, element_value, length_value, set_element, allocate, cell_value}
use Rattle.machine.proofs.Entries.{closure_node, closure_env}
use Rattle.machine.proofs.Lists.{Asks, asks_yes, asks_no, asks_stored}
use Rattle.machine.proofs.Relation.{Stage, run_of, v_block, R, plain_size, plain_index, Sim, goes, stops, no_way, IsVal}
use Rattle.machine.proofs.Agree.{grow_self, sim_need, sim_otherwise, sim_within, end_need, asks_num, asks_block}
use Rattle.machine.proofs.States.{r_cells, r_store}
use Rattle.machine.proofs.Operate.{number_val}
use Rattle.machine.proofs.Names.{held_sim}

-- ---- a size, and an index

asks_test : (b : Bool) (a : ℕ) → Asks (λ k. k ≡ a) (cond b (some a) none) b
asks_test true a = asks_yes refl
asks_test false a = asks_no

asks_past : (b : Bool) (a : ℕ) → (T b → ⊥) → Asks (λ k. k ≡ a) none b
asks_past true a h = absurd (h tt)
asks_past false a h = asks_no

-- a number that is not below 0
asks_size : (x : ℕ) → Asks (λ k. k ≡ x) (as_size (to_z w64 x)) (ltb x first_below)
asks_size x = go (ltb x first_below) _
  where
    go : (b : Bool) (n : ℕ) → Asks (λ k. k ≡ x) (as_size (sel b (pos x) (negsuc n))) b
    go true n = asks_yes refl
    go false n = asks_no

-- a number below 0 is past every length that stands in half a word
asks_cell : (a n y : ℕ) → n < 65536 → Asks (λ k. k ≡ a + y) (cell_in (a, n) (to_z w64 y)) (ltb y n)
asks_cell a n y h = go (ltb y first_below) refl _
  where
    go : (b : Bool) → ltb y first_below ≡ b → (k : ℕ) → Asks (λ k. k ≡ a + y) (cell_in (a, n) (sel b (pos y) (negsuc k))) (ltb y n)
    go true e k = asks_test (ltb y n) (a + y)
    go false e k = asks_past (ltb y n) (a + y) λ t. subst T e (lt→ltb y first_below (let l = ltb→lt y n t in omega (arith, l, h)))

length_small : (x : ℕ) → length_of x < 65536
unfolding env_of
length_small x = omega arith

-- an answer that changes no table, and what follows it
ends_then : (e : Ending) (m : Tables) (k : ℕ → ℕ → Ending) → is (if_value e k) m ≡ and_then (is e m) λ t x m. is (k t x) m
unfolding and_then
ends_then (Value t x) m k = refl
ends_then (E.Stop n p) m k = refl
ends_then (E.Unset p q) m k = refl
ends_then (E.Returned t x) m k = refl
ends_then NoRule m k = refl

module _ {g : Stage} where
  -- ---- an element

  module _ {P : Val → (t x : ℕ) → Tables → Type 0} where
    element_cell : (p a : ℕ) {o : Option ℕ} {b : Bool} {sp : ℕ} {s : State} {m : Tables} {k : ℕ → Outcome Val} (k' : ℕ → ℕ → Tables → Ret) →
        Asks (λ c. c ≡ a) o b → R g s m → ((c : ℕ) → Sim g P sp m (k c) (k' address_tag c m)) →
        Sim g P sp m (otherwise o INDEX p s k) (and_then (is (pick b (λ _. Value address_tag a) λ _. E.Stop 29 p) m) k')
    unfolding otherwise and_then pick
    element_cell p a k' (asks_yes h) r f = rw h (f a)
    element_cell p a k' asks_no r f = stops plain_index r

    element_tests : (p x y : ℕ) {o : Option (ℕ × ℕ)} {i : Option ℤ} {b c : Bool} {sp : ℕ} {s : State} {m : Tables} {k : ℕ → Outcome Val} (k' : ℕ → ℕ → Tables → Ret) →
        Asks (λ k. k ≡ (first_of x, length_of x)) o b → Asks (λ z. z ≡ to_z w64 y) i c → R g s m → ((c : ℕ) → Sim g P sp m (k c) (k' address_tag c m)) →
        Sim g P sp m (need o p s λ b. need i p s λ i. otherwise (cell_in b i) INDEX p s k)
        (and_then (is (pick b (λ _. pick c (λ _. pick (ltb y (length_of x)) (λ _. Value address_tag (first_of x + y)) λ _. E.Stop 29 p) λ _. NoRule) λ _. NoRule) m) k')
    unfolding need and_then pick
    element_tests p x y k' (asks_yes h) (asks_yes e) r f = rw (h, e) (element_cell p _ k' (asks_cell (first_of x) (length_of x) y (length_small x)) r f)
    element_tests p x y k' (asks_yes h) asks_no r f = no_way r
    element_tests p x y k' asks_no e r f = no_way r

    element_sim : (p : ℕ) {t x u y sp : ℕ} {v w : Val} {s : State} {m : Tables} {k : ℕ → Outcome Val} (k' : ℕ → ℕ → Tables → Ret) → IsVal g v t x m → IsVal g w u y m →
        R g s m → ((c : ℕ) → Sim g P sp m (k c) (k' address_tag c m)) →
        Sim g P sp m (element_rule p v w s k) (and_then (is (element_of p (row t x) (row u y)) m) k')
    unfolding element_of
    element_sim p {x = x} {y = y} k' a b r f = element_tests p x y k' (asks_block a) (asks_num b) r f

  pub nth_sim : (p : ℕ) {t x u y sp : ℕ} {v w : Val} {s : State} {m : Tables} → IsVal g v t x m → IsVal g w u y m → R g s m →
      Sim g (IsVal g) sp m (element_rule p v w s λ k. need (nth s.cells k) p s λ c. give_cell c.holds c.made p s)
      (is (element_value m.cells m.counts.cells p (row t x) (row u y)) m)
  unfolding element_value
  nth_sim p {t} {x} {u} {y} {m = m} a b r =
      rw (ends_then (element_of p (row t x) (row u y)) m λ _ a. cell_value m.cells m.counts.cells p a) (element_sim p _ a b r λ c. held_sim p c r)

  pub vset_sim : (p : ℕ) {t x u y t' z sp : ℕ} {v w e : Val} {s : State} {m : Tables} → IsVal g v t x m → IsVal g w u y m → IsVal g e t' z m → R g s m →
      Sim g (IsVal g) sp m (element_rule p v w s λ k. need (store s.cells k e) p s λ cs. ok v (with_cells cs s))
      (set_element p (row t x) (row u y) t' z m)
  unfolding set_element
  vset_sim p {t' = t} {z = z} {e = e} {s = s} a b d r =
      element_sim p _ a b r λ c. sim_need p (asks_stored s.cells c _ e r.cells) r λ cs q.
      goes a (r_store r c t z e cs q d) (record { more = le_refl _; old = λ k h. refl; waits = λ k s h. refl; fell = le_refl _ })

  -- ---- a length

  pub len_sim : (p : ℕ) {t x sp : ℕ} {v : Val} {s : State} {m : Tables} → IsVal g v t x m → R g s m →
      Sim g (IsVal g) sp m (need (as_block v) p s λ k. ok (in_z (pos k.1)) s) (is (length_value (row t x)) m)
  unfolding length_value
  len_sim p {x = x} a r =
      end_need p (asks_block a) r λ k h. rw h (goes (number_val (pos (length_of x)) (record { sfits = let l = length_small x in omega (arith, l) })) r grow_self)

  -- ---- cells are made

  block_value : (a n : ℕ) (m : Tables) → a < 65536 → n < 65536 → IsVal g (in_b a n) block_tag (block_word a n) m
  block_value a n m h k =
      subst (λ (i : ℕ). IsVal g (in_b i n) block_tag (block_word a n) m) (closure_node a n h)
      (subst (λ (j : ℕ). IsVal g (in_b (first_of (block_word a n)) j) block_tag (block_word a n) m) (closure_env a n k) (v_block (block_word a n)))

  pub alloc_sim : (p : ℕ) {t x sp : ℕ} {v : Val} {s : State} {m : Tables} → p < 65536 → IsVal g v t x m → R g s m →
      Sim g (IsVal g) sp m (need (as_number v) p s λ n. alloc_rule g.limits p n s) (allocate (run_of g) p (row t x) m)
  unfolding allocate
  alloc_sim p {x = x} {m = m} w a r =
      sim_need p (asks_num a) r λ z e. rw e (sim_otherwise plain_size p (asks_size x) r λ k h.
      rw (h, r.cells) (sim_within _ _ _ _ (λ h. h, λ h. h) r λ c.
      let l : x + m.counts.cells ≤ (g.limits).cells = leb→le _ _ c in
      goes (block_value m.counts.cells x (new_cells x p m) (omega (arith, r.roomy.few_cells)) (omega (arith, r.roomy.few_cells))) (r_cells r x p w l)
      (record { more = le_refl _; old = λ k h. refl; waits = λ k s h. refl; fell = le_refl _ })))
