-- The laws of commands: what the code has found on each way is what the evaluator's definition says.
use mathlib.Core.Path.{◌≡◌, refl, sym, ap, ◌∙◌}
use mathlib.Core.Bool.{Bool, true, false}
use mathlib.Core.List.{List}
use Prim.Native.Nat.{ℕ, suc, ◌-◌, ◌<◌}
use borrow.Author.Tests.{eq-eqb, ne_eqb}
use Rattle.nodes.specs.declared.Node.{Node}
use Rattle.nodes.specs.Nodes.{node_at}
use Rattle.machine.specs.declared.Bounds.{Bounds}
use Rattle.machine.specs.declared.Ending.{Ending}
use Rattle.machine.specs.declared.Ending.TheVariants.{Value, Returned}
use Rattle.machine.specs.Entries.{pick}
use Rattle.machine.specs.State.{Run, running, code_at, Tables, Ret, is, on_value, and_then}
use Rattle.machine.specs.Leaves.{address_of, bound_to, stored, define}
use Rattle.machine.specs.Machine.{Evaluators, on_bit, const_c, echo_c, set_c, return_c, block_c, if_c, call_c, round, rounds, cmd_by, cmds, below, expr_at, block_at, level, cmd_at}
use Rattle.machine.specs.Machine.{while_at, round_at, const_at, echo_at, set_at, if_stat_at, call_stat_at, return_at}
use Rattle.machine.specs.Shown.{program}
use Rattle.machine.proofs.Members.{cmd_is, cmd_while}
use Rattle.machine.proofs.Members.{cmds_go, rounds_go, block_is, while_is}
use Rattle.entering.specs.Opening.{guarded, definition_by, definition, opens}
use Rattle.stores.proofs.Laws.{NoValue, not_value}
use Rattle.stores.specs.Choices.{is_bit, branch_of, round_end, echoed}
use Rattle.running.specs.Parts.{inner_c, apply_v, apply_at, inner_at, limits_of_bounds}
use Rattle.running.proofs.Laws.{passes, goes, any_value, guard_stops, guard_goes, guard_level, on_one, on_branch, no_round}

-- ---- a command is entered

module _ (g : Run) (d env sp : ℕ) (m : Tables) (n : Node) where
  pub cmd_rounds : n.kind ≡ 11 → (q : Ret) → q ≡ while_at g d env sp n m → q ≡ cmd_at g d env sp n m
  cmd_rounds h q q-is = q-is ∙ sym (cmd_while g d env sp m n h)

  module _ (once : n.kind ≡ 11 → ⊥) (r : Ret) (r-is : r ≡ guarded d n.place m) where
    pub cmd_stops : NoValue r.ending → r ≡ cmd_at g d env sp n m
    cmd_stops h = guard_stops d n.place m r r-is h _ ∙ sym (cmd_is g d env sp m n once)

    module _ (t x : ℕ) (found : r.ending ≡ Value t x) where
      enters : (k : ℕ) → n.kind ≡ k → cmd_by g k (level g x) env sp n r.after ≡ cmd_at g d env sp n m
      enters k h =
          sym (
          cmd_is g d env sp m n once ∙ guard_goes d n.place m r r-is t x found _ ∙
          ap (λ (a : ℕ). cmd_by g a (below g d) env sp n r.after) h ∙
          ap (λ (S : Evaluators). cmd_by g k S env sp n r.after) (guard_level d n.place m r r-is t x found g)
          )

      pub cmd_const : n.kind ≡ 2 → (q : Ret) → q ≡ const_at g x env sp n r.after → q ≡ cmd_at g d env sp n m
      unfolding cmd_by pick
      cmd_const h q q-is = q-is ∙ enters 2 h

      pub cmd_echo : n.kind ≡ 8 → (q : Ret) → q ≡ echo_at g x env sp n r.after → q ≡ cmd_at g d env sp n m
      unfolding cmd_by pick
      cmd_echo h q q-is = q-is ∙ enters 8 h

      pub cmd_set : n.kind ≡ 9 → (q : Ret) → q ≡ set_at g x env sp n r.after → q ≡ cmd_at g d env sp n m
      unfolding cmd_by pick
      cmd_set h q q-is = q-is ∙ enters 9 h

      pub cmd_if : n.kind ≡ 10 → (q : Ret) → q ≡ if_stat_at g x env sp n r.after → q ≡ cmd_at g d env sp n m
      unfolding cmd_by pick
      cmd_if h q q-is = q-is ∙ enters 10 h

      pub cmd_call : n.kind ≡ 12 → (q : Ret) → q ≡ call_stat_at g x env sp n r.after → q ≡ cmd_at g d env sp n m
      unfolding cmd_by pick
      cmd_call h q q-is = q-is ∙ enters 12 h

      pub cmd_return : n.kind ≡ 31 → (q : Ret) → q ≡ return_at g x env sp n r.after → q ≡ cmd_at g d env sp n m
      unfolding cmd_by pick
      cmd_return h q q-is = q-is ∙ enters 31 h

      pub cmd_plain : (n.kind ≡ 2 → ⊥) → (n.kind ≡ 8 → ⊥) → (n.kind ≡ 9 → ⊥) → (n.kind ≡ 10 → ⊥) → (n.kind ≡ 12 → ⊥) → (n.kind ≡ 31 → ⊥) →
          (q : Ret) → q ≡ definition g env n r.after → q ≡ cmd_at g d env sp n m
      unfolding definition definition_by cmd_by pick
      cmd_plain h₂ h₈ h₉ h₁₀ h₁₂ h₃₁ q q-is = q-is ∙ plain n.kind h₂ h₈ h₉ h₁₀ h₁₂ h₃₁ ∙ enters n.kind refl
        where
          plain : (k : ℕ) → (k ≡ 2 → ⊥) → (k ≡ 8 → ⊥) → (k ≡ 9 → ⊥) → (k ≡ 10 → ⊥) → (k ≡ 12 → ⊥) → (k ≡ 31 → ⊥) →
              definition_by g k env n r.after ≡ cmd_by g k (level g x) env sp n r.after
          plain k h₂ h₈ h₉ h₁₀ h₁₂ h₃₁ =
              sym (simp (ne_eqb k 2 h₂, ne_eqb k 8 h₈, ne_eqb k 9 h₉, ne_eqb k 10 h₁₀, ne_eqb k 12 h₁₂, ne_eqb k 31 h₃₁))

-- ---- what is entered already

module _ (g : Run) (d env sp : ℕ) (m : Tables) (n : Node) where
  -- CONST
  module _ (x : Node) (x-is : x ≡ node_at g.tree n.child) where
    module _ (i : ℕ) (i-is : i ≡ (node_at g.tree x.next).next) (r : Ret) (r-is : r ≡ expr_at g d env sp i m) where
      pub const_passes : NoValue r.ending → r ≡ const_at g d env sp n m
      unfolding const_c
      const_passes h = rw (← x-is, ← i-is, ← r-is) (passes r h _)

      pub const_binds : (t v : ℕ) → r.ending ≡ Value t v → (q : Ret) → q ≡ define g n.place t v env r.after → q ≡ const_at g d env sp n m
      unfolding const_c
      const_binds t v found q q-is = q-is ∙ sym (rw (← x-is, ← i-is, ← r-is, goes r t v found _))

    -- SET
    module _ (c : ℕ) (c-is : c ≡ code_at g n.child) (e : Ending) (e-is : e ≡ address_of m.bindings c env) where
      pub set_none : NoValue e → is e m ≡ set_at g d env sp n m
      unfolding set_c
      set_none h = rw (← c-is, ← e-is) (passes (is e m) h _)

      module _ (k a : ℕ) (target : e ≡ Value k a) (r : Ret) (r-is : r ≡ expr_at g d env sp x.next m) where
        pub set_passes : NoValue r.ending → r ≡ set_at g d env sp n m
        unfolding set_c
        set_passes h = rw (← x-is, ← c-is, ← e-is, goes (is e m) k a target _, ← r-is) (passes r h _)

        pub set_stores : (t v : ℕ) → r.ending ≡ Value t v → (q : Ret) → q ≡ stored a t v (Value 7 env) r.after → q ≡ set_at g d env sp n m
        unfolding set_c
        set_stores t v found q q-is = q-is ∙ sym (rw (← x-is, ← c-is, ← e-is, goes (is e m) k a target _, ← r-is, goes r t v found _))

  -- CALL
  module _ (c : ℕ) (c-is : c ≡ code_at g n.child) (e : Ending) (e-is : e ≡ bound_to m.bindings c env) where
    pub call_none : NoValue e → is e m ≡ call_stat_at g d env sp n m
    unfolding call_c
    call_none h = rw (← c-is, ← e-is) (passes (is e m) h _)

    pub call_applies : (t x : ℕ) → e ≡ Value t x → (q : Ret) → q ≡ apply_at g 12 d env sp t x n m → q ≡ call_stat_at g d env sp n m
    unfolding call_c apply_v opens inner_c block_c pick
    call_applies t x target q q-is = q-is ∙ sym (rw (← c-is, ← e-is, goes (is e m) t x target _))

  -- ECHO, RETURN and IF
  module _ (r : Ret) (r-is : r ≡ expr_at g d env sp n.child m) where
    pub echo_passes : NoValue r.ending → r ≡ echo_at g d env sp n m
    unfolding echo_c
    echo_passes h = rw (← r-is) (passes r h _)

    pub return_passes : NoValue r.ending → r ≡ return_at g d env sp n m
    unfolding return_c
    return_passes h = rw (← r-is) (passes r h _)

    pub if_stat_passes : NoValue r.ending → r ≡ if_stat_at g d env sp n m
    unfolding if_c
    if_stat_passes h = rw (← r-is) (passes r h _)

    module _ (t x : ℕ) (found : r.ending ≡ Value t x) where
      pub return_goes : is (Returned t x) r.after ≡ return_at g d env sp n m
      unfolding return_c
      return_goes = sym (rw (← r-is, goes r t x found _))

      pub echo_goes : (q : Ret) → q ≡ echoed g n.place env t x r.after → q ≡ echo_at g d env sp n m
      unfolding echo_c echoed
      echo_goes q q-is = q-is ∙ sym (rw (← r-is, goes r t x found _))

      module _ (first : ℕ) (first_is : first ≡ (node_at g.tree n.child).next) (e : Ending) (e-is : e ≡ branch_of g.tree first t x) where
        if_stat_chooses : if_stat_at g d env sp n m ≡ on_value e r.after λ _ j _. inner_at g 7 d env sp env j r.after
        unfolding if_c block_c inner_c
        if_stat_chooses =
            rw (← r-is, goes r t x found _, ← first_is, e-is)
            (on_branch g.tree first t x r.after λ j. inner_at g 7 d env sp env j r.after)

        pub if_stat_goes : (k j : ℕ) → e ≡ Value k j → (q : Ret) → q ≡ inner_at g 7 d env sp env j r.after → q ≡ if_stat_at g d env sp n m
        if_stat_goes k j h q q-is = q-is ∙ sym (if_stat_chooses ∙ rw h)

        pub if_stat_none : NoValue e → is e r.after ≡ if_stat_at g d env sp n m
        if_stat_none h = not_value e h r.after _ ∙ sym if_stat_chooses

  -- ---- a round of WHILE

  module _ (e : Ret) (e-is : e ≡ guarded d n.place m) where
    pub round_stops : NoValue e.ending → e ≡ round_at g d env sp n m
    unfolding round_at round
    round_stops h = guard_stops d n.place m e e-is h _

    module _ (u y : ℕ) (entered : e.ending ≡ Value u y) (r : Ret) (r-is : r ≡ expr_at g y env sp n.child e.after) where
      turn : Ret → Ret
      turn r =
          and_then r λ t x m₁.
          on_bit t x m₁
          (λ _.
          and_then (block_at g y env sp (node_at g.tree (node_at g.tree n.child).next).child m₁) λ _ _ m₂. is (Value 8 env) m₂)
          λ _. is (Value 7 env) m₁

      round_turns : round_at g d env sp n m ≡ turn r
      unfolding round_at round turn
      round_turns =
          ap (λ (S : Evaluators). round g d S env sp n m) (guard_level d n.place m e e-is u y entered g) ∙
          guard_goes d n.place m e e-is u y entered _ ∙ ap turn (sym r-is)

      pub round_passes : NoValue r.ending → r ≡ round_at g d env sp n m
      unfolding turn
      round_passes h = passes r h _ ∙ sym round_turns

      module _ (t x : ℕ) (found : r.ending ≡ Value t x) (c : Bool) (c-is : c ≡ is_bit t x 1) where
        pub round_goes : c ≡ true → (i : ℕ) → i ≡ (node_at g.tree n.child).next → (q : Ret) →
            q ≡ inner_at g 8 y env sp env i r.after → q ≡ round_at g d env sp n m
        unfolding turn inner_c
        round_goes h i i-is q q-is = q-is ∙ sym (round_turns ∙ rw (goes r t x found _, ← i-is) (on_one t x r.after _ _ (sym c-is ∙ h)))

        pub round_ends : c ≡ false → (a : Ending) → a ≡ round_end t x env → is a r.after ≡ round_at g d env sp n m
        unfolding turn
        round_ends h a a-is = sym (round_turns ∙ rw (goes r t x found _, a-is) (no_round t x r.after _ env (sym c-is ∙ h)))

-- a block within
module _ (g : Run) (d env sp : ℕ) (m : Tables) (tag ρ i first : ℕ)
    (first_is : first ≡ (node_at g.tree i).child)
    (r : Ret)
    (r-is : r ≡ block_at g d ρ sp first m) where
  pub inner_passes : NoValue r.ending → r ≡ inner_at g tag d env sp ρ i m
  unfolding inner_c
  inner_passes h = rw (← first_is, ← r-is) (passes r h _)

  pub inner_ends : (t x : ℕ) → r.ending ≡ Value t x → is (Value tag env) r.after ≡ inner_at g tag d env sp ρ i m
  unfolding inner_c
  inner_ends t x h = sym (rw (← first_is, ← r-is) (any_value r t x h _))

-- ---- the loop over commands

pub block_start : (g : Run) (d env sp i : ℕ) (m : Tables) → cmds g (suc m.counts.units) d (below g d) env sp i m ≡ block_at g d env sp i m
block_start g d env sp i m = sym (block_is g d env sp i m)

module _ (g : Run) (d env sp : ℕ) (k u i : ℕ) (m : Tables) (more : u < k) where
  cmds_are : cmds g k d (below g d) env sp i m ≡ cmds g (suc (k - 1)) d (below g d) env sp i m
  cmds_are = cmds_go g u k more d (below g d) env sp i m

  pub block_ends : i ≡ 0 → is (Value 7 env) m ≡ cmds g k d (below g d) env sp i m
  unfolding cmds pick
  block_ends h = sym (rw (cmds_are, eq-eqb i 0 h))

  module _ (some : i ≡ 0 → ⊥) (n : Node) (n-is : n ≡ node_at g.tree i) (r : Ret) (r-is : r ≡ cmd_at g d env sp n m) where
    pub block_passes : NoValue r.ending → r ≡ cmds g k d (below g d) env sp i m
    unfolding cmds cmd_at pick
    block_passes h = rw (cmds_are, ne_eqb i 0 some, ← n-is, ← r-is) (passes r h _)

    pub block_goes_on : (t ρ : ℕ) → r.ending ≡ Value t ρ → cmds g (k - 1) d (below g d) ρ sp n.next r.after ≡ cmds g k d (below g d) env sp i m
    unfolding cmds cmd_at pick
    block_goes_on t ρ found = sym (rw (cmds_are, ne_eqb i 0 some, ← n-is, ← r-is, goes r t ρ found _))

-- ---- the rounds of WHILE

pub rounds_start : (g : Run) (d env sp : ℕ) (n : Node) (m : Tables) →
    rounds g (suc m.counts.units) d (below g d) env sp n m ≡ while_at g d env sp n m
rounds_start g d env sp n m = sym (while_is g d env sp n m)

module _ (g : Run) (d env sp : ℕ) (n : Node) (k u : ℕ) (m : Tables) (more : u < k) (r : Ret) (r-is : r ≡ round_at g d env sp n m) where
  rounds_are : rounds g k d (below g d) env sp n m ≡ rounds g (suc (k - 1)) d (below g d) env sp n m
  rounds_are = rounds_go g u k more d (below g d) env sp n m

  pub rounds_pass : NoValue r.ending → r ≡ rounds g k d (below g d) env sp n m
  unfolding rounds round_at
  rounds_pass h = rw (rounds_are, ← r-is) (passes r h _)

  module _ (t x : ℕ) (found : r.ending ≡ Value t x) where
    pub rounds_end : (t ≡ 8 → ⊥) → r ≡ rounds g k d (below g d) env sp n m
    unfolding rounds round_at pick
    rounds_end h = ap (λ (e : Ending). is e r.after) found ∙ sym (rw (rounds_are, ← r-is, goes r t x found _, ne_eqb t 8 h))

    pub rounds_go_on : t ≡ 8 → rounds g (k - 1) d (below g d) env sp n r.after ≡ rounds g k d (below g d) env sp n m
    unfolding rounds round_at pick
    rounds_go_on h = sym (rw (rounds_are, ← r-is, goes r t x found _, eq-eqb t 8 h))

-- ---- the whole program

pub program_runs : (tree codes : List ℕ) (b : Bounds) (f d : ℕ) (m : Tables) (first : ℕ) → first ≡ (node_at tree 0).child → (q : Ret) →
    q ≡ block_at (running tree codes b) d 0 0 first m → q ≡ program tree codes (limits_of_bounds f d b) m
unfolding program
program_runs tree codes b f d m first first_is q q-is = q-is ∙ rw first_is
