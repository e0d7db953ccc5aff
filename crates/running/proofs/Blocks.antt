-- The laws of blocks of cells: what the code has found of the parts is what the evaluator's definition says.
use mathlib.Core.Path.{◌≡◌, sym, ◌∙◌}
use Prim.Native.Nat.{ℕ}
use Rattle.nodes.specs.declared.Node.{Node}
use Rattle.nodes.specs.Nodes.{node_at}
use Rattle.machine.specs.declared.Ending.{Ending}
use Rattle.machine.specs.declared.Ending.TheVariants.{Value}
use Rattle.machine.specs.Entries.{row}
use Rattle.machine.specs.State.{Run, Tables, Ret, is}
use Rattle.machine.specs.Leaves.{allocate, element_value, length_value, set_element}
use Rattle.machine.specs.Machine.{alloc_e, nth_e, len_e, vset_e, expr_at, alloc_at, nth_at, len_at, vset_at}
use Rattle.stores.proofs.Laws.{NoValue}
use Rattle.running.proofs.Laws.{passes, goes}

module _ (g : Run) (d env sp : ℕ) (m : Tables) (n : Node) where
  -- alloc: behind its type its size is evaluated
  module _ (i : ℕ) (i-is : i ≡ (node_at g.tree n.child).next) (r : Ret) (r-is : r ≡ expr_at g d env sp i m) where
    pub alloc_passes : NoValue r.ending → r ≡ alloc_at g d env sp n m
    unfolding alloc_e
    alloc_passes h = rw (← i-is, ← r-is) (passes r h _)

    pub alloc_goes : (t x : ℕ) → r.ending ≡ Value t x → (q : Ret) → q ≡ allocate g n.place (row t x) r.after → q ≡ alloc_at g d env sp n m
    unfolding alloc_e
    alloc_goes t x found q q-is = q-is ∙ sym (rw (← i-is, ← r-is, goes r t x found _))

  -- the others: the block is evaluated
  module _ (r : Ret) (r-is : r ≡ expr_at g d env sp n.child m) where
    module _ (h : NoValue r.ending) where
      pub nth_passes : r ≡ nth_at g d env sp n m
      unfolding nth_e
      nth_passes = rw (← r-is) (passes r h _)

      pub len_passes : r ≡ len_at g d env sp n m
      unfolding len_e
      len_passes = rw (← r-is) (passes r h _)

      pub vset_passes : r ≡ vset_at g d env sp n m
      unfolding vset_e
      vset_passes = rw (← r-is) (passes r h _)

    module _ (t x : ℕ) (found : r.ending ≡ Value t x) where
      pub len_goes : (e : Ending) → e ≡ length_value (row t x) → is e r.after ≡ len_at g d env sp n m
      unfolding len_e
      len_goes e e-is = sym (rw (← r-is, goes r t x found _, e-is))

      -- and the index
      module _ (second : ℕ) (second_is : second ≡ (node_at g.tree n.child).next) (q : Ret) (q-is : q ≡ expr_at g d env sp second r.after) where
        module _ (h : NoValue q.ending) where
          pub nth_passes_2 : q ≡ nth_at g d env sp n m
          unfolding nth_e
          nth_passes_2 = rw (← r-is, goes r t x found _, ← second_is, ← q-is) (passes q h _)

          pub vset_passes_2 : q ≡ vset_at g d env sp n m
          unfolding vset_e
          vset_passes_2 = rw (← r-is, goes r t x found _, ← second_is, ← q-is) (passes q h _)

        module _ (u y : ℕ) (met : q.ending ≡ Value u y) where
          pub nth_goes : (e : Ending) → e ≡ element_value q.after.cells q.after.counts.cells n.place (row t x) (row u y) →
              is e q.after ≡ nth_at g d env sp n m
          unfolding nth_e
          nth_goes e e-is = sym (rw (← r-is, goes r t x found _, ← second_is, ← q-is, goes q u y met _, e-is))

          -- and the value
          module _ (third : ℕ) (third-is : third ≡ (node_at g.tree second).next) (s : Ret) (s-is : s ≡ expr_at g d env sp third q.after) where
            pub vset_passes_3 : NoValue s.ending → s ≡ vset_at g d env sp n m
            unfolding vset_e
            vset_passes_3 h = rw (← r-is, goes r t x found _, ← second_is, ← q-is, goes q u y met _, ← third-is, ← s-is) (passes s h _)

            pub vset_goes : (v z : ℕ) → s.ending ≡ Value v z → (o : Ret) → o ≡ set_element n.place (row t x) (row u y) v z s.after →
                o ≡ vset_at g d env sp n m
            unfolding vset_e
            vset_goes v z seen o o_is =
                o_is ∙
                sym (rw (← r-is, goes r t x found _, ← second_is, ← q-is, goes q u y met _, ← third-is, ← s-is, goes s v z seen _))
