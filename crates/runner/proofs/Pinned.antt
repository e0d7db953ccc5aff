-- How much the promise with own tables pins down: any two answers allowed for one input are equal, and no table but the output is ever too small.
use mathlib.Core.Path.{◌≡◌, refl, ◌∙◌, ap}
use mathlib.Core.Bool.{Bool, true, false, cond}
use mathlib.Core.List.{List, [], ◌∷◌, ◌++◌}
use Prim.Native.Nat.{ℕ, ◌*◌, ◌≤◌}
use native.Mathlib.Omega.{arith}
use lib.IntN.{ℤ}
use lib.Dec.{leb}
use lib.ListN.{length, length-replicate}
use borrow.Author.Tests.{le-leb}
use Rattle.language.specs.Limits.{Limits, Admitted}
use Rattle.language.specs.Promises.{Lent, tree_table, large_enough, Told, Ran, all_large}
use Rattle.language.proofs.Claims.{one_run_claim}
use Rattle.runner.specs.Own.{empty, works, stores_for, RunOwn}

module _ (L : Limits) (text : List ℕ) (output : List ℤ) where
  pub one_run_own : {t u : Told} {o p : List ℤ} → RunOwn L text output t o → RunOwn L text output u p → (t ≡ u) × (o ≡ p)
  one_run_own (RunOwn.runs {x = c} a) (RunOwn.runs {x = d} b) =
      let e : c ≡ d = (one_run_claim L text _ _ _ output).1 c d a b in
      (ap (λ (x : Ran). x.says) e, ap (λ (x : Ran). x.output) e)

-- ---- the tables are large enough for all limits that are admitted

data Fit : List Lent → Type 0 where
  none : Fit []
  more : {t : Lent} {ts : List Lent} → t.size ≤ length t.holds → Fit ts → Fit (t ∷ ts)

large : (ts : List Lent) → Fit ts → large_enough ts ≡ true
large [] f = refl
large (t ∷ ts) (more h f) = ap (λ (b : Bool). cond b (large_enough ts) false) (le-leb t.size (length t.holds) h) ∙ large ts f

room : (n m : ℕ) → n ≤ m → n ≤ length (empty m)
room n m h = omega (arith, h, length-replicate {A = ℕ} m 0)

if_so : (b : Bool) → cond b true false ≡ b
if_so true = refl
if_so false = refl

module _ (L : Limits) (text : List ℕ) (output : List ℤ) (a : Admitted L) where
  all_fit : Fit (tree_table (empty 4096) ∷ (works ++ stores_for L))
  all_fit =
      more (room 4096 4096 (omega arith))
      (more (room 4096 4096 (omega arith))
      (more (room 4097 4097 (omega arith))
      (more (room 4096 4096 (omega arith))
      (more (room 4096 4096 (omega arith))
      (more (room 8192 8192 (omega arith))
      (more (room (2 * L.bindings) 8192 (omega (arith, a.bindings_le)))
      (more (room (2 * L.cells) 8192 (omega (arith, a.cells_le))) none)))))))

  -- so TABLE is answered exactly where the output is under its limit
  pub only_the_output : all_large L text (empty 4096) works (stores_for L) output ≡ leb L.output (length output)
  only_the_output =
      ap (λ (b : Bool). cond (leb L.output (length output)) b false) (large (tree_table (empty 4096) ∷ (works ++ stores_for L)) all_fit)
      ∙ if_so (leb L.output (length output))
