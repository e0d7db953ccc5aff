-- A stack at the end of a list, its top at `i`: pushing writes at `i - 1`.
use mathlib.Core.Path.{◌≡◌, ◌∙◌, ap}
use mathlib.Core.List.{List, ◌∷◌}
use Prim.Native.Nat.{ℕ, suc, ◌-◌, ◌≤◌, ◌<◌}
use native.Mathlib.Omega.{arith}
use lib.ListN.{length, take, drop, set}
use lib.Seq.{set_split, drop_at, length-take-le}

pub drop_set : (l : List ℕ) (j v : ℕ) → j < length l → drop j (set l j v) ≡ v ∷ drop (suc j) l
drop_set l j v h = rw (set_split l j v h) (drop_at (take j l) (v ∷ drop (suc j) l) j (length-take-le j l (omega arith)))

pub drop_push : (l : List ℕ) (i v : ℕ) → 1 ≤ i → i ≤ length l → drop (i - 1) (set l (i - 1) v) ≡ v ∷ drop i l
drop_push l i v h k = let e : suc (i - 1) ≡ i = omega arith in drop_set l (i - 1) v (omega arith) ∙ ap (λ (m : ℕ). v ∷ drop m l) e
