-- A table with its first entries cleared.
use Rattle.std.specs.Prelude.{ℕ, zero, suc, List, [], ◌∷◌}

-- the first n entries are v, or all where there are fewer; the rest is as it was
abbrev pub zeroed : {A : Type 0} → (v : A) → (n : ℕ) → List A → List A
zeroed v zero l = l
zeroed v (suc n) [] = []
zeroed v (suc n) (x ∷ l) = v ∷ zeroed v n l
