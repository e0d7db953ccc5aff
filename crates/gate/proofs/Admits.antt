-- Limits that are made are those that are admitted.
use mathlib.Core.Path.{◌≡◌, sym, ◌∙◌, subst}
use Rattle.std.specs.Prelude.{Option, None, Some}
use Prim.Native.Nat.{ℕ, ◌≤◌}
use native.Mathlib.Omega.{arith}
use Rattle.language.specs.Limits.{Limits, Admitted}
use Rattle.limits.specs.Made.{admitted}
use Rattle.limits.proofs.Made.{some_admitted, none_admitted}
use Rattle.gate.specs.declared.Within.{Within}
use Rattle.gate.specs.Lent.{limits_of}
use Rattle.gate.specs.Steps.{Admits}

module _ {most n : ℕ} {o : Option ℕ} (made : o ≡ admitted most n) where
  pub beyond : o ≡ None → n ≤ most → ⊥
  beyond e h = omega (arith, none_admitted most n (sym e ∙ made))

  pub within : {x : ℕ} → o ≡ Some x → (x ≡ n) × (n ≤ most)
  within {x} e = some_admitted most n x (sym e ∙ made)

pub all_within : {f d b c o f' d' b' c' o' : ℕ} → (f' ≡ f) × (f ≤ 1000000) → (d' ≡ d) × (d ≤ 200) → (b' ≡ b) × (b ≤ 4096) → (c' ≡ c) × (c ≤ 4096) → (o' ≡ o) × (o ≤ 4096) →
    Admitted (limits_of f d b c o) × (limits_of f' d' b' c' o' ≡ limits_of f d b c o)
all_within p q r s t =
    (record { fuel_le = p.1; depth_le = q.1; bindings_le = r.1; cells_le = s.1; output_le = t.1 }, rw (p.0, q.0, r.0, s.0, t.0))

pub refused_limits : (L : Limits) {o : Option Within} → o ≡ None → ¬ Admitted L → Admits L o
refused_limits L e h = subst (Admits L) (sym e) h
