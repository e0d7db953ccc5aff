-- the two kinds of parameters stand side by side
use mathlib.Core.Path.{◌≡◌}
use mathlib.Core.Bool.{true, false}
use Prim.Native.Nat.{ℕ, zero, suc, ◌+◌, ◌-◌, ◌≤◌}
use native.Mathlib.Omega.{arith}
use borrow.Author.Tests.{ne_eqb}
use Rattle.machine.specs.Entries.{pick}
use Rattle.machine.specs.Leaves.{is_param}
use Rattle.entering.proofs.is_param.Goals as goal

param_by : (k d : ℕ) → k ≡ d + 13 → k ≤ 14 → true ≡ is_param k
unfolding is_param pick
param_by k zero e g = let f : k ≡ 13 = omega arith in rw f
param_by k (suc zero) e g = let f : k ≡ 14 = omega arith in rw f
param_by k (suc (suc d)) e g = absurd (omega arith)

param_none : (k : ℕ) → (k ≡ 13 → ⊥) → (k ≡ 14 → ⊥) → false ≡ is_param k
unfolding is_param pick
param_none k h g = rw (ne_eqb k 13 h, ne_eqb k 14 g)

pub returns-in-13 : goal.returns-in-13
returns-in-13 c = param_by c.args.kind (c.args.kind - 13) (omega arith) (omega arith)

pub returns-in_default : goal.returns-in_default
returns-in_default c = param_none c.args.kind (λ e. omega arith) (λ e. omega arith)

pub returns-in_default-2 : goal.returns-in_default-2
returns-in_default-2 c = param_none c.args.kind (λ e. omega arith) (λ e. omega arith)
