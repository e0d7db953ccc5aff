-- The judge's answer and the model's number say the same after each node.
use Prim.Native.Nat.{ℕ, ◌+◌, ◌-◌, ◌<◌}
use mathlib.Core.Path.{◌≡◌, refl, ap}
use mathlib.Core.Bool.{Bool, true, false}
use native.Mathlib.Omega.{arith}
use borrow.Author.Tests.{lt-ltb, le-ltb, ne_eqb}
use lib.Dec.{eqb}
use Rattle.std.specs.Prelude.{Result, Ok, Err}
use Rattle.std.proofs.lemmas.Bool.{eqb-true}
use Rattle.judge.specs.Scopes.{pick}
use Rattle.judge.specs.Judge.{answer, refuses}
use Rattle.judging.specs.Flaws.{judgement, number, answered}
use Rattle.judging.specs.declared.Flaw.{Flaw}
use Rattle.judging.specs.declared.Flaw.TheVariants.{«Type», Double}

pub told_none : Ok tt ≡ judgement 0
unfolding judgement
told_none = refl

told_type : (i : ℕ) → i < 65536 → Err («Type» i) ≡ judgement (i + 1)
unfolding judgement
told_type i h = rw (ne_eqb (i + 1) 0 (λ e. omega arith), lt-ltb (i + 1) 65537 (omega arith)) (ap (λ j. Err («Type» j)) (omega arith))

told_double : (i : ℕ) → Err (Double i) ≡ judgement (i + 65537)
unfolding judgement
told_double i = rw (ne_eqb (i + 65537) 0 (λ e. omega arith), le-ltb (i + 65537) 65537 (omega arith)) (ap (λ j. Err (Double j)) (omega arith))

module _ (r i : ℕ) (s : Result (Unit {0}) Flaw) where
  abbrev chosen : Bool → Bool → Result (Unit {0}) Flaw
  chosen b d = pick b (λ _. Err («Type» i)) λ _. pick d (λ _. Err (Double i)) λ _. s

  numbered : (b d : Bool) → eqb r 65536 ≡ b → eqb r 131072 ≡ d →
      number (chosen b d) ≡ (pick (pick b (λ _. true) λ _. d) (λ _. r + i - 65535) λ _. number s)
  numbered true d e f = omega (arith, eqb-true r 65536 e)
  numbered false true e f = omega (arith, eqb-true r 131072 f)
  numbered false false e f = refl

  pub number_answered : number (answered r i s) ≡ answer r i (number s)
  unfolding answered answer refuses
  number_answered = numbered (eqb r 65536) (eqb r 131072) refl refl

  told : (b d : Bool) → i < 65536 → s ≡ judgement (number s) → chosen b d ≡ judgement (number (chosen b d))
  told true d l h = told_type i l
  told false true l h = told_double i
  told false false l h = h

  pub told_answered : i < 65536 → s ≡ judgement (number s) → answered r i s ≡ judgement (number (answered r i s))
  unfolding answered
  told_answered l h = told (eqb r 65536) (eqb r 131072) l h
