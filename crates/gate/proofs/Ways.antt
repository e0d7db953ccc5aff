-- RUN's promise on each way through its code.
use mathlib.Core.Path.{◌≡◌, refl, sym, ◌∙◌, ap, subst}
use mathlib.Core.Bool.{Bool, true, false}
use mathlib.Core.List.{List, [], ◌∷◌}
use Rattle.std.specs.Prelude.{Option, None, Some, Ok, Err}
use Prim.Native.Nat.{ℕ, ◌≤◌, ◌<◌}
use native.Mathlib.Omega.{arith}
use lib.Dec.{leb}
use lib.IntN.{ℤ}
use lib.ListN.{length, take}
use Rattle.language.specs.Answers.{done}
use Rattle.language.specs.Limits.{Limits, Admitted}
use Rattle.language.specs.Promises.{text_bytes, Check, Ran, all_large, Run, too_much}
use Rattle.limits.specs.Cleared as limits
use Rattle.machine.specs.Shown.{fresh}
use Rattle.verdict.specs.declared.Refusal.{Refusal}
use Rattle.verdict.specs.declared.Refusal.TheVariants as reason
use Rattle.verdict.specs.Answers.{Verdict, lent, checked}
use Rattle.verdict.specs.Answers as verdict
use Rattle.answers.specs.declared.Answer.{Answer}
use Rattle.answers.specs.declared.Answer.TheVariants.{Length, Limit, Table}
use Rattle.answers.specs.declared.Report.{Report}
use Rattle.answers.specs.Answers.{meant, refusal}
use Rattle.gate.specs.Lent.{working, stores, left}
use Rattle.gate.specs.declared.Within.{Within}
use Rattle.gate.specs.Steps.{numbers_of, Admits, came, RunCoded}
use Rattle.gate.proofs.Tables.{both, fits_in}
use Rattle.gate.proofs.Promised.{refused_text, accepted_text}

-- no refusal is an acceptance
not_done : (reason : Refusal) → ¬ (verdict.refusal_meant reason ≡ done)
not_done reason.Length h = cc
not_done reason.Table h = cc
not_done (reason.Byte p) h = cc
not_done (reason.Number p) h = cc
not_done (reason.Tokens p) h = cc
not_done (reason.Syntax p) h = cc
not_done (reason.Level p) h = cc
not_done (reason.«Type» p) h = cc
not_done (reason.Double p) h = cc

module _ (L : Limits) (text tree words stack scopes notes waiting bindings cells : List ℕ) (output : List ℤ) where
  abbrev Promise : Ran → Type 0
  Promise = Run L text tree (working words stack scopes notes waiting) (stores L bindings cells) output

  -- nothing is changed
  same : {r : Report} (a : Answer) → r ≡ refusal a → Promise (left (refusal a) tree words stack scopes notes waiting bindings cells output) →
      Promise (left r tree words stack scopes notes waiting bindings cells output)
  same a e h = subst (λ r. Promise (left r tree words stack scopes notes waiting bindings cells output)) (sym e) h

  pub long_text : {r : Report} → text_bytes < length text → r ≡ refusal Length → Promise (left r tree words stack scopes notes waiting bindings cells output)
  long_text h e = same Length e (Run.too_long h)

  module _ (short : length text ≤ text_bytes) where
    pub beyond_limits : {r : Report} → ¬ Admitted L → r ≡ refusal Limit → Promise (left r tree words stack scopes notes waiting bindings cells output)
    beyond_limits h e = same Limit e (too_much short h)

    module _ (admitted : Admitted L) {large : Bool} (tested : large ≡ all_large L text tree (working words stack scopes notes waiting) (stores L bindings cells) output) where
      pub small_table : {r : Report} → large ≡ false → r ≡ refusal Table → Promise (left r tree words stack scopes notes waiting bindings cells output)
      small_table f e = same Table e (Run.too_small short admitted (sym tested ∙ f))

      -- the tree words have room, however they were written
      pub tree_room : (t : List ℕ) → large ≡ true → length t ≡ length tree → 4096 ≤ length t
      tree_room t f e =
          let h = (both (leb L.output (length output)) _ (sym tested ∙ f)).1 in
          let k = fits_in 4096 tree _ h in
          omega arith

      module _ (fits : large ≡ true) (v : Verdict) {tree' words' stack' scopes' notes' : List ℕ}
          (judged : Check text tree (lent words stack scopes notes) (checked v tree' words' stack' scopes' notes')) where
        pub refused_run : {r : Report} {reason : Refusal} (a : Answer) {w : List ℕ} → v ≡ Err reason → meant a ≡ verdict.refusal_meant reason → w ≡ limits.zeroed 0 8192 waiting →
            r ≡ refusal a → Promise (left r tree' words' stack' scopes' notes' w bindings cells output)
        refused_run {r} {reason} a {w} is m c e =
            let away : ¬ (verdict.meant v ≡ done) = λ d. not_done reason (sym (ap verdict.meant is) ∙ d) in
            let answers : meant a ≡ verdict.meant v = m ∙ sym (ap verdict.meant is) in
            let h = refused_text 8192 refl L text tree (lent words stack scopes notes) waiting bindings cells output short admitted (sym tested ∙ fits) judged away c in
            subst (λ r. Promise (left r tree' words' stack' scopes' notes' w bindings cells output)) (sym e)
            (subst (λ b. Promise (record { says = record { answer = b; units = 0; bindings = 0; cells = 0; numbers = 0 }; tree = tree'; works = words' ∷ stack' ∷ scopes' ∷ notes' ∷ w ∷ []; stores = bindings ∷ cells ∷ []; output = output })) (sym answers) h)

        pub accepted_run : {r : Report} {u : Unit {0}} {w b c : List ℕ} {o : List ℤ} → v ≡ Ok u →
            RunCoded 8192 L text (take 4096 tree') (fresh L.fuel bindings cells output waiting) (came r w b c o) →
            Promise (left r tree' words' stack' scopes' notes' w b c o)
        accepted_run is e =
            accepted_text 8192 refl L text tree (lent words stack scopes notes) waiting bindings cells output short admitted (sym tested ∙ fits) judged
            (ap verdict.meant is) e

-- a promise within limits is one within the same limits, as given
pub within_given : {K L : Limits} (text tree words stack scopes notes waiting bindings cells : List ℕ) (output : List ℤ) {x : Ran} → K ≡ L →
    Run K text tree (working words stack scopes notes waiting) (stores K bindings cells) output x →
    Run L text tree (working words stack scopes notes waiting) (stores L bindings cells) output x
within_given text tree words stack scopes notes waiting bindings cells output {x} e h =
    subst (λ M. Run M text tree (working words stack scopes notes waiting) (stores M bindings cells) output x) e h

pub made_limits : {L : Limits} {a : Option Within} (w : Within) → Admits L a → a ≡ Some w → Admitted L × (numbers_of w ≡ L)
made_limits {L} w h e = subst (Admits L) e h

pub made_admitted : (L : Limits) {a : Option Within} (w : Within) → Admits L a → a ≡ Some w → Admitted (numbers_of w)
made_admitted L w h e = let x = made_limits w h e in subst Admitted (sym x.1) x.0

pub not_made : {L : Limits} {a : Option Within} → Admits L a → a ≡ None → ¬ Admitted L
not_made {L} h e = subst (Admits L) e h
