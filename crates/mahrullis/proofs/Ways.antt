-- The promises in numbers, on each way through the code.
use mathlib.Core.Path.{◌≡◌, sym, subst}
use mathlib.Core.List.{List, [], ◌∷◌, ◌++◌}
use Prim.Native.Nat.{ℕ, ◌≤◌, min}
use lib.IntN.{ℤ}
use lib.ListN.{length, drop}
use Rattle.language.specs.Answers as language
use Rattle.language.specs.Limits.{Limits}
use Rattle.language.specs.Promises.{Check, told, Run}
use Rattle.language.specs.Rules.{start}
use Rattle.language.specs.Words.{name_at}
use Rattle.verdict.specs.Answers.{lent, checked}
use Rattle.verdict.specs.Answers as verdict
use Rattle.answers.specs.declared.Answer.{Answer}
use Rattle.answers.specs.declared.Report.{Report}
use Rattle.answers.specs.Answers.{meant, refusal, said}
use Rattle.gate.specs.Lent.{working, stores, left}
use Rattle.mahrullis.specs.Reports.{report_entries, part_entries, Put, CheckInto, RunInto, NameInto}

pub checked_into : (text tree words stack scopes notes report : List ℕ) (v : verdict.Verdict) (a : Answer) (x : Report) {tree' words' stack' scopes' notes' report' : List ℕ} {r : ℕ} →
    report_entries ≤ length report → Check text tree (lent words stack scopes notes) (checked v tree' words' stack' scopes' notes') → meant a ≡ verdict.meant v →
    x ≡ refusal a → Put (said x) report r report' →
    CheckInto text tree (lent words stack scopes notes) report r tree' (words' ∷ stack' ∷ scopes' ∷ notes' ∷ []) report'
checked_into text tree words stack scopes notes report v a x {report' = report'} {r = r} h checks e f put =
    let put' : Put (told (meant a) start) report r report' = subst (λ (y : Report). Put (said y) report r report') f put in
    CheckInto.checks h checks (subst (λ (y : language.Answer). Put (told y start) report r report') e put')

pub ran_into : (L : Limits) (text tree words stack scopes notes waiting bindings cells : List ℕ) (output : List ℤ) (report : List ℕ) (r : Report)
    {tree' words' stack' scopes' notes' waiting' bindings' cells' : List ℕ} {output' : List ℤ} {report' : List ℕ} {n : ℕ} →
    report_entries ≤ length report →
    Run L text tree (working words stack scopes notes waiting) (stores L bindings cells) output (left r tree' words' stack' scopes' notes' waiting' bindings' cells' output') →
    Put (said r) report n report' →
    RunInto L text tree (working words stack scopes notes waiting) (stores L bindings cells) output report
    n tree' (words' ∷ stack' ∷ scopes' ∷ notes' ∷ waiting' ∷ []) (bindings' ∷ cells' ∷ []) output' report'
ran_into L text tree words stack scopes notes waiting bindings cells output report r h runs put = RunInto.runs h runs put

pub named_into : (text part : List ℕ) (at : ℕ) {name part' : List ℕ} {offset : ℕ} → part_entries ≤ length part → name ≡ name_at text at → offset ≡ min at (length text) →
    part' ≡ (offset ∷ length name ∷ []) ++ drop part_entries part → NameInto text at part 0 part'
named_into text part at h e o put = subst (NameInto text at part 0) (sym put) (rw (e, o) (NameInto.names h))
