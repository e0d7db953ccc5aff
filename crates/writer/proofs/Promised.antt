-- What WRITE promises, from what CHECK promised and what was put on the page.
use mathlib.Core.Path.{◌≡◌, refl, sym, subst}
use mathlib.Core.Bool.{Bool, true, false, cond}
use mathlib.Core.List.{List, ◌++◌}
use Prim.Native.Nat.{ℕ, ◌≤◌}
use native.Mathlib.Omega.{arith}
use borrow.Author.Tests.{ltb-true, ltb-false}
use lib.Dec.{ltb}
use lib.ListN.{length, drop}
use Rattle.std.specs.Prelude.{None, Some, Ok, Err}
use Rattle.std.specs.Prelude.{Result as Outcome}
use Rattle.language.specs.Syntax.{Block}
use Rattle.language.specs.Answers.{done, Result, fine, refuse}
use Rattle.language.specs.Words.{words_of}
use Rattle.language.specs.Reading.{Reading, a_program}
use Rattle.language.specs.Promises.{Verdict, typed, verdict_answer, Lent, Checked, Check, judged}
use Rattle.verdict.specs.declared.Refusal.{Refusal}
use Rattle.verdict.specs.declared.Refusal.TheVariants.{Length, Table, Byte, Number, Tokens, Syntax, Level, «Type», Double}
use Rattle.verdict.specs.Answers.{Verdict as Said, checked}
use Rattle.house_form.specs.House.{house_form_of, Write, no_room, writes, refuses}
use Rattle.writing.specs.Parts.{Readable}
use Rattle.writing.specs.Pages.{put_of, page_after}
use Rattle.writer.specs.declared.WriteError.{WriteError}
use Rattle.writer.specs.declared.WriteError.TheVariants.{Refused}
use Rattle.writer.specs.Answers.{put_as, written}

module _ {text : List ℕ} where
  read_so : {b : Block} → Reading text (fine b) → Readable (words_of text)
  read_so (a_program {ts} e f r w) = subst Readable (sym e) tt

  judged_so : (v : Result Block) → Verdict text v → verdict_answer v ≡ done → Readable (words_of text)
  judged_so (fine b) (typed h t) e = read_so h
  judged_so (refuse r p) x e = let z : ◌≡◌ {A = ℕ} 0 1 = cc in absurd (omega arith)

  accepted_so : {tree : List ℕ} {works : List Lent} {c : Checked} → Check text tree works c → c.answer ≡ done → (length text ≤ 65536) × Readable (words_of text)
  accepted_so (Check.too_long h) e = let z : ◌≡◌ {A = ℕ} 0 1 = cc in absurd (omega arith)
  accepted_so (Check.too_small h l) e = let z : ◌≡◌ {A = ℕ} 0 1 = cc in absurd (omega arith)
  accepted_so (judged {v} h l x) e = (omega (arith, h), judged_so v x e)

module _ {text tree : List ℕ} {works : List Lent} {t w s o n : List ℕ} where
  -- CHECK said v
  pub said : (v u : Said) → v ≡ u → Check text tree works (checked v t w s o n) → Check text tree works (checked u t w s o n)
  said v u e h = subst (λ (x : Said). Check text tree works (checked x t w s o n)) e h

  -- a refused text is not written
  pub refused_unwritten : (v : Said) {r : Refusal} → v ≡ Err r → Check text tree works (checked v t w s o n) → (page : List ℕ) {x : Outcome ℕ WriteError} → x ≡ Err (Refused r) →
      Write text tree works page (written x t w s o n page)
  refused_unwritten v {r} e h page q =
      subst (λ (x : Outcome ℕ WriteError). Write text tree works page (written x t w s o n page)) (sym q) (by r (said v (Err r) e h))
    where
      by : (r : Refusal) → Check text tree works (checked (Err r) t w s o n) → Write text tree works page (written (Err (Refused r)) t w s o n page)
      by Length h = refuses h
      by Table h = refuses h
      by (Byte p) h = refuses h
      by (Number p) h = refuses h
      by (Tokens p) h = refuses h
      by (Syntax p) h = refuses h
      by (Level p) h = refuses h
      by («Type» p) h = refuses h
      by (Double p) h = refuses h

  -- an accepted text has words, and is short
  pub accepted_readable : (v : Said) {u : Unit {0}} → v ≡ Ok u → Check text tree works (checked v t w s o n) → (length text ≤ 65536) × Readable (words_of text)
  accepted_readable v {u} e h = accepted_so (said v (Ok u) e h) refl

  -- its form is written, or there is no room for it
  pub accepted_written : (v : Said) {u : Unit {0}} → v ≡ Ok u → Check text tree works (checked v t w s o n) → (page after : List ℕ) (r : Outcome ℕ WriteError) →
      (r ≡ put_as (put_of (house_form_of text) page)) × (after ≡ page_after (house_form_of text) page) → Write text tree works page (written r t w s o n after)
  accepted_written v {u} e h page after r q =
      subst (λ (x : Outcome ℕ WriteError). Write text tree works page (written x t w s o n after)) (sym q.0)
      (subst (λ (l : List ℕ). Write text tree works page (written (put_as (put_of (house_form_of text) page)) t w s o n l)) (sym q.1) (go (ltb (length page) (length (house_form_of text))) refl))
    where
      go : (b : Bool) → ltb (length page) (length (house_form_of text)) ≡ b →
          Write text tree works page (written (put_as (cond b None (Some (length (house_form_of text))))) t w s o n (cond b page (house_form_of text ++ drop (length (house_form_of text)) page)))
      go true f = no_room (said v (Ok u) e h) (ltb-true (length page) (length (house_form_of text)) f)
      go false f = writes (said v (Ok u) e h) (ltb-false (length page) (length (house_form_of text)) f)
