-- How much the promises in numbers pin down: any two answers allowed for one input are equal, nothing carries over from an earlier call, and NAME's numbers are those of
-- the very part of the text.
use mathlib.Core.Path.{◌≡◌, refl, sym, ◌∙◌, ap}
use mathlib.Core.Bool.{Bool, true, false, cond}
use mathlib.Core.List.{List, [], ◌∷◌, ◌++◌}
use Prim.Native.Nat.{ℕ, ◌+◌, ◌≤◌, min}
use native.Mathlib.Omega.{arith}
use lib.IntN.{ℤ}
use lib.Dec.{leb}
use lib.ListN.{length, take, drop, get_or, drop_of_length-le, length-drop}
use lib.Seq.{take_at}
use borrow.Author.Tests.{leb-true, leb-false}
use Rattle.language.specs.Answers.{number_of}
use Rattle.language.specs.Limits.{Limits, Admitted}
use Rattle.language.specs.Promises.{text_bytes, tree_words, Lent, tree_table, large_enough, Checked, Told, told, Ran, all_large}
use Rattle.language.specs.Rules.{start}
use Rattle.language.specs.Words.{is_letter, is_plain, stretch, name_from, name_at}
use Rattle.language.proofs.Claims.{one_check_claim, one_run_claim, check_carries_nothing_over_claim, run_carries_nothing_over_claim}
use Rattle.words.proofs.Stretches.{stretch_take, stretch_short}
use Rattle.mahrullis.specs.Reports.{report_entries, reported, Put, CheckInto, RunInto, NameInto}

-- ---- one answer

one_put : {t u : Told} {report : List ℕ} {r s : ℕ} {p q : List ℕ} → t ≡ u → Put t report r p → Put u report s q → (r ≡ s) × (p ≡ q)
one_put {report = report} e h k = (
  h.answers ∙ (ap (λ (t : Told). number_of t.answer) e ∙ sym k.answers),
  h.holds ∙ (ap (λ (t : Told). reported t ++ drop report_entries report) e ∙ sym k.holds),
)

module _ (text tree : List ℕ) (works : List Lent) (report : List ℕ) where
  pub one_check_into : {r s : ℕ} {t u : List ℕ} {w x : List (List ℕ)} {p q : List ℕ} →
      CheckInto text tree works report r t w p → CheckInto text tree works report s u x q → (r ≡ s) × (t ≡ u) × (w ≡ x) × (p ≡ q)
  one_check_into (CheckInto.unreported h) (CheckInto.unreported k) = (refl, refl, refl, refl)
  one_check_into (CheckInto.unreported h) (CheckInto.checks k _ _) = absurd (omega (arith, h, k))
  one_check_into (CheckInto.checks h _ _) (CheckInto.unreported k) = absurd (omega (arith, h, k))
  one_check_into (CheckInto.checks {c = c} h a put) (CheckInto.checks {c = d} k b put') =
      let e : c ≡ d = (one_check_claim text tree works).1 c d a b in
      let f = one_put (ap (λ (c : Checked). told c.answer start) e) put put' in
      (f.0, ap (λ (c : Checked). c.tree) e, ap (λ (c : Checked). c.works) e, f.1)

module _ (L : Limits) (text tree : List ℕ) (works stores : List Lent) (output : List ℤ) (report : List ℕ) where
  pub one_run_into : {r s : ℕ} {t u : List ℕ} {w x v y : List (List ℕ)} {o n : List ℤ} {p q : List ℕ} →
      RunInto L text tree works stores output report r t w v o p → RunInto L text tree works stores output report s u x y n q →
      (r ≡ s) × (t ≡ u) × (w ≡ x) × (v ≡ y) × (o ≡ n) × (p ≡ q)
  one_run_into (RunInto.unreported h) (RunInto.unreported k) = (refl, refl, refl, refl, refl, refl)
  one_run_into (RunInto.unreported h) (RunInto.runs k _ _) = absurd (omega (arith, h, k))
  one_run_into (RunInto.runs h _ _) (RunInto.unreported k) = absurd (omega (arith, h, k))
  one_run_into (RunInto.runs {x = c} h a put) (RunInto.runs {x = d} k b put') =
      let e : c ≡ d = (one_run_claim L text tree works stores output).1 c d a b in
      let f = one_put (ap (λ (x : Ran). x.says) e) put put' in
      (f.0, ap (λ (x : Ran). x.tree) e, ap (λ (x : Ran). x.works) e, ap (λ (x : Ran). x.stores) e, ap (λ (x : Ran). x.output) e, f.1)

module _ (text : List ℕ) (at : ℕ) (part : List ℕ) where
  pub one_name_into : {r s : ℕ} {p q : List ℕ} → NameInto text at part r p → NameInto text at part s q → (r ≡ s) × (p ≡ q)
  one_name_into (NameInto.unreported h) (NameInto.unreported k) = (refl, refl)
  one_name_into (NameInto.unreported h) (NameInto.names k) = absurd (omega (arith, h, k))
  one_name_into (NameInto.names h) (NameInto.unreported k) = absurd (omega (arith, h, k))
  one_name_into (NameInto.names h) (NameInto.names k) = (refl, refl)

-- ---- nothing carries over: on tables that are large enough, whatever they hold, the same text and limits have the same number, the same report, numbers put out and tree

put_first : {t : Told} {report : List ℕ} {r : ℕ} {p : List ℕ} → Put t report r p → take report_entries p ≡ reported t
put_first {t} {report} h = ap (take report_entries) h.holds ∙ take_at (reported t) (drop report_entries report) report_entries refl

-- as many numbers as the report says
put_many : (x : Ran) {report : List ℕ} {r : ℕ} {p : List ℕ} → Put x.says report r p → take (get_or p 5 0) x.output ≡ take x.says.numbers x.output
put_many x h = ap (λ (l : List ℕ). take (get_or l 5 0) x.output) h.holds

same_put : {t u : Told} {report report' : List ℕ} {r s : ℕ} {p q : List ℕ} → t ≡ u → Put t report r p → Put u report' s q →
    (r ≡ s) × (take report_entries p ≡ take report_entries q)
same_put e h k = (
  h.answers ∙ (ap (λ (t : Told). number_of t.answer) e ∙ sym k.answers),
  put_first h ∙ (ap (λ (t : Told). reported t) e ∙ sym (put_first k)),
)

module _ (text tree tree' : List ℕ) (works works' : List Lent) (report report' : List ℕ) where
  module _ (room : report_entries ≤ length report) (room' : report_entries ≤ length report') where
    module _ (large : large_enough (tree_table tree ∷ works) ≡ true) (large' : large_enough (tree_table tree' ∷ works') ≡ true) where
      pub check_into_afresh : {r s : ℕ} {t u : List ℕ} {w x : List (List ℕ)} {p q : List ℕ} →
          CheckInto text tree works report r t w p → CheckInto text tree' works' report' s u x q →
          (r ≡ s) × (take report_entries p ≡ take report_entries q) × (length text ≤ text_bytes → take tree_words t ≡ take tree_words u)
      check_into_afresh (CheckInto.unreported h) k = absurd (omega (arith, h, room))
      check_into_afresh (CheckInto.checks h _ _) (CheckInto.unreported k) = absurd (omega (arith, k, room'))
      check_into_afresh (CheckInto.checks {c = c} h a put) (CheckInto.checks {c = d} k b put') =
          let e = check_carries_nothing_over_claim text tree tree' works works' c d large large' a b in
          let f = same_put (ap (λ a. told a start) e.0) put put' in
          (f.0, f.1, e.1)

module _ (L : Limits) (text tree tree' : List ℕ) (works works' stores stores' : List Lent) (output output' : List ℤ) (report report' : List ℕ) where
  module _ (room : report_entries ≤ length report) (room' : report_entries ≤ length report') where
    module _ (large : all_large L text tree works stores output ≡ true) (large' : all_large L text tree' works' stores' output' ≡ true) where
      pub run_into_afresh : {r s : ℕ} {t u : List ℕ} {w x v y : List (List ℕ)} {o n : List ℤ} {p q : List ℕ} →
          RunInto L text tree works stores output report r t w v o p → RunInto L text tree' works' stores' output' report' s u x y n q →
          (r ≡ s) × (take report_entries p ≡ take report_entries q) × (take (get_or p 5 0) o ≡ take (get_or q 5 0) n) ×
          (length text ≤ text_bytes → Admitted L → take tree_words t ≡ take tree_words u)
      run_into_afresh (RunInto.unreported h) k = absurd (omega (arith, h, room))
      run_into_afresh (RunInto.runs h _ _) (RunInto.unreported k) = absurd (omega (arith, k, room'))
      run_into_afresh (RunInto.runs {x = c} h a put) (RunInto.runs {x = d} k b put') =
          let e = run_carries_nothing_over_claim L text tree tree' works works' stores stores' output output' c d large large' a b in
          let f = same_put e.0 put put' in
          (f.0, f.1, put_many c put ∙ (e.1 ∙ sym (put_many d put')), e.2)

-- ---- NAME's part

name_take : (s : List ℕ) → take (length (name_from s)) s ≡ name_from s
name_take [] = refl
name_take (b ∷ s) = by (is_letter b)
  where
    by : (t : Bool) → take (length (cond t (stretch is_plain (b ∷ s)) [])) (b ∷ s) ≡ cond t (stretch is_plain (b ∷ s)) []
    by true = sym (stretch_take is_plain (b ∷ s))
    by false = refl

drop_min : (s : List ℕ) (i : ℕ) → drop (min i (length s)) s ≡ drop i s
drop_min s i = by (leb i (length s)) refl
  where
    by : (t : Bool) → leb i (length s) ≡ t → drop (min i (length s)) s ≡ drop i s
    by true e =
        let m : min i (length s) ≡ i = omega (arith, leb-true i (length s) e) in
        ap (λ (k : ℕ). drop k s) m
    by false e =
        let m : min i (length s) ≡ length s = omega (arith, leb-false i (length s) e) in
        ap (λ (k : ℕ). drop k s) m ∙ (drop_of_length-le s {i = length s} (omega arith) ∙ sym (drop_of_length-le s {i = i} (omega (arith, leb-false i (length s) e))))

-- the bytes at NAME's offset, as many as its length, are the name
pub the_very_part : (text : List ℕ) (at : ℕ) → take (length (name_at text at)) (drop (min at (length text)) text) ≡ name_at text at
the_very_part text at = ap (take (length (name_at text at))) (drop_min text at) ∙ name_take (drop at text)

name_short : (s : List ℕ) → length (name_from s) ≤ length s
name_short [] = omega arith
name_short (b ∷ s) = by (is_letter b)
  where
    by : (t : Bool) → length (cond t (stretch is_plain (b ∷ s)) []) ≤ length (b ∷ s)
    by true = stretch_short is_plain (b ∷ s)
    by false = omega arith

-- and it never reaches past the text's end
pub in_the_text : (text : List ℕ) (at : ℕ) → min at (length text) + length (name_at text at) ≤ length text
in_the_text text at = omega (arith, name_short (drop at text), length-drop at text)
