-- Each claim of specs/HouseClaims.antt, proved.
use mathlib.Core.Path.{◌≡◌, refl, sym, ◌∙◌, ap, subst}
use mathlib.Core.Bool.{Bool, true, false}
use mathlib.Core.List.{List, [], ◌∷◌, ◌++◌, map}
use Prim.Native.Nat.{ℕ, ◌≤◌}
use native.Mathlib.Omega.{arith}
use borrow.Author.Tests.{leb-true, leb-false, le-leb, lt-leb}
use lib.Dec.{leb}
use lib.ListN.{length, length-map, take, drop}
use Rattle.language.specs.Syntax.{Block}
use Rattle.language.specs.Answers.{Stop, Answer, done, refused, stopped, Result, fine, refuse}
use Rattle.language.specs.Words.{Word, words_from, words_of, most}
use Rattle.language.specs.Grammar.{BLOCK, Reads}
use Rattle.language.specs.Table.{table}
use Rattle.language.specs.Levels.{levels, deepest}
use Rattle.language.specs.Reading.{Within, Reading, a_program}
use Rattle.language.specs.Typing.{Typable}
use Rattle.language.specs.Promises.{Verdict, typed, verdict_answer, text_bytes, tree_words, Lent, tree_table, large_enough, holding, cleared, Checked, Check, judged}
use Rattle.language.proofs.Reading.One.{one_tree}
use Rattle.language.proofs.Texts.Promised.{one_check}
use Rattle.renaming.proofs.Corresponding.{equal_names}
use Rattle.renaming.proofs.Typed.{typed_alike}
use Rattle.house_form.specs.House.{digits_in, form, form_of, house_form_of, SameTree, WriteAnswer, as_check, ROOM, Written, Write, refuses, no_room, writes}
use Rattle.house_form.specs.HouseClaims.{ReadsBack, EqualForms, SameWords, WritesOnce, wrote, WritesBack, FormFits, PlainDigits, OneWrite, SamplesWritten}
use Rattle.house_form.proofs.Digits.{plain_digits}
use Rattle.house_form.proofs.Back.{words_good, placed, form_back, bare, bare_placed, bare_form, form_bare_words}
use Rattle.house_form.proofs.Moved.{read_alike}
use Rattle.house_form.proofs.Unread.{alike_words}
use Rattle.house_form.proofs.Levels.{same_levels}
use Rattle.house_form.proofs.Tables.{same_table}
use Rattle.house_form.proofs.Length.{form_fits}

-- what an accepted text gives
record Accepted (s : List ℕ) (b : Block) : Type 0 where
  words : List Word
  are : words_of s ≡ fine words
  few : length words ≤ most
  reads : Reads BLOCK b words []
  shallow : Within deepest (levels b)
  types : Typable b

accepted : {s : List ℕ} {b : Block} → Verdict s (fine b) → Accepted s b
accepted (typed h t) = go h t
  where
    go : {s : List ℕ} {b : Block} → Reading s (fine b) → Typable b → Accepted s b
    go (a_program {ts} e f r w) t = record { words = ts; are = e; few = f; reads = r; shallow = w; types = t }

form_is : (s : List ℕ) (ts : List Word) → words_of s ≡ fine ts → house_form_of s ≡ form ts
unfolding house_form_of
form_is s ts e = ap form_of e

again : (s : List ℕ) (ts : List Word) → words_of s ≡ fine ts → words_of (house_form_of s) ≡ fine (placed 0 ts)
again s ts e = ap words_of (form_is s ts e) ∙ form_back ts (words_good s ts e)

same_count : (ts us : List Word) → map bare ts ≡ map bare us → length ts ≡ length us
same_count ts us e = sym (length-map ts bare) ∙ (ap length e ∙ length-map us bare)

levels_same : {b c : Block} → SameTree b c → levels b ≡ levels c
unfolding levels
levels_same h = same_levels h 0 []

pub reads_back : ReadsBack
reads_back s b v =
    let a = accepted v in
    let e = bare_placed 0 a.words in
    let x = read_alike a.words (placed 0 a.words) (sym e) a.reads in
    let n = same_count (placed 0 a.words) a.words e in
    (x.0, typed (a_program (again s a.words a.are) (omega (arith, n, a.few)) x.1 (subst (Within deepest) (levels_same x.2) a.shallow)) (typed_alike equal_names x.2 a.types), x.2)

pub equal_forms : EqualForms
equal_forms s t b c v w = (to, from)
  where
    to : house_form_of s ≡ house_form_of t → SameTree b c
    to e =
        let a = accepted v in let d = accepted w in
        let f : form a.words ≡ form d.words = sym (form_is s a.words a.are) ∙ (e ∙ form_is t d.words d.are) in
        let m = form_bare_words a.words d.words (words_good s a.words a.are) (words_good t d.words d.are) f in
        let x = read_alike a.words d.words m a.reads in
        subst (SameTree b) (one_tree x.1 d.reads) x.2

    from : SameTree b c → house_form_of s ≡ house_form_of t
    from h =
        let a = accepted v in let d = accepted w in
        form_is s a.words a.are ∙ (bare_form a.words d.words (alike_words a.words d.words a.reads d.reads h) ∙ sym (form_is t d.words d.are))

pub same_words_claim : SameWords
same_words_claim = same_table

pub writes_once : WritesOnce
writes_once s b v =
    let a = accepted v in
    form_is (house_form_of s) (placed 0 a.words) (again s a.words a.are) ∙
    (bare_form (placed 0 a.words) a.words (bare_placed 0 a.words) ∙ sym (form_is s a.words a.are))

pub form_fits_claim : FormFits
form_fits_claim s b v h =
    let a = accepted v in
    let f = ap length (form_is s a.words a.are) in
    omega (arith, f, form_fits s a.words a.are, a.few)

pub plain_digits_claim : PlainDigits
plain_digits_claim = plain_digits

-- ---- WRITE

never_stopped : {text tree : List ℕ} {works : List Lent} {c : Checked} → Check text tree works c → (w : Stop) (p : ℕ) → c.answer ≡ stopped w p → ⊥
never_stopped (Check.too_long h) w p e = let z : ◌≡◌ {A = ℕ} 0 1 = cc in omega arith
never_stopped (Check.too_small h l) w p e = let z : ◌≡◌ {A = ℕ} 0 1 = cc in omega arith
never_stopped (judged {v} h l k) w p e = go v e
  where
    go : (v : Result Block) → verdict_answer v ≡ stopped w p → ⊥
    go (fine b) e = let z : ◌≡◌ {A = ℕ} 0 1 = cc in omega arith
    go (refuse r q) e = let z : ◌≡◌ {A = ℕ} 0 1 = cc in omega arith

module _ (text tree : List ℕ) (works : List Lent) (page : List ℕ) where
  abbrev leaves : WriteAnswer → ℕ → Checked → List ℕ → Written
  leaves a n c l = record { answer = a; bytes = n; tree = c.tree; works = c.works; page = l }

  after_check : Answer → Checked → Bool → Written
  after_check done c true = leaves (as_check done) (length (house_form_of text)) c (house_form_of text ++ drop (length (house_form_of text)) page)
  after_check done c false = leaves ROOM 0 c page
  after_check (refused r p) c t = leaves (as_check (refused r p)) 0 c page
  after_check (stopped w p) c t = leaves ROOM 0 c page

  abbrev written_as : Checked → Bool → Written
  written_as c t = after_check c.answer c t

  abbrev rooms : Bool
  rooms = leb (length (house_form_of text)) (length page)

  made : (c : Checked) → Check text tree works c → (a : Answer) → c.answer ≡ a → (t : Bool) → rooms ≡ t → Write text tree works page (after_check a c t)
  unfolding after_check
  made c h done e true r =
      writes (subst (λ (a : Answer). Check text tree works (record { answer = a; tree = c.tree; works = c.works })) e h) (omega (arith, leb-true (length (house_form_of text)) (length page) r))
  made c h done e false r =
      no_room (subst (λ (a : Answer). Check text tree works (record { answer = a; tree = c.tree; works = c.works })) e h) (omega (arith, leb-false (length (house_form_of text)) (length page) r))
  made c h (refused q p) e t r = refuses (subst (λ (a : Answer). Check text tree works (record { answer = a; tree = c.tree; works = c.works })) e h)
  made c h (stopped w p) e t r = absurd (never_stopped h w p e)

  only_write : (c : Checked) → Check text tree works c → {w : Written} → Write text tree works page w → written_as c rooms ≡ w
  unfolding after_check
  only_write c h (refuses k) = ap (λ (d : Checked). written_as d rooms) ((one_check text tree works).1 c _ h k)
  only_write c h (no_room {t} {w} k l) =
      let d : Checked = record { answer = done; tree = t; works = w } in
      ap (λ (e : Checked). written_as e rooms) ((one_check text tree works).1 c d h k) ∙ ap (after_check done d) (lt-leb (length (house_form_of text)) (length page) l)
  only_write c h (writes {t} {w} k l) =
      let d : Checked = record { answer = done; tree = t; works = w } in
      ap (λ (e : Checked). written_as e rooms) ((one_check text tree works).1 c d h k) ∙ ap (after_check done d) (le-leb (length (house_form_of text)) (length page) l)

  pub one_write : ((w : Written) × Write text tree works page w) × ((w w' : Written) → Write text tree works page w → Write text tree works page w' → w ≡ w')
  one_write =
      let c = (one_check text tree works).0 in
      ((written_as c.0 rooms, made c.0 c.1 c.0.answer refl rooms refl), λ w w' h k. sym (only_write c.0 c.1 h) ∙ only_write c.0 c.1 k)

pub one_write_claim : OneWrite
one_write_claim = one_write

-- what was written
front_part : (a b : List ℕ) → take (length a) (a ++ b) ≡ a
front_part [] b = refl
front_part (x ∷ a) b = ap (λ (l : List ℕ). x ∷ l) (front_part a b)

accepts : {text tree : List ℕ} {works : List Lent} {c : Checked} → Check text tree works c → c.answer ≡ done → (b : Block) × Verdict text (fine b)
accepts (Check.too_long h) e = let z : ◌≡◌ {A = ℕ} 0 1 = cc in absurd (omega arith)
accepts (Check.too_small h l) e = let z : ◌≡◌ {A = ℕ} 0 1 = cc in absurd (omega arith)
accepts {text = text} (judged {v} h l k) e = go v k e
  where
    go : (v : Result Block) → Verdict text v → verdict_answer v ≡ done → (b : Block) × Verdict text (fine b)
    go (fine b) k e = (b, k)
    go (refuse r q) k e = let z : ◌≡◌ {A = ℕ} 0 1 = cc in absurd (omega arith)

abbrev Again : (text form tree' : List ℕ) (works' : List Lent) (page' : List ℕ) → Type 0
Again text form tree' works' page' =
    ((b c : Block) × Verdict text (fine b) × SameTree b c × Check form tree' works' (record { answer = done; tree = holding tree_words (table c) tree'; works = cleared works' })) ×
    ((w' : Written) × Write form tree' works' page' w' × (w'.answer ≡ as_check done) × (wrote w' ≡ form))

write_again : (s : List ℕ) (b : Block) → Verdict s (fine b) → length (house_form_of s) ≤ text_bytes → (tree' : List ℕ) (works' : List Lent) (page' : List ℕ) →
    large_enough (tree_table tree' ∷ works') ≡ true → length (house_form_of s) ≤ length page' → Again s (house_form_of s) tree' works' page'
write_again s b v n tree' works' page' l m =
    let x = reads_back s b v in
    let k = judged n l x.1 in
    let e = writes_once s b v in
    ((b, x.0, v, x.2, k), (_, writes k (subst (λ (f : List ℕ). length f ≤ length page') (sym e) m), refl, front_part (house_form_of (house_form_of s)) _ ∙ e))

written_again : {text tree : List ℕ} {works : List Lent} {page : List ℕ} {w : Written} → Write text tree works page w → w.answer ≡ as_check done → w.bytes ≤ text_bytes →
    (tree' : List ℕ) (works' : List Lent) (page' : List ℕ) → large_enough (tree_table tree' ∷ works') ≡ true → w.bytes ≤ length page' →
    Again text (wrote w) tree' works' page'
written_again (refuses k) e n tree' works' page' l m = let z : ◌≡◌ {A = ℕ} 0 1 = cc in absurd (omega arith)
written_again (no_room k r) e n tree' works' page' l m = let z : ◌≡◌ {A = ℕ} 0 1 = cc in absurd (omega arith)
written_again {text = text} {page = page} (writes k r) e n tree' works' page' l m =
    let a = accepts k refl in
    subst (λ (f : List ℕ). Again text f tree' works' page') (sym (front_part (house_form_of text) (drop (length (house_form_of text)) page))) (write_again text a.0 a.1 n tree' works' page' l m)

pub writes_back : WritesBack
writes_back text tree works page w h e n tree' works' page' l m = written_again h e n tree' works' page' l m

pub samples_written : SamplesWritten
unfolding house_form_of digits_in words_from
samples_written = (refl, (refl, (refl, (refl, (refl, (refl, tt))))))
