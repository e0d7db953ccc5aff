-- A whole run: the machine on a text's tree table reports what the rules report of its tree, and leaves in the lent tables what it should.
use mathlib.Core.Path.{◌≡◌, refl, sym, ◌∙◌, ap, subst}
use mathlib.Core.List.{List, ◌++◌}
use mathlib.Core.Option.{Option, none, some, none-ne-some}
use Prim.Native.Nat.{ℕ, ◌+◌, ◌-◌, ◌*◌, ◌≤◌}
use native.Mathlib.Omega.{arith}
use lib.IntN.{ℤ}
use lib.ListN.{length, get_or, take, drop, replicate}
use lib.Seq.{take-append_seam}
use Rattle.language.specs.Syntax.{Block}
use Rattle.language.specs.Answers.{FUEL, DEPTH, CELLS, BINDINGS, OUTPUT, UNSET, Stop, error, stop_number, Answer, done, stopped}
use Rattle.language.specs.Typing.{Typable}
use Rattle.language.specs.Limits.{Limits, Admitted}
use Rattle.language.specs.Rules.{empty, State, Returned, bind, ended, no_rule, Outcome, ok, halt, run, start}
use Rattle.language.specs.Rules as Rules
use Rattle.language.specs.Outcome.{state_of, end_of, Report, report, report_from}
use Rattle.language.specs.Claims.{NoRule}
use Rattle.language.specs.Promises.{Told, told, zeroed}
use Rattle.language.proofs.Running.Sound.{sound}
use Rattle.nodes.specs.Trees.{Script, AtB, at_block, ReadAs}
use Rattle.nodes.proofs.Program.{root}
use Rattle.machine.specs.declared.Ending.{Ending}
use Rattle.machine.specs.declared.Ending.TheVariants.{Value}
use Rattle.machine.specs.declared.Ending.TheVariants as E
use Rattle.machine.specs.Entries.{pick, ring_rows}
use Rattle.machine.specs.Codes.{Coded, codes_of}
use Rattle.machine.specs.State.{Tables, Ret}
use Rattle.machine.specs.Machine.{block_at}
use Rattle.machine.specs.Shown.{fresh, program, stop_by, answer_of, shown, told_by}
use Rattle.machine.proofs.Codes.{codes_right}
use Rattle.machine.proofs.Relation.{Stage, Kept, R, Plain, plain_limit, plain_range, plain_zero, plain_size, plain_index, Sims, goes, returns, stops, unset, no_way, IsBack, Ran, e_none, Here}
use Rattle.machine.proofs.Agree.{kept_self}
use Rattle.machine.proofs.Adequate.{adequate}

-- an ending that the rules know: a value, one of the ten stops, or no rule
pub data Known : Ending → Type 0 where
  known_value : {t x : ℕ} → Known (Value t x)
  known_stop : {w : Stop} → Plain w → {p : ℕ} → Known (E.Stop (stop_number w) p)
  known_unset : {p q : ℕ} → Known (E.Unset p q)
  known_returned : {t x : ℕ} → Known (E.Returned t x)
  known_none : Known E.NoRule

-- r is what the machine comes to from the tables m for the block b
pub record RunsAs (L : Limits) (b : Block) (m : Tables) (r : Ret) : Type 0 where
  pub reports : report (run L b) ≡ shown L.fuel r
  pub tells : (a : Answer) → told a (state_of (run L b)) ≡ told_by a L.fuel r
  pub ending_known : Known r.ending
  pub output_is : r.after.output ≡ (state_of (run L b)).numbers ++ drop (length (state_of (run L b)).numbers) m.output
  pub bindings_kept : Kept (2 * L.bindings) m.bindings r.after.bindings
  pub cells_kept : Kept (2 * L.cells) m.cells r.after.cells
  pub waiting_kept : Kept (2 * ring_rows) m.waiting r.after.waiting

pub stop_back : {w : Stop} → Plain w → stop_by (stop_number w) ≡ w
unfolding pick
stop_back (plain_limit FUEL) = refl
stop_back (plain_limit DEPTH) = refl
stop_back (plain_limit CELLS) = refl
stop_back (plain_limit BINDINGS) = refl
stop_back (plain_limit OUTPUT) = refl
stop_back plain_range = refl
stop_back plain_zero = refl
stop_back plain_size = refl
stop_back plain_index = refl

known_number : {n p : ℕ} → Known (E.Stop n p) → stop_number (stop_by n) ≡ n
known_number (known_stop w) = ap stop_number (stop_back w)

report_eq : {e e' : Option Answer} {a a' b b' c c' : ℕ} {l l' : List ℤ} → e ≡ e' → a ≡ a' → b ≡ b' → c ≡ c' → l ≡ l' →
    ◌≡◌ {A = Report} (record { end = e; units = a; bindings = b; cells = c; numbers = l })
    (record { end = e'; units = a'; bindings = b'; cells = c'; numbers = l' })
report_eq k p q r s = rw (k, p, q, r, s)

told_eq : (a : Answer) {u u' b b' c c' n n' : ℕ} → u ≡ u' → b ≡ b' → c ≡ c' → n ≡ n' →
    ◌≡◌ {A = Told} (record { answer = a; units = u; bindings = b; cells = c; numbers = n })
    (record { answer = a; units = u'; bindings = b'; cells = c'; numbers = n' })
told_eq a p q r s = rw (p, q, r, s)

units_are : (a b f : ℕ) → a + b ≡ f → a ≡ f - b
units_are a b f h = omega arith

-- the first n entries, where the n numbers stand
front : (n : ℕ) (l o : List ℤ) (out : List ℤ) → length l ≡ n → out ≡ l ++ o → take n out ≡ l
front n l o out e h = ap (take n) h ∙ ap (λ (k : ℕ). take k (l ++ o)) (sym e) ∙ take-append_seam l o

module _ {g : Stage} where
  same_report : {e e' : Option Answer} (s : State) (m : Tables) → e ≡ e' → R g s m →
      report_from e s ≡
      record {
        end = e';
        units = (g.limits).fuel - m.counts.units;
        bindings = m.counts.bindings;
        cells = m.counts.cells;
        numbers = take m.counts.numbers m.output;
      }
  same_report s m e r = report_eq e (units_are _ _ _ r.units) r.bindings r.cells (sym (front _ _ _ _ r.numbers r.output))

  same_told : (a : Answer) (s : State) (m : Tables) → R g s m →
      told a s ≡ record {
        answer = a;
        units = (g.limits).fuel - m.counts.units;
        bindings = m.counts.bindings;
        cells = m.counts.cells;
        numbers = m.counts.numbers;
      }
  same_told a s m r = told_eq a (units_are _ _ _ r.units) r.bindings r.cells r.numbers

-- what holds of an outcome of the rules and one of the machine
record Agrees (g : Stage) (o : Outcome (Unit {0})) (t : Ret) : Type 0 where
  reports : report o ≡ shown (g.limits).fuel t
  known : Known t.ending
  state : R g (state_of o) t.after

agrees : {g : Stage} (p : ℕ) {sp : ℕ} {m : Tables} {o : Outcome Returned} {t : Ret} → Sims g Ran (IsBack g) sp m o t → Agrees g (bind o λ u s. ended u p s) t
unfolding bind
agrees p (goes {a = none} v r h) = record { reports = same_report _ _ refl r; known = known_value; state = r }
agrees p (goes {a = some u} v r h) = absurd v
agrees p (returns {a = none} v r h) = absurd v
agrees p (returns {a = some u} v r h) = record { reports = same_report _ _ refl r; known = known_returned; state = r }
agrees p (stops {p = q} w r) =
    record { reports = same_report _ _ (ap (λ (v : Stop). some (stopped v q)) (sym (stop_back w))) r; known = known_stop w; state = r }
agrees p (unset r) = record { reports = same_report _ _ refl r; known = known_unset; state = r }
agrees p (no_way r) = record { reports = same_report _ _ refl r; known = known_none; state = r }

-- ---- the theorem

-- of a block at the root, whatever the tables held before
pub block_runs : (g : Script) (codes : List ℕ) (L : Limits) {b : Block} (bindings cells : List ℕ) (output : List ℤ) (waiting : List ℕ) → AtB g 0 b → Coded g codes b → Admitted L →
    2 * L.bindings ≤ length bindings → 2 * L.cells ≤ length cells → L.output ≤ length output → 2 * ring_rows ≤ length waiting →
    RunsAs L b (fresh L.fuel bindings cells output waiting) (program g.tree codes L (fresh L.fuel bindings cells output waiting))
unfolding program block_at
block_runs g codes L bindings cells output waiting (at_block k a) w adm hb hc ho hw =
    let old : Tables = fresh L.fuel bindings cells output waiting in
    let stage : Stage = record { script = g; codes = codes; limits = L; old = old } in
    let begin : R stage start old =
    record {
      units = omega arith;
      bindings = refl;
      bindings_in = omega arith;
      bindings_kept = kept_self;
      cells = refl;
      cells_in = omega arith;
      cells_kept = kept_self;
      each = λ a o h. absurd (none-ne-some _ h);
      numbers = refl;
      numbers_in = omega arith;
      output = refl;
      waiting_kept = kept_self;
      roomy = record {
        few_bindings = adm.bindings_le;
        few_cells = adm.cells_le;
        bindings_fit = hb;
        cells_fit = hc;
        output_fit = ho;
        waiting_fit = hw;
      };
    } in
    let here : Here stage empty 0 start old = record { names' = e_none; st = begin } in
    let x = agrees _ ((adequate {g = stage} L.depth).on_c {sp = 0} (record { at = a; coded = w }) here) in
    record {
      reports = x.reports;
      tells = λ c. same_told c _ _ x.state;
      ending_known = x.known;
      output_is = x.state.output;
      bindings_kept = x.state.bindings_kept;
      cells_kept = x.state.cells_kept;
      waiting_kept = x.state.waiting_kept;
    }

-- of every text that reads, on the table of its tree and the right codes
pub text_runs : (g : Script) (codes : List ℕ) (L : Limits) (b : Block) (bindings cells : List ℕ) (output : List ℤ) (waiting : List ℕ) → ReadAs g b → Coded g codes b → Admitted L →
    2 * L.bindings ≤ length bindings → 2 * L.cells ≤ length cells → L.output ≤ length output → 2 * ring_rows ≤ length waiting →
    RunsAs L b (fresh L.fuel bindings cells output waiting) (program g.tree codes L (fresh L.fuel bindings cells output waiting))
text_runs g codes L b bindings cells output waiting h = block_runs g codes L bindings cells output waiting (root h)

-- the same on the codes that a pass down the tree gives
pub coded_runs : (g : Script) (codes : List ℕ) (L : Limits) (b : Block) (bindings cells : List ℕ) (output : List ℤ) (waiting : List ℕ) → ReadAs g b →
    ((i : ℕ) → get_or codes i 0 ≡ get_or (codes_of g) i 0) → Admitted L →
    2 * L.bindings ≤ length bindings → 2 * L.cells ≤ length cells → L.output ≤ length output → 2 * ring_rows ≤ length waiting →
    RunsAs L b (fresh L.fuel bindings cells output waiting) (program g.tree codes L (fresh L.fuel bindings cells output waiting))
coded_runs g codes L b bindings cells output waiting h c = text_runs g codes L b bindings cells output waiting h (codes_right g codes h c)

-- ---- the corollary: a typed program never comes to a state that no rule fits

none_is : (o : Outcome (Unit {0})) → end_of o ≡ none → NoRule o
none_is (ok u s) h = none-ne-some _ (sym h)
none_is (halt (Rules.stop w) p s) h = none-ne-some _ (sym h)
none_is (halt no_rule p s) h = tt

an_answer : (e : Ending) → (answer_of e ≡ none → ⊥) → (a : Answer) × (answer_of e ≡ some a)
an_answer (Value t x) h = (done, refl)
an_answer (E.Stop n p) h = (stopped (stop_by n) p, refl)
an_answer (E.Unset p q) h = (stopped (error (UNSET q)) p, refl)
an_answer (E.Returned t x) h = absurd (h refl)
an_answer E.NoRule h = absurd (h refl)

module _ {L : Limits} {b : Block} {m : Tables} {r : Ret} (h : RunsAs L b m r) where
  -- the end is the machine's
  pub ends_as : end_of (run L b) ≡ answer_of r.ending
  ends_as = ap (λ (t : Report). t.end) h.reports

  -- it has one
  pub never_lost : Typable b → answer_of r.ending ≡ none → ⊥
  never_lost t e = sound L b t (none_is (run L b) (ends_as ∙ e))

  pub never_stuck : Typable b → r.ending ≡ E.NoRule → ⊥
  never_stuck t e = never_lost t (ap answer_of e)

  -- nor does it return
  pub never_returns : Typable b → {n x : ℕ} → r.ending ≡ E.Returned n x → ⊥
  never_returns t e = never_lost t (ap answer_of e)

  -- a stop's number is that of the rules' stop
  pub stop_known : {n p : ℕ} → r.ending ≡ E.Stop n p → stop_number (stop_by n) ≡ n
  stop_known {n} {p} e = known_number (subst Known e h.ending_known)

  -- so it has an answer, and the rules have the same
  pub answered : Typable b → (a : Answer) × (end_of (run L b) ≡ some a) × (answer_of r.ending ≡ some a)
  answered t = let x = an_answer r.ending (never_lost t) in (x.0, ends_as ∙ x.1, x.1)

-- a table that is cleared as far as it was written to is as if cleared before
pub kept_zeroed : {n : ℕ} {old now : List ℕ} → Kept n old now → zeroed n now ≡ zeroed n old
kept_zeroed {n} h = ap (λ (l : List ℕ). replicate n 0 ++ l) h.beyond
