-- The state's changes: what tables stand for after each, and how an entry is counted.
use mathlib.Core.Path.{◌≡◌, refl, sym, ◌∙◌, ap}
use mathlib.Core.List.{List, [], ◌∷◌, ◌++◌}
use Prim.Native.Nat.{ℕ, zero, suc, ◌+◌, ◌*◌, ◌≤◌, ◌<◌}
use native.Mathlib.Nat.{le_refl}
use native.Mathlib.Omega.{arith}
use lib.Dec.{ltb, ltb→lt, lt→ltb}
use lib.IntN.{ℤ}
use lib.ListN.{length, drop, replicate, length-append, length-replicate, set}
use Rattle.language.specs.Answers.{FUEL, DEPTH, limit}
use Rattle.language.specs.Rules.{Val, Cell, fresh, State, stop, Outcome, halt, within, take_unit, take_bindings, with_cells, put_out, enter, store}
use Rattle.machine.specs.declared.Binding.{Binding}
use Rattle.machine.specs.declared.Cell as Declared
use Rattle.machine.specs.Entries.{unset_tag, ring_rows, put_row, cell, cell_at, put_cell, put_cells, put_binding}
use Rattle.machine.specs.State.{Tables, Ret, bind, new_cells, put_out_in, push, guard}
use Rattle.machine.specs.State as M
use Rattle.machine.proofs.Entries.{row_length, row_beyond, made_small, cell_length, cell_beyond, cell_other, cell_own, cells_length, cells_beyond, cells_before, cells_own, binding_other}
use Rattle.machine.proofs.Lists.{Filled, early, late, nth_filled, Put, here, there, holding, Stored, one_more, length_put, unit_is}
use Rattle.machine.proofs.Relation.{Stage, Kept, Old, CellR, c_unset, c_set, R, Grow, plain_limit, Sims, stops, Spent, IsVal}
use Rattle.machine.proofs.Agree.{kept_then, cell_keep, tag_small, sim_yes, sim_no, sim_within, tighten}

-- a row written among the first n entries
pub kept_row : {n : ℕ} {a l : List ℕ} (k t x : ℕ) → Kept n a l → 2 * suc k ≤ n → Kept n a (put_row l k t x)
kept_row {n} {l = l} k t x h q = record { long = row_length l k t x ∙ h.long; beyond = row_beyond l k t x n q ∙ h.beyond }

-- one binding more, behind the others
pub old_more : (b : List ℕ) (c : ℕ) (x : Binding) → Old b c (put_binding b c x)
old_more b c x k h = binding_other b c x k (omega arith)

module _ {g : Stage} where
  module _ {s : State} {m : Tables} (r : R g s m) where
    pub r_spend : 0 < m.counts.units → R g (take_unit s) (M.spend m)
    r_spend h =
        record {
          units = omega (arith, r.units, h);
          bindings = r.bindings;
          bindings_in = r.bindings_in;
          bindings_kept = r.bindings_kept;
          cells = r.cells;
          cells_in = r.cells_in;
          cells_kept = r.cells_kept;
          each = r.each;
          numbers = r.numbers;
          numbers_in = r.numbers_in;
          output = r.output;
          waiting_kept = r.waiting_kept;
          roomy = r.roomy;
        }

    pub r_push : (k t x : ℕ) → k < ring_rows → R g s (push k t x m)
    r_push k t x h =
        record {
          units = r.units;
          bindings = r.bindings;
          bindings_in = r.bindings_in;
          bindings_kept = r.bindings_kept;
          cells = r.cells;
          cells_in = r.cells_in;
          cells_kept = r.cells_kept;
          each = r.each;
          numbers = r.numbers;
          numbers_in = r.numbers_in;
          output = r.output;
          waiting_kept = kept_row k t x r.waiting_kept (omega arith);
          roomy = r.roomy;
        }

    -- n bindings are made
    pub r_bind : (n : ℕ) (b : List ℕ) → Old m.bindings m.counts.bindings b → Kept (2 * (g.limits).bindings) m.bindings b →
        n + m.counts.bindings ≤ (g.limits).bindings → R g (take_bindings n s) (bind n b m)
    r_bind n b o k h =
        record {
          units = r.units;
          bindings = ap (λ (j : ℕ). n + j) r.bindings;
          bindings_in = h;
          bindings_kept = kept_then r.bindings_kept k;
          cells = r.cells;
          cells_in = r.cells_in;
          cells_kept = r.cells_kept;
          each = λ a c q. cell_keep (r.each a c q) (omega arith) o;
          numbers = r.numbers;
          numbers_in = r.numbers_in;
          output = r.output;
          waiting_kept = r.waiting_kept;
          roomy = r.roomy;
        }

    pub r_put_out : (z : ℤ) → m.counts.numbers < (g.limits).output → R g (put_out z s) (put_out_in z m)
    r_put_out z h =
        record {
          units = r.units;
          bindings = r.bindings;
          bindings_in = r.bindings_in;
          bindings_kept = r.bindings_kept;
          cells = r.cells;
          cells_in = r.cells_in;
          cells_kept = r.cells_kept;
          each = r.each;
          numbers = length_put s.numbers z _ r.numbers;
          numbers_in = h;
          output = out m.counts.numbers m.output r.numbers r.output (omega (arith, r.numbers, r.roomy.output_fit));
          waiting_kept = r.waiting_kept;
          roomy = r.roomy;
        }
      where
        out : (n : ℕ) (l : List ℤ) → length s.numbers ≡ n → l ≡ s.numbers ++ drop (length s.numbers) (g.old).output →
            length s.numbers < length (g.old).output →
            set l n z ≡ (s.numbers ++ z ∷ []) ++ drop (length (s.numbers ++ z ∷ [])) (g.old).output
        out n l e q w = ap (λ (k : List ℤ). set k n z) q ∙ ap (λ (j : ℕ). set (s.numbers ++ drop (length s.numbers) (g.old).output) j z) (sym e)
            ∙ one_more s.numbers (g.old).output z w

    pub r_cells : (n p : ℕ) → p < 65536 → n + m.counts.cells ≤ (g.limits).cells → R g (with_cells (s.cells ++ replicate n (fresh p)) s) (new_cells n p m)
    r_cells n p w h =
        record {
          units = r.units;
          bindings = r.bindings;
          bindings_in = r.bindings_in;
          bindings_kept = r.bindings_kept;
          cells = let e = length-append s.cells (replicate n (fresh p)) in let f = length-replicate n (fresh p) in omega (arith, r.cells, e, f);
          cells_in = h;
          cells_kept = record {
            long = cells_length (cell p unset_tag 0) n m.cells m.counts.cells ∙ r.cells_kept.long;
            beyond = cells_beyond (cell p unset_tag 0) n m.cells m.counts.cells (2 * (g.limits).cells) (omega arith) ∙ r.cells_kept.beyond;
          };
          each = λ a c q. go a c (nth_filled s.cells n (fresh p) a c q);
          numbers = r.numbers;
          numbers_in = r.numbers_in;
          output = r.output;
          waiting_kept = r.waiting_kept;
          roomy = r.roomy;
        }
      where
        go : (a : ℕ) (c : Cell) → Filled s.cells n (fresh p) a c →
            CellR g m.bindings m.counts.bindings c (cell_at (put_cells n m.cells m.counts.cells (cell p unset_tag 0)) a)
        go a c (early q l) = rw (cells_before (cell p unset_tag 0) n m.cells m.counts.cells a (omega (arith, r.cells))) (r.each a c q)
        go a c (late l k q) =
            rw (
              ← q,
              cells_own (cell p unset_tag 0) w (omega arith) n m.cells m.counts.cells a (omega (arith, r.cells)) (omega (arith, r.cells))
                  (omega (arith, r.roomy.few_cells, h)) (omega (arith, r.roomy.cells_fit, r.cells_kept.long)),
            ) c_unset

    pub r_store : (a t x : ℕ) (u : Val) (cs : List Cell) → Stored s.cells a u cs → IsVal g u t x m →
        R g (with_cells cs s) (M.store a t x m)
    r_store a t x u cs d w =
        record {
          units = r.units;
          bindings = r.bindings;
          bindings_in = r.bindings_in;
          bindings_kept = r.bindings_kept;
          cells = d.long ∙ r.cells;
          cells_in = r.cells_in;
          cells_kept = record {
            long = cell_length _ m.cells a ∙ r.cells_kept.long;
            beyond = cell_beyond _ m.cells a (2 * (g.limits).cells) (omega (arith, d.within, r.cells, r.cells_in)) ∙ r.cells_kept.beyond;
          };
          each = λ b c q. go b c (d.puts b c q);
          numbers = r.numbers;
          numbers_in = r.numbers_in;
          output = r.output;
          waiting_kept = r.waiting_kept;
          roomy = r.roomy;
        }
      where
        -- the place that made it is the rules'
        made : (cell_at m.cells a).made ≡ d.was.made
        made = go (r.each a d.was d.before)
          where
            go : {o : Cell} {c : Declared.Cell} → CellR g m.bindings m.counts.bindings o c → c.made ≡ o.made
            go c_unset = refl
            go (c_set v) = refl

        go : (b : ℕ) (c : Cell) → Put s.cells a (holding d.was u) b c →
            CellR g m.bindings m.counts.bindings c (cell_at (put_cell m.cells a (cell (cell_at m.cells a).made t x)) b)
        go b c (here e q) =
            rw (
              e,
              ← q,
              cell_own (cell (cell_at m.cells a).made t x) m.cells a (made_small m.cells a) (tag_small w)
                  (omega (arith, d.within, r.cells, r.cells_in, r.roomy.few_cells))
                  (omega (arith, d.within, r.cells, r.cells_in, r.roomy.cells_fit, r.cells_kept.long)),
              made,
            ) (c_set w)
        go b c (there n q) = rw (cell_other (cell (cell_at m.cells a).made t x) m.cells a b n) (r.each b c q)

  -- ---- an entry: a unit and a level

  abbrev pub spending : {sp : ℕ} (m : Tables) → Grow g sp m (M.spend m)
  spending m = record { more = le_refl _; old = λ k h. refl; waits = λ k s h. refl; fell = omega arith }

  module _ {A : Type 0} {P B : A → (t x : ℕ) → Tables → Type 0} where
    pub sim_guard : (d p : ℕ) {s : State} {sp : ℕ} {m : Tables} {o : Outcome A} (k : Tables → Ret) → R g s m →
        (R g (take_unit s) (M.spend m) → Sims g P B sp (M.spend m) o (k (M.spend m))) →
        Sims g (Spent g m P) B sp m (within (ltb s.units (g.limits).fuel) FUEL p s o) (guard (suc d) p m k)
    unfolding guard
    sim_guard d p {m = m} k r f =
        sim_within _ _ _ _ (unit_is _ _ _ r.units) r λ h.
        let u : 0 < m.counts.units = ltb→lt 0 _ ((unit_is _ _ _ r.units).0 h) in
        sim_yes _ _ (lt→ltb 0 (suc d) (omega arith)) (tighten (omega arith) (spending m) (f (r_spend r u)))

    pub sim_deep : (p : ℕ) {s : State} {sp : ℕ} {m : Tables} (k : Tables → Ret) → R g s m →
        Sims g P B sp m (enter g.limits p s λ s₁. halt (stop (limit DEPTH)) p s₁) (guard zero p m k)
    unfolding guard
    sim_deep p k r =
        sim_within _ _ _ _ (unit_is _ _ _ r.units) r λ h. sim_no _ _ (λ f. f) (stops (plain_limit DEPTH) (r_spend r (ltb→lt 0 _ ((unit_is _ _ _ r.units).0 h))))
