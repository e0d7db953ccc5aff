-- The loop over a row is `row_codes`: a node, the nodes below it, then the rest of the row.
use mathlib.Core.Path.{◌≡◌, refl, sym, ap, ◌∙◌, subst}
use mathlib.Core.Bool.{Bool, true, false, cond}
use mathlib.Core.List.{List, [], ◌∷◌, ◌++◌}
use mathlib.Core.Option as names
use Prim.Native.Nat.{ℕ, zero, suc, ◌+◌, ◌≤◌, ◌<◌}
use native.Mathlib.Omega.{arith}
use borrow.Author.Tests.{ne_eqb, eqb-true, eqb-false, ltb-true, ltb-false}
use lib.Dec.{eqb, ltb}
use lib.ListN.{length, get_or, get_or-eq_default}
use Rattle.std.specs.Prelude.{Option, Some, None, IsSome, is_some}
use Rattle.language.specs.Syntax.{Name, Block}
use Rattle.nodes.specs.Nodes.{node_at}
use Rattle.nodes.specs.Trees.{Script, kind, child, next, ReadAs}
use Rattle.nodes.specs.declared.Node.{Node}
use Rattle.machine.specs.Entries.{pick}
use Rattle.machine.specs.Leaves.{is_param}
use Rattle.machine.specs.Program.{tree_in, codes_in, bounds_in}
use Rattle.machine.specs.Codes.{name_of, code_for, after, own_of, entry, row_codes, codes_of}
use Rattle.machine.proofs.Codes.{row_none, row_suc, codes_fit}
use Rattle.coding.specs.Stack.{own_binder, binder_of, when_last, when_more, pushed, deeper, Pushed, Kept, names_in, binder_name, joined}
use Rattle.coding.specs.Pen.{Pen, pen, stored, writes}
use Rattle.coding.specs.Coding.{script, script_in, Blank, RowCoded, CodesWritten}
use Rattle.coding.proofs.Stack.{kept_all, kept_both, pushed_kept, deeper_most, deeper_least, deeper_none, names_kept, names_pushed}
use Rattle.coding.proofs.Pen.{tree_read, code_read, code_past, tree_stored, writes_nil, writes_one, writes_full, writes_tree}
use Rattle.coding.proofs.Pen.{writes_bounds, writes_on, writes_most, writes_node, written_behind}

-- ---- binders by their numbers

pub last_none : (n : ℕ) (b : Option ℕ) → (n ≡ 0 → ⊥) → when_last n b ≡ None
unfolding when_last pick
last_none n b h = rw (ne_eqb n 0 h)

pub more_none : (n : ℕ) (b : Option ℕ) → n ≡ 0 → when_more n b ≡ None
unfolding when_more pick
more_none n b h = rw h

never_false : {A : Type 0} → false ≡ true → A
never_false e = absurd (let z : ◌≡◌ {A = ℕ} 0 1 = ap (λ t. cond t 1 0) e in omega arith)

none_is_none : (b : Option ℕ) → b ≡ None → IsSome b → ⊥
none_is_none None e h = never_false h
none_is_none (Some i) e h = never_false (sym (ap is_some e))

-- a child's number is 16 bits
pub child_small : (t : List ℕ) (i : ℕ) → (node_at t i).child < 65536
unfolding node_at
child_small t i = omega arith

pub next_small : (t : List ℕ) (i : ℕ) → (node_at t i).next < 65536
unfolding node_at
next_small t i = omega arith

pub small_child : (t : List ℕ) (i : ℕ) (n : Node) → n ≡ node_at t i → n.child < 65536
small_child t i n e = subst (λ (x : Node). x.child < 65536) (sym e) (child_small t i)

pub small_first : (t : List ℕ) (f : ℕ) → f ≡ (node_at t 0).child → f < 65536
small_first t f e = let h = child_small t 0 in omega (arith, h, e)

module _ (g : Script) where
  own_is : (k i : ℕ) → own_of g k i ≡ binder_name g (own_binder k (child g i))
  unfolding own_of own_binder binder_name pick
  own_is k i = by (eqb k 4) (eqb k 7) (eqb k 33)
    where
      by : (a b c : Bool) →
          pick a (λ _. names.some (name_of g (child g i))) (λ _. pick b (λ _. names.some (name_of g (child g i))) λ _. pick c (λ _. names.some (name_of g (child g i))) λ _. names.none) ≡
          binder_name g (pick a (λ _. Some (child g i)) λ _. pick b (λ _. Some (child g i)) λ _. pick c (λ _. Some (child g i)) λ _. None)
      by true b c = refl
      by false true c = refl
      by false false true = refl
      by false false false = refl

  entry_is : (own : Option ℕ) (i : ℕ) (Γ : List Name) → entry g (binder_name g own) i Γ ≡ joined (binder_name g (when_last (next g i) own)) Γ
  unfolding entry binder_name when_last joined pick
  entry_is None i Γ = by (eqb (next g i) 0)
    where
      by : (t : Bool) → Γ ≡ joined (binder_name g (pick t (λ _. None) λ _. None)) Γ
      by true = refl
      by false = refl
  entry_is (Some o) i Γ = by (eqb (next g i) 0)
    where
      by : (t : Bool) → pick t (λ _. name_of g o ∷ Γ) (λ _. Γ) ≡ joined (binder_name g (pick t (λ _. Some o) λ _. None)) Γ
      by true = refl
      by false = refl

  after_is : (k i : ℕ) (Γ : List Name) → after g k i Γ ≡ joined (binder_name g (binder_of k i (child g i))) Γ
  unfolding after binder_of binder_name joined pick
  after_is k i Γ = by (ltb k 2) (ltb k 8) (is_param k) (ltb k 32)
    where
      by : (a b c d : Bool) →
          pick a (λ _. Γ) (λ _. pick b (λ _. name_of g (child g i) ∷ Γ) λ _. pick c (λ _. name_of g i ∷ Γ) λ _. pick d (λ _. Γ) λ _. name_of g (child g i) ∷ Γ) ≡
          joined (binder_name g (pick a (λ _. None) λ _. pick b (λ _. Some (child g i)) λ _. pick c (λ _. Some i) λ _. pick d (λ _. None) λ _. Some (child g i))) Γ
      by true b c d = refl
      by false true c d = refl
      by false false true d = refl
      by false false false true = refl
      by false false false false = refl

  -- what a node binds counts only where a sibling follows
  rest_is : (k m i : ℕ) (Γ : List Name) (own : names.Option Name) →
      row_codes g k (after g m i Γ) own (next g i) ≡ row_codes g k (joined (binder_name g (when_more (next g i) (binder_of m i (child g i)))) Γ) own (next g i)
  unfolding when_more pick
  rest_is k m i Γ own = by (eqb (next g i) 0) (eqb-true (next g i) 0)
    where
      by : (t : Bool) → (t ≡ true → next g i ≡ 0) →
          row_codes g k (after g m i Γ) own (next g i) ≡ row_codes g k (joined (binder_name g (pick t (λ _. None) λ _. binder_of m i (child g i))) Γ) own (next g i)
      by true e = rw (e refl) (row_none g k (after g m i Γ) own ∙ sym (row_none g k (joined (binder_name g None) Γ) own))
      by false e = rw (after_is m i Γ)

  -- a node, those below it, and the rest of its row
  node_is : (k : ℕ) (own : Option ℕ) (i : ℕ) (Γ : List Name) → (i ≡ 0 → ⊥) →
      row_codes g (suc k) Γ (binder_name g own) i ≡
      code_for g (kind g i) i (joined (binder_name g (when_last (next g i) own)) Γ) ∷
      row_codes g k (joined (binder_name g (when_last (next g i) own)) Γ) (binder_name g (own_binder (kind g i) (child g i))) (child g i) ++
      row_codes g k
      (joined (binder_name g (when_more (next g i) (binder_of (kind g i) i (child g i)))) (joined (binder_name g (when_last (next g i) own)) Γ))
      (binder_name g own) (next g i)
  node_is k own i Γ z =
      let Δ : List Name = joined (binder_name g (when_last (next g i) own)) Γ in
      row_suc g k Γ (binder_name g own) i z ∙
      (ap (λ (E : List Name). code_for g (kind g i) i E ∷ row_codes g k E (own_of g (kind g i) i) (child g i) ++ row_codes g k (after g (kind g i) i E) (binder_name g own) (next g i))
      (entry_is own i Γ) ∙
      (ap (λ (o : names.Option Name). code_for g (kind g i) i Δ ∷ row_codes g k Δ o (child g i) ++ row_codes g k (after g (kind g i) i Δ) (binder_name g own) (next g i))
      (own_is (kind g i) i) ∙
      ap (λ (l : List ℕ). code_for g (kind g i) i Δ ∷ row_codes g k Δ (binder_name g (own_binder (kind g i) (child g i))) (child g i) ++ l)
      (rest_is k (kind g i) i Δ (binder_name g own))))

-- ---- the loop's invariant: what is left to write of the row

pub record Going (text prog scopes : List ℕ) (base : ℕ) (own : Option ℕ) (first from : ℕ) (p s : List ℕ) (i depth at : ℕ) : Type 0 where
  pub tree_same : tree_in p ≡ tree_in prog
  pub stack_same : Kept base scopes s
  pub high : base ≤ depth
  pub paid : depth ≤ at
  pub few : at ≤ 4096
  pub onward : from ≤ at
  pub small : i < 65536
  pub left : (k : ℕ) → 4096 ≤ from + k →
      (m : ℕ) × (4096 ≤ at + m) ×
      (writes (pen prog from) (row_codes (script_in prog text) k (names_in (script_in prog text) scopes base) (binder_name (script_in prog text) own) first) ≡
      writes (pen p at) (row_codes (script_in prog text) m (names_in (script_in prog text) s depth) (binder_name (script_in prog text) own) i))

pub starts : (text prog scopes : List ℕ) (base : ℕ) (own : Option ℕ) (first from : ℕ) → base ≤ from → from ≤ 4096 → first < 65536 →
    Going text prog scopes base own first from prog scopes first base from
starts text prog scopes base own first from h r f =
    record {
      tree_same = refl;
      stack_same = kept_all base scopes;
      high = omega arith;
      paid = h;
      few = r;
      onward = omega arith;
      small = f;
      left = λ k l. (k, l, refl);
    }

module _ (text prog scopes : List ℕ) (base : ℕ) (own : Option ℕ) (first from : ℕ) (p s : List ℕ) (i depth at : ℕ) (here : Going text prog scopes base own first from p s i depth at) where
  abbrev g : Script
  g = script_in prog text

  -- the row's end, and no more room
  pub row_ends : i ≡ 0 → RowCoded text prog scopes base own first from p s at
  row_ends e =
      record {
        codes_are = λ k h. let r = here.left k h in
            sym (r.2 ∙ (ap (λ (j : ℕ). writes (pen p at) (row_codes g r.0 (names_in g s depth) (binder_name g own) j)) e ∙
            (ap (λ (l : List ℕ). writes (pen p at) l) (row_none g r.0 (names_in g s depth) (binder_name g own)) ∙ writes_nil (pen p at))));
        stack_kept = here.stack_same;
      }

  pub room_ends : 4096 ≤ at → RowCoded text prog scopes base own first from p s at
  room_ends h =
      record {
        codes_are = λ k l. let r = here.left k l in
            sym (r.2 ∙ writes_full (pen p at) (row_codes g r.0 (names_in g s depth) (binder_name g own) i) h);
        stack_kept = here.stack_same;
      }

  -- one node with all below it
  module _ (there : i ≡ 0 → ⊥) (room : at < 4096) (long : 4096 ≤ length scopes) (n : Node) (n-is : n ≡ node_at (tree_in p) i) (a : Option ℕ) (a-is : a ≡ when_last n.next own)
      (s₁ : List ℕ) (inner : ℕ) (in-was : Pushed s depth a s₁ inner) where
    in_is : Pushed s depth (when_last n.next own) s₁ inner
    in_is = subst (λ (u : Option ℕ). Pushed s depth u s₁ inner) a-is in-was

    pub inner_paid : inner ≤ at + 1
    inner_paid = let d = deeper_most depth (when_last n.next own) in let e = in_is.depth_is in let h = here.paid in omega (arith, d, e, h)

    inner_high : depth ≤ inner
    inner_high = let d = deeper_least depth (when_last n.next own) in let e = in_is.depth_is in omega (arith, d, e)

    node_here : n ≡ node_at g.tree i
    node_here = n-is ∙ ap (λ (t : List ℕ). node_at t i) here.tree_same

    kind_here : n.kind ≡ kind g i
    kind_here = ap (λ (x : Node). x.kind) node_here

    child_here : n.child ≡ child g i
    child_here = ap (λ (x : Node). x.child) node_here

    next_here : n.next ≡ next g i
    next_here = ap (λ (x : Node). x.next) node_here

    s_long : depth < length s
    s_long = let e = here.stack_same.size_kept in let h = here.paid in omega (arith, e, h, room, long)

    pub inner_long : 4096 ≤ length s₁
    inner_long =
        let e = here.stack_same.size_kept in let d = (pushed_kept s depth (when_last n.next own)).size_kept in
        let f = ap (λ (l : List ℕ). length l) in_is.stack_is in
        omega (arith, e, d, f, long)

    inner_kept : Kept depth s s₁
    inner_kept = subst (λ (l : List ℕ). Kept depth s l) (sym in_is.stack_is) (pushed_kept s depth (when_last n.next own))

    inner_names : names_in g s₁ inner ≡ joined (binder_name g (when_last n.next own)) (names_in g s depth)
    inner_names =
        ap (λ (l : List ℕ). names_in g l inner) in_is.stack_is ∙
        (ap (λ (d : ℕ). names_in g (pushed s depth (when_last n.next own)) d) in_is.depth_is ∙ names_pushed g s depth (when_last n.next own) (λ _. s_long))

    module _ (c : ℕ) (c-is : c ≡ code_for (script_in p text) n.kind i (names_in (script_in p text) s₁ inner)) (p₁ : List ℕ) (p₁-is : p₁ ≡ stored p at c)
        (o : Option ℕ) (o_is : o ≡ own_binder n.kind n.child) (p₂ s₂ : List ℕ) (at₂ : ℕ)
        (below : RowCoded text p₁ s₁ inner o n.child (at + 1) p₂ s₂ at₂)
        (q : Option ℕ) (q-is : q ≡ binder_of n.kind i n.child) (b : Option ℕ) (b-was : b ≡ when_more n.next q) (s₃ : List ℕ) (deep : ℕ) (out-is : Pushed s₂ inner b s₃ deep) where
      b_is : b ≡ when_more n.next (binder_of n.kind i n.child)
      b_is = b-was ∙ ap (λ (u : Option ℕ). when_more n.next u) q-is

      tree₁ : tree_in p₁ ≡ tree_in prog
      tree₁ = ap tree_in p₁-is ∙ (tree_stored p at c ∙ here.tree_same)

      c_here : c ≡ code_for g n.kind i (names_in g s₁ inner)
      c_here = c-is ∙ ap (λ (t : List ℕ). code_for (script t text) n.kind i (names_in (script t text) s₁ inner)) here.tree_same

      below_here : (k : ℕ) → 4096 ≤ at + 1 + k →
          pen p₂ at₂ ≡ writes (pen (stored p at c) (at + 1)) (row_codes g k (names_in g s₁ inner) (binder_name g (own_binder n.kind n.child)) n.child)
      below_here k h =
          below.codes_are k h ∙
          (ap (λ (t : List ℕ). writes (pen p₁ (at + 1)) (row_codes (script t text) k (names_in (script t text) s₁ inner) (binder_name (script t text) o) n.child)) tree₁ ∙
          (ap (λ (q : List ℕ). writes (pen q (at + 1)) (row_codes g k (names_in g s₁ inner) (binder_name g o) n.child)) p₁-is ∙
          ap (λ (u : Option ℕ). writes (pen (stored p at c) (at + 1)) (row_codes g k (names_in g s₁ inner) (binder_name g u) n.child)) o_is))

      -- of the two pushes at a node one is none
      one_push : IsSome b → inner ≡ depth
      one_push h = by (eqb n.next 0) (eqb-true n.next 0) (eqb-false n.next 0)
        where
          by : (t : Bool) → (t ≡ true → n.next ≡ 0) → (t ≡ false → n.next ≡ 0 → ⊥) → inner ≡ depth
          by true e f = absurd (none_is_none b (b_is ∙ more_none n.next (binder_of n.kind i n.child) (e refl)) h)
          by false e f = in_is.depth_is ∙ (ap (λ (u : Option ℕ). deeper depth u) (last_none n.next own (f refl)) ∙ deeper_none depth)

      out_long : IsSome b → inner < length s₂
      out_long h =
          let e = below.stack_kept.size_kept in let d = one_push h in let q = here.paid in let r = inner_long in
          omega (arith, e, d, q, room, r)

      out_names : names_in g s₃ deep ≡ joined (binder_name g b) (names_in g s₁ inner)
      out_names =
          ap (λ (l : List ℕ). names_in g l deep) out-is.stack_is ∙
          (ap (λ (d : ℕ). names_in g (pushed s₂ inner b) d) out-is.depth_is ∙
          (names_pushed g s₂ inner b out_long ∙ ap (λ (Γ : List Name). joined (binder_name g b) Γ) (names_kept g s₁ s₂ inner below.stack_kept)))

      all_kept : Kept base scopes s₃
      all_kept =
          kept_both base depth scopes s s₃ here.high here.stack_same
          (kept_both depth inner s s₁ s₃ inner_high inner_kept
          (kept_both inner inner s₁ s₂ s₃ (omega arith) below.stack_kept
          (subst (λ (l : List ℕ). Kept inner s₂ l) (sym out-is.stack_is) (pushed_kept s₂ inner b))))

      pub at_on : at + 1 ≤ at₂
      at_on = let w = writes_on (pen (stored p at c) (at + 1)) (row_codes g 4096 (names_in g s₁ inner) (binder_name g (own_binder n.kind n.child)) n.child) in
          let e = ap (λ (v : Pen). v.at) (below_here 4096 (omega arith)) in omega (arith, w, e)

      at_most : at₂ ≤ 4096
      at_most = let w = writes_most (pen (stored p at c) (at + 1)) (row_codes g 4096 (names_in g s₁ inner) (binder_name g (own_binder n.kind n.child)) n.child) (omega (arith, room)) in
          let e = ap (λ (v : Pen). v.at) (below_here 4096 (omega arith)) in omega (arith, w, e)

      deep_paid : deep ≤ at + 1
      deep_paid = by b out-is.depth_is one_push
        where
          by : (u : Option ℕ) → deep ≡ deeper inner u → (IsSome u → inner ≡ depth) → deep ≤ at + 1
          by None e f = let h = inner_paid in let d = deeper_none inner in omega (arith, h, e, d)
          by (Some u) e f =
              let h = here.paid in let q = f refl in let d = deeper_most inner (Some u) in
              omega (arith, h, q, e, d)

      rest : (k : ℕ) → 4096 ≤ from + k →
          (m : ℕ) × (4096 ≤ at₂ + m) ×
          (writes (pen prog from) (row_codes g k (names_in g scopes base) (binder_name g own) first) ≡
          writes (pen p₂ at₂) (row_codes g m (names_in g s₃ deep) (binder_name g own) n.next))
      rest k h = let r = here.left k h in on r.0 r.1 r.2
        where
          on : (m : ℕ) → 4096 ≤ at + m →
              writes (pen prog from) (row_codes g k (names_in g scopes base) (binder_name g own) first) ≡
              writes (pen p at) (row_codes g m (names_in g s depth) (binder_name g own) i) →
              (m : ℕ) × (4096 ≤ at₂ + m) ×
              (writes (pen prog from) (row_codes g k (names_in g scopes base) (binder_name g own) first) ≡
              writes (pen p₂ at₂) (row_codes g m (names_in g s₃ deep) (binder_name g own) n.next))
          on zero l e = absurd (omega (arith, l, room))
          on (suc m) l e = (
            m,
            (let a = at_on in omega (arith, a, l)),
            e ∙ (ap (λ (x : List ℕ). writes (pen p at) x) split ∙ (writes_node p at c kids more room ∙ ap (λ (v : Pen). writes v more) (sym (below_here m (omega (arith, l)))))),
          )
            where
              kids : List ℕ
              kids = row_codes g m (names_in g s₁ inner) (binder_name g (own_binder n.kind n.child)) n.child

              more : List ℕ
              more = row_codes g m (names_in g s₃ deep) (binder_name g own) n.next

              split : row_codes g (suc m) (names_in g s depth) (binder_name g own) i ≡ c ∷ kids ++ more
              split =
                  node_is g m own i (names_in g s depth) there ∙
                  rw (← kind_here, ← child_here, ← next_here, ← inner_names, ← c_here, ← b_is, ← out_names)

      pub goes_on : Going text prog scopes base own first from p₂ s₃ n.next deep at₂
      goes_on =
          record {
            tree_same = ap (λ (v : Pen). tree_in v.prog) (below_here 4096 (omega arith)) ∙
                (writes_tree (pen (stored p at c) (at + 1)) (row_codes g 4096 (names_in g s₁ inner) (binder_name g (own_binder n.kind n.child)) n.child) ∙
                (tree_stored p at c ∙ here.tree_same));
            stack_same = all_kept;
            high = let a = here.high in let b₁ = inner_high in let d = deeper_least inner b in let e = out-is.depth_is in omega (arith, a, b₁, d, e);
            paid = let a = deep_paid in let e = at_on in omega (arith, a, e);
            few = at_most;
            onward = let a = here.onward in let e = at_on in omega (arith, a, e);
            small = subst (λ (x : Node). x.next < 65536) (sym n-is) (next_small (tree_in p) i);
            left = rest;
          }

-- ---- the whole program

-- the root's word stands in the tree
pub root_child : (p : List ℕ) → (node_at p 0).child ≡ (node_at (tree_in p) 0).child
unfolding node_at
root_child p = rw (tree_read p 0 (omega arith))

pub too_short : (text p s : List ℕ) → length s < 4096 → CodesWritten text p s p
too_short text p s h = record { tree_kept = refl; bounds_kept = refl; codes_are = λ l. absurd (omega (arith, h, l)) }

-- the root's code, then those of its row
pub all_coded : (text p s p₁ : List ℕ) (f : ℕ) → f ≡ (node_at (tree_in p) 0).child → length p ≡ 8195 → p₁ ≡ stored p 0 0 → (p₂ s₂ : List ℕ) (r : ℕ) →
    RowCoded text p₁ s 0 None f 1 p₂ s₂ r → CodesWritten text p s p₂
unfolding codes_of names_in binder_name Blank
all_coded text p s p₁ f f-is n p₁-is p₂ s₂ r h =
    record {
      tree_kept = ap (λ (v : Pen). tree_in v.prog) whole ∙ writes_tree (pen p 0) (codes_of (script_in p text));
      bounds_kept = ap (λ (v : Pen). bounds_in v.prog) whole ∙ writes_bounds (pen p 0) (codes_of (script_in p text));
      codes_are = λ l blank i i-low.
          code_read p₂ i i-low ∙
          (ap (λ (v : Pen). get_or v.prog (4096 + i) 0) whole ∙
          (ap (λ (j : ℕ). get_or (writes (pen p 0) (codes_of (script_in p text))).prog j 0) (omega arith) ∙
          written_behind (pen p 0) (codes_of (script_in p text)) i (omega (arith, i-low)) (omega (arith, n))
          (λ k q. ap (λ (j : ℕ). get_or p j 0) (omega arith) ∙ (sym (code_read p k (omega (arith, q))) ∙ blank k))));
    }
  where
    whole : pen p₂ r ≡ writes (pen p 0) (codes_of (script_in p text))
    whole =
        h.codes_are 4096 (omega arith) ∙
        (ap (λ (t : List ℕ). writes (pen p₁ 1) (row_codes (script t text) 4096 [] names.none f)) (ap tree_in p₁-is ∙ tree_stored p 0 0) ∙
        (ap (λ (q : List ℕ). writes (pen q 1) (row_codes (script_in p text) 4096 [] names.none f)) p₁-is ∙
        (ap (λ (i : ℕ). writes (pen (stored p 0 0) 1) (row_codes (script_in p text) 4096 [] names.none i)) f-is ∙
        sym (writes_one (pen p 0) 0 (row_codes (script_in p text) 4096 [] names.none (node_at (tree_in p) 0).child) (omega arith)))))

-- a text that reads has no code past the program's, so the codes are all right
pub all_codes : (g : Script) {b : Block} (p : List ℕ) → ReadAs g b → ((i : ℕ) → i < 4096 → get_or (codes_in p) i 0 ≡ get_or (codes_of g) i 0) →
    (i : ℕ) → get_or (codes_in p) i 0 ≡ get_or (codes_of g) i 0
all_codes g p r h i = by (ltb i 4096) (ltb-true i 4096) (ltb-false i 4096)
  where
    by : (t : Bool) → (t ≡ true → i < 4096) → (t ≡ false → 4096 ≤ i) → get_or (codes_in p) i 0 ≡ get_or (codes_of g) i 0
    by true e f = h i (e refl)
    by false e f = code_past p i (f refl) ∙ sym (get_or-eq_default (codes_of g) 0 (let l = codes_fit g r in let q = f refl in omega (arith, l, q)))
