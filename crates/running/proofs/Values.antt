-- The laws of expressions: what the code has found on each way is what the evaluator's definition says.
use mathlib.Core.Path.{◌≡◌, refl, sym, ap, ◌∙◌}
use mathlib.Core.Bool.{Bool, true, false}
use mathlib.Core.List.{List}
use Prim.Native.Nat.{ℕ, suc, ◌+◌, ◌-◌, ◌≤◌, ◌<◌}
use native.Mathlib.Numerals.{add-one}
use lib.Dec.{eqb}
use borrow.Author.Tests.{eq-eqb, ne_eqb, lt-ltb, le-ltb}
use Rattle.nodes.specs.declared.Node.{Node}
use Rattle.nodes.specs.Nodes.{node_at}
use Rattle.machine.specs.declared.Ending.{Ending}
use Rattle.machine.specs.declared.Ending.TheVariants.{Value, NoRule}
use Rattle.machine.specs.Entries.{pick, row_after, row, put_row}
use Rattle.machine.specs.State.{Run, code_at, Tables, tables, Ret, is, on_value, and_then, caught}
use Rattle.machine.specs.Leaves.{negated, combined}
use Rattle.machine.specs.Machine.{Evaluators, on_bit, args, all_args, if_e, and_e, or_e, operator_e, body_e, call_e, apply_e, expr_by, below, expr_at, block_at, level}
use Rattle.machine.specs.Machine.{if_at, operator_in, call_at, args_at, body_at, alloc_at, nth_at, len_at, vset_at}
use Rattle.machine.proofs.Members.{expr_is, args_go}
use Rattle.entering.specs.Opening.{guarded, opens}
use Rattle.stores.proofs.Laws.{NoValue, not_value}
use Rattle.stores.specs.Choices.{is_bit, bit_answer, branch_of, plain_by, plain_value}
use Rattle.running.specs.Parts.{parts_e, apply_v, parts_at, apply_at, inner_c, inner_at}
use Rattle.running.proofs.Laws.{Only, only_then, same_tag, passes, goes, any_value, follow, guard_stops, guard_goes, guard_level, on_one, on_zero, on_branch, not_one, not_zero}

-- `and` goes on after a 1, and `or` after a 0
module _ (g : Run) (S : Evaluators) (env sp : ℕ) (n : Node) (m : Tables) where
  parts_and : parts_e g 1 S env sp n m ≡ and_e g S env sp n m
  unfolding parts_e and_e pick
  parts_and = follow _ _ _ λ t x m₁. by t x m₁ (is_bit t x 1) refl
    where
      second : Tables → Unit {0} → Ret
      second m₁ = λ _. S.expr env sp (node_at g.tree n.child).next m₁

      by : (t x : ℕ) (m₁ : Tables) (b : Bool) → is_bit t x 1 ≡ b →
          pick b (second m₁) (λ _. is (bit_answer t x) m₁) ≡ on_bit t x m₁ (second m₁) (λ _. is (Value 0 0) m₁)
      by t x m₁ true e = sym (on_one t x m₁ _ _ e)
      by t x m₁ false e = sym (not_one t x m₁ _ e)

  parts_or : parts_e g 0 S env sp n m ≡ or_e g S env sp n m
  unfolding parts_e or_e pick
  parts_or = follow _ _ _ λ t x m₁. by t x m₁ (is_bit t x 0) refl
    where
      second : Tables → Unit {0} → Ret
      second m₁ = λ _. S.expr env sp (node_at g.tree n.child).next m₁

      by : (t x : ℕ) (m₁ : Tables) (b : Bool) → is_bit t x 0 ≡ b →
          pick b (second m₁) (λ _. is (bit_answer t x) m₁) ≡ on_bit t x m₁ (λ _. is (Value 0 1) m₁) (second m₁)
      by t x m₁ true e = sym (on_zero t x m₁ _ _ e)
      by t x m₁ false e = sym (not_zero t x m₁ _ e)

-- an answer by four tests
by_tests : (m : Tables) (p q r s : Bool) (a b c d : Ending) →
    is (pick p (λ _. a) λ _. pick q (λ _. b) λ _. pick r (λ _. c) λ _. pick s (λ _. d) λ _. NoRule) m ≡
    pick p (λ _. is a m) λ _. pick q (λ _. is b m) λ _. pick r (λ _. is c m) λ _. pick s (λ _. is d m) λ _. is NoRule m
unfolding pick
by_tests m true q r s a b c d = refl
by_tests m false true r s a b c d = refl
by_tests m false false true s a b c d = refl
by_tests m false false false true a b c d = refl
by_tests m false false false false a b c d = refl

-- ---- an expression is entered

module _ (g : Run) (d env sp : ℕ) (m : Tables) (i : ℕ) (n : Node)
    (n-is : n ≡ node_at g.tree i)
    (r : Ret)
    (r-is : r ≡ guarded d n.place m) where
  pub expr_stops : NoValue r.ending → r ≡ expr_at g d env sp i m
  expr_stops h = guard_stops d n.place m r r-is h _ ∙ sym (expr_is g d env sp i m n n-is)

  module _ (t x : ℕ) (found : r.ending ≡ Value t x) where
    enters : (k : ℕ) → n.kind ≡ k → expr_by g k (code_at g i) (level g x) env sp n r.after ≡ expr_at g d env sp i m
    enters k h =
        sym (
        expr_is g d env sp i m n n-is ∙ guard_goes d n.place m r r-is t x found _ ∙
        ap (λ (a : ℕ). expr_by g a (code_at g i) (below g d) env sp n r.after) h ∙
        ap (λ (S : Evaluators). expr_by g k (code_at g i) S env sp n r.after) (guard_level d n.place m r r-is t x found g)
        )

    pub expr_if : n.kind ≡ 20 → (q : Ret) → q ≡ if_at g x env sp n r.after → q ≡ expr_at g d env sp i m
    unfolding expr_by pick
    expr_if h q q-is = q-is ∙ enters 20 h

    pub expr_and : n.kind ≡ 21 → (q : Ret) → q ≡ parts_at g 1 x env sp n r.after → q ≡ expr_at g d env sp i m
    unfolding expr_by pick
    expr_and h q q-is = q-is ∙ parts_and g (level g x) env sp n r.after ∙ enters 21 h

    pub expr_or : n.kind ≡ 22 → (q : Ret) → q ≡ parts_at g 0 x env sp n r.after → q ≡ expr_at g d env sp i m
    unfolding expr_by pick
    expr_or h q q-is = q-is ∙ parts_or g (level g x) env sp n r.after ∙ enters 22 h

    module _ (h : n.kind ≡ 23) (o : ℕ) (o_is : o ≡ code_at g i) where
      pub expr_call : o < 3 → (q : Ret) → q ≡ call_at g x env sp n r.after → q ≡ expr_at g d env sp i m
      unfolding expr_by apply_e pick
      expr_call l q q-is = q-is ∙ sym (rw (← o_is, lt-ltb o 3 l)) ∙ enters 23 h

      pub expr_operator : 3 ≤ o → (q : Ret) → q ≡ operator_in g o x env sp n r.after → q ≡ expr_at g d env sp i m
      unfolding expr_by apply_e pick
      expr_operator l q q-is = q-is ∙ sym (rw (← o_is, le-ltb o 3 l)) ∙ enters 23 h

    pub expr_alloc : n.kind ≡ 27 → (q : Ret) → q ≡ alloc_at g x env sp n r.after → q ≡ expr_at g d env sp i m
    unfolding expr_by pick
    expr_alloc h q q-is = q-is ∙ enters 27 h

    pub expr_nth : n.kind ≡ 28 → (q : Ret) → q ≡ nth_at g x env sp n r.after → q ≡ expr_at g d env sp i m
    unfolding expr_by pick
    expr_nth h q q-is = q-is ∙ enters 28 h

    pub expr_len : n.kind ≡ 29 → (q : Ret) → q ≡ len_at g x env sp n r.after → q ≡ expr_at g d env sp i m
    unfolding expr_by pick
    expr_len h q q-is = q-is ∙ enters 29 h

    pub expr_vset : n.kind ≡ 30 → (q : Ret) → q ≡ vset_at g x env sp n r.after → q ≡ expr_at g d env sp i m
    unfolding expr_by pick
    expr_vset h q q-is = q-is ∙ enters 30 h

    pub expr_plain : (n.kind ≡ 20 → ⊥) → (n.kind ≡ 21 → ⊥) → (n.kind ≡ 22 → ⊥) → (n.kind ≡ 23 → ⊥) → (n.kind ≡ 27 → ⊥) → (n.kind ≡ 28 → ⊥) →
        (n.kind ≡ 29 → ⊥) → (n.kind ≡ 30 → ⊥) → (c : ℕ) → c ≡ code_at g i → (e : Ending) →
        e ≡ plain_value g.codes r.after.bindings r.after.cells r.after.counts env c n → is e r.after ≡ expr_at g d env sp i m
    unfolding plain_value plain_by expr_by pick
    expr_plain h₁ h₂ h₃ h₄ h₅ h₆ h₇ h₈ c c-is e e-is =
        ap (λ (a : Ending). is a r.after) e-is ∙ plain n.kind h₁ h₂ h₃ h₄ h₅ h₆ h₇ h₈ ∙
        ap (λ (a : ℕ). expr_by g n.kind a (level g x) env sp n r.after) c-is ∙ enters n.kind refl
      where
        plain : (k : ℕ) → (k ≡ 20 → ⊥) → (k ≡ 21 → ⊥) → (k ≡ 22 → ⊥) → (k ≡ 23 → ⊥) → (k ≡ 27 → ⊥) → (k ≡ 28 → ⊥) → (k ≡ 29 → ⊥) → (k ≡ 30 → ⊥) →
            is (plain_by k g.codes r.after.bindings r.after.cells r.after.counts env c n) r.after ≡
            expr_by g k c (level g x) env sp n r.after
        plain k h₁ h₂ h₃ h₄ h₅ h₆ h₇ h₈ =
            by_tests r.after (eqb k 18) (eqb k 19) (eqb k 24) (eqb k 25) _ _ _ _ ∙
            sym (simp (
              ne_eqb k 20 h₁,
              ne_eqb k 21 h₂,
              ne_eqb k 22 h₃,
              ne_eqb k 23 h₄,
              ne_eqb k 27 h₅,
              ne_eqb k 28 h₆,
              ne_eqb k 29 h₇,
              ne_eqb k 30 h₈,
            ))

-- ---- what is entered already

module _ (g : Run) (d env sp : ℕ) (m : Tables) (n : Node) where
  -- the first part is evaluated
  module _ (r : Ret) (r-is : r ≡ expr_at g d env sp n.child m) where
    module _ (not : NoValue r.ending) where
      pub if_passes : r ≡ if_at g d env sp n m
      unfolding if_e
      if_passes = rw (← r-is) (passes r not _)

      pub parts_pass : (b : ℕ) → r ≡ parts_at g b d env sp n m
      unfolding parts_e
      parts_pass b = rw (← r-is) (passes r not _)

      pub call_passes : r ≡ call_at g d env sp n m
      unfolding call_e
      call_passes = rw (← r-is) (passes r not _)

    module _ (t x : ℕ) (found : r.ending ≡ Value t x) where
      module _ (first : ℕ) (first_is : first ≡ (node_at g.tree n.child).next) where
        module _ (e : Ending) (e-is : e ≡ branch_of g.tree first t x) where
          if_chooses : if_at g d env sp n m ≡ on_value e r.after λ _ j _. expr_at g d env sp j r.after
          unfolding if_e
          if_chooses =
              rw (← r-is, goes r t x found _, ← first_is, e-is)
              (on_branch g.tree first t x r.after λ j. expr_at g d env sp j r.after)

          pub if_goes : (k j : ℕ) → e ≡ Value k j → (q : Ret) → q ≡ expr_at g d env sp j r.after → q ≡ if_at g d env sp n m
          if_goes k j h q q-is = q-is ∙ sym (if_chooses ∙ rw h)

          pub if_none : NoValue e → is e r.after ≡ if_at g d env sp n m
          if_none h = not_value e h r.after _ ∙ sym if_chooses

        pub parts_go : (b : ℕ) (c : Bool) → c ≡ is_bit t x b → c ≡ true → (q : Ret) → q ≡ expr_at g d env sp first r.after → q ≡ parts_at g b d env sp n m
        unfolding parts_e pick
        parts_go b c c-is h q q-is = q-is ∙ sym (rw (← r-is, goes r t x found _, ← c-is, h, ← first_is))

      pub parts_end : (b : ℕ) (c : Bool) → c ≡ is_bit t x b → c ≡ false → (e : Ending) → e ≡ bit_answer t x → is e r.after ≡ parts_at g b d env sp n m
      unfolding parts_e pick
      parts_end b c c-is h e e-is = sym (rw (← r-is, goes r t x found _, ← c-is, h, e-is))

      pub call_goes : (q : Ret) → q ≡ apply_at g 23 d env sp t x n r.after → q ≡ call_at g d env sp n m
      unfolding call_e apply_v opens pick
      call_goes q q-is = q-is ∙ sym (rw (← r-is, goes r t x found _))

  -- an operator's first argument is evaluated
  module _ (o first : ℕ) (first_is : first ≡ (node_at g.tree n.child).next) (r : Ret) (r-is : r ≡ expr_at g d env sp first m) where
    pub operator_passes : NoValue r.ending → r ≡ operator_in g o d env sp n m
    unfolding operator_e
    operator_passes h = rw (← first_is, ← r-is) (passes r h _)

    module _ (t x : ℕ) (found : r.ending ≡ Value t x) (second : ℕ) (second_is : second ≡ (node_at g.tree first).next) where
      pub operator_one : second ≡ 0 → (e : Ending) → e ≡ negated o (row t x) → is e r.after ≡ operator_in g o d env sp n m
      unfolding operator_e pick
      operator_one h e e-is = sym (rw (← first_is, ← r-is, goes r t x found _, ← second_is, eq-eqb second 0 h, e-is))

      -- and the second
      module _ (some : second ≡ 0 → ⊥) (q : Ret) (q-is : q ≡ expr_at g d env sp second r.after) where
        pub operator_passes_2 : NoValue q.ending → q ≡ operator_in g o d env sp n m
        unfolding operator_e pick
        operator_passes_2 h = rw (← first_is, ← r-is, goes r t x found _, ← second_is, ne_eqb second 0 some, ← q-is) (passes q h _)

        module _ (u y : ℕ) (met : q.ending ≡ Value u y) (third : ℕ) (third-is : third ≡ (node_at g.tree second).next) where
          pub operator_two : third ≡ 0 → (e : Ending) → e ≡ combined o n.place (row t x) (row u y) → is e q.after ≡ operator_in g o d env sp n m
          unfolding operator_e pick
          operator_two h e e-is =
              sym (rw (
                ← first_is,
                ← r-is,
                goes r t x found _,
                ← second_is,
                ne_eqb second 0 some,
                ← q-is,
                goes q u y met _,
                ← third-is,
                eq-eqb third 0 h,
                e-is,
              ))

          -- and all others
          module _ (more : third ≡ 0 → ⊥) (s : Ret) (s-is : s ≡ args_at g d env sp third q.after) where
            operator_more : operator_in g o d env sp n m ≡ and_then s λ _ _ m₃. is NoRule m₃
            unfolding operator_e pick
            operator_more =
                rw (
                  ← first_is,
                  ← r-is,
                  goes r t x found _,
                  ← second_is,
                  ne_eqb second 0 some,
                  ← q-is,
                  goes q u y met _,
                  ← third-is,
                  ne_eqb third 0 more,
                  ← s-is,
                )

            pub operator_many : (t x : ℕ) → s.ending ≡ Value t x → is NoRule s.after ≡ operator_in g o d env sp n m
            operator_many t x h = sym (operator_more ∙ any_value s t x h λ m₃. is NoRule m₃)

            pub operator_passes_3 : NoValue s.ending → s ≡ operator_in g o d env sp n m
            operator_passes_3 h = passes s h _ ∙ sym operator_more

  -- the arguments are evaluated
  module _ (first : ℕ) (first_is : first ≡ (node_at g.tree n.child).next) (r : Ret) (r-is : r ≡ args_at g d env sp first m) where
    module _ (f tag word : ℕ) where
      pub apply_passes : NoValue r.ending → r ≡ apply_at g f d env sp tag word n m
      unfolding apply_v
      apply_passes h = rw (← first_is, ← r-is) (passes r h _)

      module _ (t k : ℕ) (found : r.ending ≡ Value t k) (q : Ret) (q-is : q ≡ opens g f n.place k sp tag word r.after) where
        pub apply_stops : NoValue q.ending → q ≡ apply_at g f d env sp tag word n m
        unfolding apply_v
        apply_stops h = rw (← first_is, ← r-is, goes r t k found _, ← q-is) (passes q h _)

        module _ (ρ j : ℕ) (opened : q.ending ≡ Value ρ j) (s : Ret) where
          pub apply_evaluates : f ≡ 23 → s ≡ body_at g d ρ sp j q.after → s ≡ apply_at g f d env sp tag word n m
          unfolding apply_v pick
          apply_evaluates h s-is = s-is ∙ sym (rw (← first_is, ← r-is, goes r t k found _, ← q-is, goes q ρ j opened _, eq-eqb f 23 h))

          pub apply_runs : (f ≡ 23 → ⊥) → s ≡ inner_at g 7 d env sp ρ j q.after → s ≡ apply_at g f d env sp tag word n m
          unfolding apply_v pick
          apply_runs h s-is = s-is ∙ sym (rw (← first_is, ← r-is, goes r t k found _, ← q-is, goes q ρ j opened _, ne_eqb f 23 h))

-- what is called and comes to a value is done, in the names that were in force
module _ (g : Run) (f : ℕ) (call : f ≡ 23 → ⊥) (d env sp tag word : ℕ) (n : Node) (m : Tables) where
  call_answers : Only (Value 7 env) (apply_at g f d env sp tag word n m)
  unfolding apply_v inner_c pick
  call_answers = rw (ne_eqb f 23 call) (only_then _ _ _ λ _ k m₁. only_then _ _ _ λ ρ i m₂. only_then _ _ _ λ _ _ m₃ t x is_value. sym is_value)

  pub call_done : (t x : ℕ) (after : Tables) → is (Value t x) after ≡ apply_at g f d env sp tag word n m →
      is (Value 7 x) after ≡ apply_at g f d env sp tag word n m
  call_done t x after came = ap (λ k. is (Value k x) after) (sym (same_tag t x 7 env (call_answers t x (ap (λ (r : Ret). r.ending) (sym came))))) ∙ came

-- ---- a function's body

module _ (g : Run) (d env sp i : ℕ) (m : Tables) (n : Node) (n-is : n ≡ node_at g.tree i) (r : Ret) where
  pub body_evaluates : (n.kind ≡ 1 → ⊥) → r ≡ expr_at g d env sp i m → r ≡ body_at g d env sp i m
  unfolding body_e pick
  body_evaluates h r-is = r-is ∙ sym (rw (← n-is, ne_eqb n.kind 1 h))

  pub body_runs : n.kind ≡ 1 → r ≡ block_at g d env sp n.child m → (e : Ending) → e ≡ caught r.ending → is e r.after ≡ body_at g d env sp i m
  unfolding body_e pick
  body_runs h r-is e e-is = sym (rw (← n-is, eq-eqb n.kind 1 h, ← r-is, ← e-is))

-- ---- the loop over arguments

module _ (g : Run) (d env : ℕ) (k u top many i : ℕ) (m : Tables) (more : u < k) where
  args_are : args g k (level g d) env top many i m ≡ args g (suc (k - 1)) (level g d) env top many i m
  args_are = args_go g u k more (level g d) env top many i m

  pub args_end : i ≡ 0 → is (Value 7 many) m ≡ args g k (level g d) env top many i m
  unfolding args pick
  args_end h = sym (rw (args_are, eq-eqb i 0 h))

  module _ (some : i ≡ 0 → ⊥) (r : Ret) (r-is : r ≡ expr_at g d env top i m) where
    pub args_pass : NoValue r.ending → r ≡ args g k (level g d) env top many i m
    unfolding args pick
    args_pass h = rw (args_are, ne_eqb i 0 some, ← r-is) (passes r h _)

    module _ (t x : ℕ) (found : r.ending ≡ Value t x) where
      module _ (next : ℕ) (next_is : next ≡ (node_at g.tree i).next) where
        pub args_keep : (w : List ℕ) → w ≡ put_row r.after.waiting top t x → (row : ℕ) → row ≡ row_after top →
            args g (k - 1) (level g d) env row (many + 1) next
            (tables r.after.counts r.after.bindings r.after.cells r.after.output w) ≡
            args g k (level g d) env top many i m
        unfolding args pick
        args_keep w w-is row row_is =
            sym (rw (args_are, ne_eqb i 0 some, ← r-is, goes r t x found _, ← next_is, ← w-is, ← row_is, ← add-one many))

pub args_start : (g : Run) (d env sp i : ℕ) (m : Tables) → args g (suc m.counts.units) (level g d) env sp 0 i m ≡ args_at g d env sp i m
unfolding all_args
args_start g d env sp i m = refl
