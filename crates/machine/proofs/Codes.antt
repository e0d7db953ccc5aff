-- The codes that `codes_of` gives are right, for every text that reads.
use mathlib.Core.Path.{◌≡◌, refl, sym, ap, ◌∙◌, subst}
use mathlib.Core.List.{List, [], ◌∷◌, ◌++◌}
use mathlib.Core.Option.{Option, none, some}
use Prim.Native.Nat.{ℕ, zero, suc, ◌+◌, ◌≤◌}
use native.Mathlib.Omega.{arith}
use lib.IntN.{ℤ}
use lib.ListN.{length, get_or, length-append}
use mir.Syntax.{w64}
use mir.Val.{of_z}
use borrow.Author.Tests.{ne_eqb, eq-eqb}
use Rattle.language.specs.Syntax.{Name, at, TypeTree, Arg, arg, ArgP, Expr, num, name, if_expr, and, or, app, abs, alloc, nth_expr, len, vset, Exprs, one_expr, more_exprs, ExprP, Cmds, last, def_then, stat_then, Def, const, fun, fun_rec, fun_block, fun_rec_block, var, proc, proc_rec, Stat, echo, if_stat, while, call, return, Block, block}
use Rattle.language.specs.Syntax as Syntax
use Rattle.language.specs.Names.{head_operator}
use Rattle.language.specs.Numbers.{ranged}
use Rattle.language.specs.Places.{place_ident}
use Rattle.language.specs.Types.{values, param_names}
use Rattle.language.specs.Table.{Forest, leaf, fork, size, first, shape_type, shape_arg, shape_args, shape_arg_p, shape_args_p, shape_expr, shape_exprs, shape_expr_p, shape_exprs_p, shape_cmds, shape_def, shape_stat, shape_block}
use Rattle.language.specs.Table as F
use Rattle.nodes.specs.Forests.{Laid, laid_none, laid_leaf, laid_fork}
use Rattle.nodes.specs.Trees.{Script, kind, place, child, next, AtType, at_bool, at_int, at_arrow, at_vec, at_val_param, at_var_param, AtParams, at_no_param, at_more_params, AtE, at_num, at_name, at_if, at_and, at_or, at_app, at_abs, at_alloc, at_nth, at_len, at_vset, AtEs, at_one_expr, at_more_exprs, AtA, at_val, at_adr, AtAs, at_no_arg, at_more_args, AtCs, at_last, at_def_then, at_stat_then, AtD, at_const, at_fun, at_fun_rec, at_fun_block, at_fun_rec_block, at_var, at_proc, at_proc_rec, AtS, at_echo, at_set, at_if_stat, at_while, at_call, at_return, AtB, at_block, ReadAs}
use Rattle.nodes.specs.Written.{number_at}
use Rattle.nodes.proofs.Laws.{type_there, params_there, expr_there}
use Rattle.nodes.proofs.Program.{few_nodes, laid_program, root}
use Rattle.machine.specs.Entries.{pick}
use Rattle.machine.specs.Leaves.{is_param}
use Rattle.machine.specs.Codes.{code_of, operator_no, word_of_number, extended, defined, Used, CodedE, CodedEs, CodedA, CodedAs, CodedCs, CodedD, CodedS, CodedB, Coded, most_nodes, name_of, operator_at, code_for, after, own_of, entry, row_codes, codes_of}

-- a function's parameters as a procedure's
shape_values : (ps : List Arg) (z : Forest) → shape_args ps z ≡ shape_args_p (values ps) z
unfolding shape_arg shape_args shape_arg_p shape_args_p
shape_values [] z = refl
shape_values (arg x t ∷ ps) z = ap (λ s. fork 13 (place_ident x) (shape_type t F.none) s) (shape_values ps z)

module _ (g : Script) where
  pub row_none : (k : ℕ) (Γ : List Name) (own : Option Name) → row_codes g k Γ own 0 ≡ []
  unfolding row_codes pick
  row_none zero Γ own = refl
  row_none (suc k) Γ own = refl

  pub row_suc : (k : ℕ) (Γ : List Name) (own : Option Name) (i : ℕ) → (i ≡ 0 → ⊥) → row_codes g (suc k) Γ own i ≡
      code_for g (kind g i) i (entry g own i Γ) ∷
      row_codes g k (entry g own i Γ) (own_of g (kind g i) i) (child g i) ++ row_codes g k (after g (kind g i) i (entry g own i Γ)) own (next g i)
  unfolding row_codes pick
  row_suc k Γ own i z = rw (ne_eqb i 0 z)

  -- a row has as many codes as nodes
  row_length : {f : Forest} {n : ℕ} → Laid g.tree f n → (n ≡ 0 → ⊥) → (k : ℕ) (Γ : List Name) (own : Option Name) → size f ≤ k →
      length (row_codes g k Γ own (first f n)) ≡ size f
  unfolding size first
  row_length laid_none z k Γ own h = ap (λ (l : List ℕ). length l) (row_none k Γ own)
  row_length (laid_leaf x a) z zero Γ own h = absurd (omega (arith, h))
  row_length (laid_leaf {n = n} x a) z (suc k) Γ own h =
      let r = row_length a (λ e. omega (arith, e)) k (after g (kind g n) n (entry g own n Γ)) own (omega (arith, h)) in
      rw (row_suc k Γ own n z, x.child_is, x.next_is, row_none k (entry g own n Γ) (own_of g (kind g n) n)) (omega (arith, r))
  row_length (laid_fork x a b) z zero Γ own h = absurd (omega (arith, h))
  row_length (laid_fork {n = n} {c = c} {s = s} x a b) z (suc k) Γ own h =
      let q = row_length a (λ e. omega (arith, e)) k (entry g own n Γ) (own_of g (kind g n) n) (omega (arith, h)) in
      let r = row_length b (λ e. omega (arith, e)) k (after g (kind g n) n (entry g own n Γ)) own (omega (arith, h)) in
      let t = length-append (row_codes g k (entry g own n Γ) (own_of g (kind g n) n) (first c (n + 1)))
      (row_codes g k (after g (kind g n) n (entry g own n Γ)) own (first s (n + 1 + size c))) in
      rw (row_suc k Γ own n z, x.child_is, x.next_is) (omega (arith, q, r, t))

module _ (g : Script) (codes : List ℕ) where
  -- from the node n on the codes are these
  abbrev From : ℕ → List ℕ → Type 0
  From n [] = Unit {0}
  From n (c ∷ l) = (get_or codes n 0 ≡ c) × From (n + 1) l

  from_append : (a b : List ℕ) (n : ℕ) → From n (a ++ b) → From n a × From (n + length a) b
  from_append [] b n h = (tt, subst (λ (i : ℕ). From i b) (omega arith) h)
  from_append (c ∷ a) b n h = let r = from_append a b (n + 1) h.1 in ((h.0, r.0), subst (λ (i : ℕ). From i b) (omega arith) r.1)

  from_all : (l : List ℕ) (n : ℕ) → ((k : ℕ) → get_or codes (n + k) 0 ≡ get_or l k 0) → From n l
  from_all [] n h = tt
  from_all (c ∷ l) n h =
      (ap (λ (i : ℕ). get_or codes i 0) (omega arith) ∙ h 0, from_all l (n + 1) (λ k. ap (λ (i : ℕ). get_or codes i 0) (omega arith) ∙ h (suc k)))

  -- the row from the node i on, of a forest's nodes, has the codes of the pass
  data Scoped : List Name → Option Name → ℕ → Forest → Type 0 where
    sc_none : {Γ : List Name} {own : Option Name} {i : ℕ} → Scoped Γ own i F.none
    sc_leaf : {Γ : List Name} {own : Option Name} {i k p : ℕ} {s : Forest} → get_or codes i 0 ≡ code_for g (kind g i) i (entry g own i Γ) →
        Scoped (after g (kind g i) i (entry g own i Γ)) own (next g i) s → Scoped Γ own i (leaf k p s)
    sc_fork : {Γ : List Name} {own : Option Name} {i k p : ℕ} {c s : Forest} → get_or codes i 0 ≡ code_for g (kind g i) i (entry g own i Γ) →
        Scoped (entry g own i Γ) (own_of g (kind g i) i) (child g i) c → Scoped (after g (kind g i) i (entry g own i Γ)) own (next g i) s → Scoped Γ own i (fork k p c s)

  row_scoped : {f : Forest} {n : ℕ} → Laid g.tree f n → (n ≡ 0 → ⊥) → (k : ℕ) (Γ : List Name) (own : Option Name) → size f ≤ k →
      From n (row_codes g k Γ own (first f n)) → Scoped Γ own (first f n) f
  unfolding size first
  row_scoped laid_none z k Γ own h t = sc_none
  row_scoped (laid_leaf x a) z zero Γ own h t = absurd (omega (arith, h))
  row_scoped (laid_leaf {n = n} {s = s} x a) z (suc k) Γ own h t =
      let u = subst (From n) (row_suc g k Γ own n z) t in
      let v : From (n + 1) (row_codes g k (after g (kind g n) n (entry g own n Γ)) own (first s (n + 1))) =
      subst (λ (l : List ℕ). From (n + 1) l)
      (ap (λ (i : ℕ). row_codes g k (entry g own n Γ) (own_of g (kind g n) n) i ++ row_codes g k (after g (kind g n) n (entry g own n Γ)) own (next g n)) x.child_is ∙
      (ap (λ (l : List ℕ). l ++ row_codes g k (after g (kind g n) n (entry g own n Γ)) own (next g n)) (row_none g k (entry g own n Γ) (own_of g (kind g n) n)) ∙
      ap (λ (i : ℕ). row_codes g k (after g (kind g n) n (entry g own n Γ)) own i) x.next_is)) u.1 in
      sc_leaf u.0 (subst (λ (i : ℕ). Scoped (after g (kind g n) n (entry g own n Γ)) own i s) (sym x.next_is)
      (row_scoped a (λ e. omega (arith, e)) k (after g (kind g n) n (entry g own n Γ)) own (omega (arith, h)) v))
  row_scoped (laid_fork x a b) z zero Γ own h t = absurd (omega (arith, h))
  row_scoped (laid_fork {n = n} {c = c} {s = s} x a b) z (suc k) Γ own h t =
      let Δ : List Name = entry g own n Γ in
      let inner : Option Name = own_of g (kind g n) n in
      let Δ' : List Name = after g (kind g n) n Δ in
      let kids : List ℕ = row_codes g k Δ inner (first c (n + 1)) in
      let rest : List ℕ = row_codes g k Δ' own (first s (n + 1 + size c)) in
      let u = subst (From n) (row_suc g k Γ own n z) t in
      let v : From (n + 1) (kids ++ rest) =
      subst (λ (l : List ℕ). From (n + 1) l)
      (ap (λ (i : ℕ). row_codes g k Δ inner i ++ row_codes g k Δ' own (next g n)) x.child_is ∙ ap (λ (i : ℕ). kids ++ row_codes g k Δ' own i) x.next_is) u.1 in
      let w : From (n + 1) kids × From (n + 1 + length kids) rest = from_append kids rest (n + 1) v in
      let q : length kids ≡ size c = row_length g a (λ e. omega (arith, e)) k Δ inner (omega (arith, h)) in
      sc_fork u.0 (subst (λ (i : ℕ). Scoped Δ inner i c) (sym x.child_is) (row_scoped a (λ e. omega (arith, e)) k Δ inner (omega (arith, h)) w.0))
      (subst (λ (i : ℕ). Scoped Δ' own i s) (sym x.next_is)
      (row_scoped b (λ e. omega (arith, e)) k Δ' own (omega (arith, h)) (subst (λ (i : ℕ). From (n + 1 + i) rest) q w.1)))

  -- ---- from the pass to the trees

  -- by the kind of a node: its code, the names behind it, the own name within it
  code_by : (i k : ℕ) (Γ : List Name) {c : ℕ} → kind g i ≡ k → c ≡ code_for g (kind g i) i Γ → c ≡ code_for g k i Γ
  code_by i k Γ e h = h ∙ ap (λ (j : ℕ). code_for g j i Γ) e

  behind : (i k : ℕ) (Γ : List Name) {own : Option Name} {j : ℕ} {f : Forest} → kind g i ≡ k → Scoped (after g (kind g i) i Γ) own j f → Scoped (after g k i Γ) own j f
  behind i k Γ {own} {j} {f} e h = subst (λ (x : ℕ). Scoped (after g x i Γ) own j f) e h

  kids_of : (i k : ℕ) {Γ : List Name} {j : ℕ} {f : Forest} → kind g i ≡ k → Scoped Γ (own_of g (kind g i) i) j f → Scoped Γ (own_of g k i) j f
  kids_of i k {Γ} {j} {f} e h = subst (λ (x : ℕ). Scoped Γ (own_of g x i) j f) e h

  -- where a row goes on its own name is not in force
  goes_on : (own : Option Name) (i : ℕ) (Γ : List Name) → (next g i ≡ 0 → ⊥) → entry g own i Γ ≡ Γ
  unfolding entry pick
  goes_on none i Γ z = refl
  goes_on (some f) i Γ z = rw (ne_eqb (next g i) 0 z)

  at_end : (f : Name) (i : ℕ) (Γ : List Name) → next g i ≡ 0 → entry g (some f) i Γ ≡ f ∷ Γ
  unfolding entry pick
  at_end f i Γ z = rw (eq-eqb (next g i) 0 z)

  -- what stands before a body
  past : (own : Option Name) (i k : ℕ) (Γ : List Name) {f : Forest} → kind g i ≡ k → (next g i ≡ 0 → ⊥) → Scoped (after g (kind g i) i (entry g own i Γ)) own (next g i) f →
      Scoped (after g k i Γ) own (next g i) f
  past own i k Γ {f} e z h = subst (λ (Δ : List Name). Scoped (after g k i Δ) own (next g i) f) (goes_on own i Γ z) (behind i k (entry g own i Γ) e h)

  past_name : {i p : ℕ} {Γ : List Name} {own : Option Name} {s : Forest} → kind g i ≡ 19 → (next g i ≡ 0 → ⊥) → Scoped Γ own i (leaf 19 p s) → Scoped Γ own (next g i) s
  unfolding after is_param pick
  past_name {i} {Γ = Γ} {own} e z (sc_leaf c h) = past own i 19 Γ e z h

  past_type : {i : ℕ} {t : TypeTree} {Γ : List Name} {own : Option Name} (s : Forest) → AtType g i t → (next g i ≡ 0 → ⊥) → Scoped Γ own i (shape_type t s) → Scoped Γ own (next g i) s
  unfolding after is_param pick shape_type
  past_type {i} {Γ = Γ} {own} s (at_bool k) z (sc_leaf c h) = past own i 15 Γ k.kind_is z h
  past_type {i} {Γ = Γ} {own} s (at_int k) z (sc_leaf c h) = past own i 16 Γ k.kind_is z h
  past_type {i} {Γ = Γ} {own} s (at_arrow k a b e) z (sc_fork c d h) = past own i 17 Γ k.kind_is z h
  past_type {i} {Γ = Γ} {own} s (at_vec k a e) z (sc_fork c d h) = past own i 26 Γ k.kind_is z h

  past_params : {i j : ℕ} {ps : List ArgP} {Γ : List Name} {own : Option Name} (s : Forest) → AtParams g i ps j → (j ≡ 0 → ⊥) → Scoped Γ own i (shape_args_p ps s) →
      Scoped (extended (param_names ps) Γ) own j s
  unfolding after is_param pick shape_arg_p shape_args_p
  past_params s (at_no_param a b) z h = h
  past_params {i} {Γ = Γ} {own} s (at_more_params (at_val_param k t e) b) z (sc_fork c d h) = past_params s b z (past own i 13 Γ k.kind_is (params_there b z) h)
  past_params {i} {Γ = Γ} {own} s (at_more_params (at_var_param k t e) b) z (sc_fork c d h) = past_params s b z (past own i 14 Γ k.kind_is (params_there b z) h)

  past_values : {i j : ℕ} (ps : List Arg) {Γ : List Name} {own : Option Name} (s : Forest) → AtParams g i (values ps) j → (j ≡ 0 → ⊥) → Scoped Γ own i (shape_args ps s) →
      Scoped (extended (param_names (values ps)) Γ) own j s
  past_values {i} ps {Γ} {own} s a z h = past_params s a z (subst (λ (f : Forest). Scoped Γ own i f) (shape_values ps s) h)

  -- the row of parameters ends at one node
  one_end : {i j j' : ℕ} {ps : List ArgP} → AtParams g i ps j → AtParams g i ps j' → j ≡ j'
  one_end (at_no_param a b) (at_no_param c d) = refl
  one_end (at_more_params a b) (at_more_params c d) = one_end b d

  -- the body of a recursive definition
  own_leaf : (f : Name) (j : ℕ) (Γ : List Name) {k p : ℕ} → next g j ≡ 0 → get_or codes j 0 ≡ code_for g (kind g j) j (entry g (some f) j Γ) →
      Scoped (f ∷ Γ) none j (leaf k p F.none)
  unfolding entry
  own_leaf f j Γ e c = sc_leaf (c ∙ ap (code_for g (kind g j) j) (at_end f j Γ e)) sc_none

  own_fork : (f : Name) (j : ℕ) (Γ : List Name) {k p : ℕ} {d : Forest} → next g j ≡ 0 → get_or codes j 0 ≡ code_for g (kind g j) j (entry g (some f) j Γ) →
      Scoped (entry g (some f) j Γ) (own_of g (kind g j) j) (child g j) d → Scoped (f ∷ Γ) none j (fork k p d F.none)
  unfolding entry
  own_fork f j Γ {d = d} e c h =
      sc_fork (c ∙ ap (code_for g (kind g j) j) (at_end f j Γ e))
      (subst (λ (Δ : List Name). Scoped Δ (own_of g (kind g j) j) (child g j) d) (at_end f j Γ e) h) sc_none

  own_expr : (e : Expr) (f : Name) {j : ℕ} {Γ : List Name} → next g j ≡ 0 → Scoped Γ (some f) j (shape_expr e F.none) → Scoped (f ∷ Γ) none j (shape_expr e F.none)
  unfolding shape_expr
  own_expr (num p z) f {j} {Γ} e (sc_leaf c sc_none) = own_leaf f j Γ e c
  own_expr (name x) f {j} {Γ} e (sc_leaf c sc_none) = own_leaf f j Γ e c
  own_expr (if_expr p a b d) f {j} {Γ} e (sc_fork c h sc_none) = own_fork f j Γ e c h
  own_expr (and p a b) f {j} {Γ} e (sc_fork c h sc_none) = own_fork f j Γ e c h
  own_expr (or p a b) f {j} {Γ} e (sc_fork c h sc_none) = own_fork f j Γ e c h
  own_expr (app p a b) f {j} {Γ} e (sc_fork c h sc_none) = own_fork f j Γ e c h
  own_expr (abs p a b) f {j} {Γ} e (sc_fork c h sc_none) = own_fork f j Γ e c h
  own_expr (alloc p t a) f {j} {Γ} e (sc_fork c h sc_none) = own_fork f j Γ e c h
  own_expr (nth_expr p a b) f {j} {Γ} e (sc_fork c h sc_none) = own_fork f j Γ e c h
  own_expr (len p a) f {j} {Γ} e (sc_fork c h sc_none) = own_fork f j Γ e c h
  own_expr (vset p a b d) f {j} {Γ} e (sc_fork c h sc_none) = own_fork f j Γ e c h

  own_block : (b : Block) (f : Name) {j : ℕ} {Γ : List Name} → next g j ≡ 0 → Scoped Γ (some f) j (shape_block b F.none) → Scoped (f ∷ Γ) none j (shape_block b F.none)
  unfolding shape_block
  own_block (block p cs) f {j} {Γ} e (sc_fork c h sc_none) = own_fork f j Γ e c h

  -- ---- expressions

  head_is : {i : ℕ} {e : Expr} → AtE g i e → operator_at g (kind g i) i ≡ operator_no (head_operator e)
  unfolding operator_at pick
  head_is (at_num k n) = rw k.kind_is
  head_is (at_name k) = rw k.kind_is
  head_is (at_if k a b c z) = rw k.kind_is
  head_is (at_and k a b z) = rw k.kind_is
  head_is (at_or k a b z) = rw k.kind_is
  head_is (at_app k f es) = rw k.kind_is
  head_is (at_abs k ps e z) = rw k.kind_is
  head_is (at_alloc k t a z) = rw k.kind_is
  head_is (at_nth k a b z) = rw k.kind_is
  head_is (at_len k a z) = rw k.kind_is
  head_is (at_vset k a b c z) = rw k.kind_is

  past_expr : {i : ℕ} {e : Expr} {Γ : List Name} (s : Forest) → AtE g i e → Scoped Γ none i (shape_expr e s) → Scoped Γ none (next g i) s
  unfolding shape_expr entry after is_param pick
  past_expr {i} {Γ = Γ} s (at_num k n) (sc_leaf c h) = behind i 18 Γ k.kind_is h
  past_expr {i} {Γ = Γ} s (at_name k) (sc_leaf c h) = behind i 19 Γ k.kind_is h
  past_expr {i} {Γ = Γ} s (at_if k a b d z) (sc_fork c x h) = behind i 20 Γ k.kind_is h
  past_expr {i} {Γ = Γ} s (at_and k a b z) (sc_fork c x h) = behind i 21 Γ k.kind_is h
  past_expr {i} {Γ = Γ} s (at_or k a b z) (sc_fork c x h) = behind i 22 Γ k.kind_is h
  past_expr {i} {Γ = Γ} s (at_app k f es) (sc_fork c x h) = behind i 23 Γ k.kind_is h
  past_expr {i} {Γ = Γ} s (at_abs k ps e z) (sc_fork c x h) = behind i 24 Γ k.kind_is h
  past_expr {i} {Γ = Γ} s (at_alloc k t a z) (sc_fork c x h) = behind i 27 Γ k.kind_is h
  past_expr {i} {Γ = Γ} s (at_nth k a b z) (sc_fork c x h) = behind i 28 Γ k.kind_is h
  past_expr {i} {Γ = Γ} s (at_len k a z) (sc_fork c x h) = behind i 29 Γ k.kind_is h
  past_expr {i} {Γ = Γ} s (at_vset k a b d z) (sc_fork c x h) = behind i 30 Γ k.kind_is h

  -- what a node that is this tree has below it
  leaf_of : {Γ : List Name} {own : Option Name} {i k p : ℕ} {s : Forest} → Scoped Γ own i (leaf k p s) → get_or codes i 0 ≡ code_for g (kind g i) i (entry g own i Γ)
  leaf_of (sc_leaf c h) = c

  fork_of : {Γ : List Name} {own : Option Name} {i k p : ℕ} {c s : Forest} → Scoped Γ own i (fork k p c s) →
      (get_or codes i 0 ≡ code_for g (kind g i) i (entry g own i Γ)) × Scoped (entry g own i Γ) (own_of g (kind g i) i) (child g i) c ×
      Scoped (after g (kind g i) i (entry g own i Γ)) own (next g i) s
  fork_of (sc_fork c x h) = (c, x, h)

  in_num : {i p : ℕ} {z : ℤ} → AtE g i (num p z) → (kind g i ≡ 18) × (word_of_number (ranged (number_at g.text (place g i))) ≡ of_z w64 z)
  in_num (at_num k n) = (k.kind_is, rw n.ranged)

  in_name : {i p : ℕ} {x : Name} → AtE g i (name (at p x)) → (kind g i ≡ 19) × (name_of g i ≡ x)
  in_name (at_name k) = (k.kind_is, refl)

  in_if : {i p : ℕ} {a b c : Expr} → AtE g i (if_expr p a b c) →
      (kind g i ≡ 20) × AtE g (child g i) a × AtE g (next g (child g i)) b × AtE g (next g (next g (child g i))) c
  in_if (at_if k a b c z) = (k.kind_is, a, b, c)

  in_and : {i p : ℕ} {a b : Expr} → AtE g i (and p a b) → (kind g i ≡ 21) × AtE g (child g i) a × AtE g (next g (child g i)) b
  in_and (at_and k a b z) = (k.kind_is, a, b)

  in_or : {i p : ℕ} {a b : Expr} → AtE g i (or p a b) → (kind g i ≡ 22) × AtE g (child g i) a × AtE g (next g (child g i)) b
  in_or (at_or k a b z) = (k.kind_is, a, b)

  in_app : {i p : ℕ} {f : Expr} {es : Exprs} → AtE g i (app p f es) → (kind g i ≡ 23) × AtE g (child g i) f × AtEs g (next g (child g i)) es
  in_app (at_app k a b) = (k.kind_is, a, b)

  in_abs : {i p : ℕ} {ps : List Arg} {e : Expr} → AtE g i (abs p ps e) → (kind g i ≡ 24) × ((j : ℕ) × AtParams g (child g i) (values ps) j × AtE g j e)
  in_abs (at_abs k a b z) = (k.kind_is, (_, a, b))

  in_alloc : {i p : ℕ} {t : TypeTree} {a : Expr} → AtE g i (alloc p t a) → (kind g i ≡ 27) × AtType g (child g i) t × AtE g (next g (child g i)) a
  in_alloc (at_alloc k t a z) = (k.kind_is, t, a)

  in_nth : {i p : ℕ} {a b : Expr} → AtE g i (nth_expr p a b) → (kind g i ≡ 28) × AtE g (child g i) a × AtE g (next g (child g i)) b
  in_nth (at_nth k a b z) = (k.kind_is, a, b)

  in_len : {i p : ℕ} {a : Expr} → AtE g i (len p a) → (kind g i ≡ 29) × AtE g (child g i) a
  in_len (at_len k a z) = (k.kind_is, a)

  in_vset : {i p : ℕ} {a b c : Expr} → AtE g i (vset p a b c) →
      (kind g i ≡ 30) × AtE g (child g i) a × AtE g (next g (child g i)) b × AtE g (next g (next g (child g i))) c
  in_vset (at_vset k a b c z) = (k.kind_is, a, b, c)

  in_one : {i : ℕ} {e : Expr} → AtEs g i (one_expr e) → AtE g i e
  in_one (at_one_expr a z) = a

  in_more : {i : ℕ} {e : Expr} {es : Exprs} → AtEs g i (more_exprs e es) → AtE g i e × AtEs g (next g i) es
  in_more (at_more_exprs a b) = (a, b)

  mutual
    unfolding shape_expr entry own_of code_for pick

    coded_expr : (e : Expr) {i : ℕ} {Γ : List Name} (s : Forest) → AtE g i e → Scoped Γ none i (shape_expr e s) → CodedE g codes Γ i e
    coded_expr (num p z) {i} {Γ} s a h = let v = in_num a in code_by i 18 Γ v.0 (leaf_of h) ∙ v.1
    coded_expr (name (at p x)) {i} {Γ} s a h = let v = in_name a in record { code_is = code_by i 19 Γ v.0 (leaf_of h) ∙ ap (code_of Γ) v.1 }
    coded_expr (if_expr p a b c) {i} s t h =
        let v = in_if t in let x = kids_of i 20 v.0 (fork_of h).1 in let y = past_expr _ v.1 x in
        (coded_expr a _ v.1 x, coded_expr b _ v.2 y, coded_expr c _ v.3 (past_expr _ v.2 y))
    coded_expr (and p a b) {i} s t h =
        let v = in_and t in let x = kids_of i 21 v.0 (fork_of h).1 in (coded_expr a _ v.1 x, coded_expr b _ v.2 (past_expr _ v.1 x))
    coded_expr (or p a b) {i} s t h =
        let v = in_or t in let x = kids_of i 22 v.0 (fork_of h).1 in (coded_expr a _ v.1 x, coded_expr b _ v.2 (past_expr _ v.1 x))
    coded_expr (app p f es) {i} {Γ} s t h =
        let v = in_app t in let x = kids_of i 23 v.0 (fork_of h).1 in
        (code_by i 23 Γ v.0 (fork_of h).0 ∙ head_is v.1, coded_expr f _ v.1 x, coded_exprs es v.2 (past_expr _ v.1 x))
    coded_expr (abs p ps e) {i} {Γ} s t h =
        let v = in_abs t in
        λ j' a'. subst (λ (n : ℕ). CodedE g codes (extended (param_names (values ps)) Γ) n e) (one_end v.1.1 a')
        (coded_expr e F.none v.1.2 (past_values ps _ v.1.1 (expr_there v.1.2) (kids_of i 24 v.0 (fork_of h).1)))
    coded_expr (alloc p y a) {i} s t h =
        let v = in_alloc t in coded_expr a F.none v.2 (past_type _ v.1 (expr_there v.2) (kids_of i 27 v.0 (fork_of h).1))
    coded_expr (nth_expr p a b) {i} s t h =
        let v = in_nth t in let x = kids_of i 28 v.0 (fork_of h).1 in (coded_expr a _ v.1 x, coded_expr b _ v.2 (past_expr _ v.1 x))
    coded_expr (len p a) {i} s t h = let v = in_len t in coded_expr a F.none v.1 (kids_of i 29 v.0 (fork_of h).1)
    coded_expr (vset p a b c) {i} s t h =
        let v = in_vset t in let x = kids_of i 30 v.0 (fork_of h).1 in let y = past_expr _ v.1 x in
        (coded_expr a _ v.1 x, coded_expr b _ v.2 y, coded_expr c _ v.3 (past_expr _ v.2 y))

    coded_exprs : (es : Exprs) {i : ℕ} {Γ : List Name} → AtEs g i es → Scoped Γ none i (shape_exprs es F.none) → CodedEs g codes Γ i es
    coded_exprs (one_expr e) t h = coded_expr e _ (in_one t) h
    coded_exprs (more_exprs e es) t h = let v = in_more t in (coded_expr e _ v.0 h, coded_exprs es v.1 (past_expr _ v.0 h))

  -- a name that is used after a key word
  used : {i p : ℕ} {Γ : List Name} {s : Forest} → kind g i ≡ 19 → Scoped Γ none i (leaf 19 p s) → Used g codes Γ i (name_of g i) × Scoped Γ none (next g i) s
  unfolding entry code_for after is_param pick
  used {i} {Γ = Γ} k (sc_leaf c h) = (record { code_is = code_by i 19 Γ k c }, behind i 19 Γ k h)

  coded_arg : {i : ℕ} {a : ExprP} {Γ : List Name} (s : Forest) → AtA g i a → Scoped Γ none i (shape_expr_p a s) → CodedA g codes Γ i a × Scoped Γ none (next g i) s
  unfolding shape_expr_p entry own_of after is_param pick
  coded_arg s (at_val {e = e} a) h = (coded_expr e s a h, past_expr s a h)
  coded_arg {i} {Γ = Γ} s (at_adr k y z) (sc_fork c x h) = ((used y.kind_is (kids_of i 25 k.kind_is x)).0, behind i 25 Γ k.kind_is h)

  coded_args : {i : ℕ} {as' : List ExprP} {Γ : List Name} → AtAs g i as' → Scoped Γ none i (shape_exprs_p as' F.none) → CodedAs g codes Γ i as'
  unfolding shape_exprs_p
  coded_args at_no_arg h = tt
  coded_args (at_more_args a b) h = let x = coded_arg _ a h in (x.0, coded_args b x.1)

  -- ---- commands

  in_last : {i : ℕ} {c : Stat} → AtCs g i (last c) → AtS g i c
  in_last (at_last a z) = a

  in_def_then : {i : ℕ} {d : Def} {cs : Cmds} → AtCs g i (def_then d cs) → AtD g i d × AtCs g (next g i) cs
  in_def_then (at_def_then a b) = (a, b)

  in_stat_then : {i : ℕ} {c : Stat} {cs : Cmds} → AtCs g i (stat_then c cs) → AtS g i c × AtCs g (next g i) cs
  in_stat_then (at_stat_then a b) = (a, b)

  in_block : {i p : ℕ} {cs : Cmds} → AtB g i (block p cs) → (kind g i ≡ 1) × AtCs g (child g i) cs
  in_block (at_block k a) = (k, a)

  -- behind a command
  past_stat : {i : ℕ} {c : Stat} {Γ : List Name} (s : Forest) → AtS g i c → Scoped Γ none i (shape_stat c s) → Scoped Γ none (next g i) s
  unfolding shape_stat entry after is_param pick
  past_stat {i} {Γ = Γ} s (at_echo k e z) h = behind i 8 Γ k.kind_is (fork_of h).2
  past_stat {i} {Γ = Γ} s (at_set k n e z) h = behind i 9 Γ k.kind_is (fork_of h).2
  past_stat {i} {Γ = Γ} s (at_if_stat k e y a y' b z) h = behind i 10 Γ k.kind_is (fork_of h).2
  past_stat {i} {Γ = Γ} s (at_while k e y b z) h = behind i 11 Γ k.kind_is (fork_of h).2
  past_stat {i} {Γ = Γ} s (at_call k n as') h = behind i 12 Γ k.kind_is (fork_of h).2
  past_stat {i} {Γ = Γ} s (at_return k e z) h = behind i 31 Γ k.kind_is (fork_of h).2

  past_def : {i : ℕ} {d : Def} {Γ : List Name} (s : Forest) → AtD g i d → Scoped Γ none i (shape_def d s) → Scoped (defined d ∷ Γ) none (next g i) s
  unfolding shape_def entry after is_param pick
  past_def {i} {Γ = Γ} s (at_const k n t e z) h = behind i 2 Γ k.kind_is (fork_of h).2
  past_def {i} {Γ = Γ} s (at_fun k n t a e z) h = behind i 3 Γ k.kind_is (fork_of h).2
  past_def {i} {Γ = Γ} s (at_fun_rec k n t a e z) h = behind i 4 Γ k.kind_is (fork_of h).2
  past_def {i} {Γ = Γ} s (at_fun_block k n t a y e z) h = behind i 32 Γ k.kind_is (fork_of h).2
  past_def {i} {Γ = Γ} s (at_fun_rec_block k n t a y e z) h = behind i 33 Γ k.kind_is (fork_of h).2
  past_def {i} {Γ = Γ} s (at_var k n t z) h = behind i 5 Γ k.kind_is (fork_of h).2
  past_def {i} {Γ = Γ} s (at_proc k n a y e z) h = behind i 6 Γ k.kind_is (fork_of h).2
  past_def {i} {Γ = Γ} s (at_proc_rec k n a y e z) h = behind i 7 Γ k.kind_is (fork_of h).2

  past_block : {i : ℕ} {b : Block} {Γ : List Name} (s : Forest) → AtB g i b → Scoped Γ none i (shape_block b s) → Scoped Γ none (next g i) s
  unfolding shape_block entry after is_param pick
  past_block {i} {Γ = Γ} s (at_block k a) h = behind i 1 Γ k (fork_of h).2

  -- a block at a node is coded
  abbrev OnBlocks : Block → Type 0
  OnBlocks b = (i : ℕ) (Γ : List Name) (s : Forest) → AtB g i b → Scoped Γ none i (shape_block b s) → CodedB g codes Γ i b

  -- a definition whose block is; a statement whose blocks are
  abbrev InDef : Def → Type 0
  InDef = elim [ const p x t e ↦ Unit {0} | fun p x t ps e ↦ Unit {0} | fun_rec p x t ps e ↦ Unit {0} | fun_block p x t ps b ↦ OnBlocks b | fun_rec_block p x t ps b ↦ OnBlocks b | var p x t ↦ Unit {0} | proc p x ps b ↦ OnBlocks b | proc_rec p x ps b ↦ OnBlocks b ]

  abbrev InStat : Stat → Type 0
  InStat = elim [ echo p e ↦ Unit {0} | Syntax.set p x e ↦ Unit {0} | if_stat p e a b ↦ OnBlocks a × OnBlocks b | while p e b ↦ OnBlocks b | call p x as' ↦ Unit {0} | return p e ↦ Unit {0} ]

  def_coded : {i : ℕ} {d : Def} {Γ : List Name} (s : Forest) → AtD g i d → InDef d → Scoped Γ none i (shape_def d s) → CodedD g codes Γ i d
  unfolding shape_def entry own_of pick
  def_coded {i} {Γ = Γ} s (at_const {e = b} k n t e z) q h =
      coded_expr b _ e (past_type _ t (expr_there e) (past_name n.kind_is (type_there t) (kids_of i 2 k.kind_is (fork_of h).1)))
  def_coded {i} {Γ = Γ} s (at_fun {ps = ps} {e = b} k n t a e z) q h =
      λ j' a'. subst (λ (j : ℕ). CodedE g codes (extended (param_names (values ps)) Γ) j b) (one_end a a')
      (coded_expr b F.none e (past_values ps _ a (expr_there e) (past_type _ t (params_there a (expr_there e))
      (past_name n.kind_is (type_there t) (kids_of i 3 k.kind_is (fork_of h).1)))))
  def_coded {i} {Γ = Γ} s (at_fun_rec {ps = ps} {e = b} k n t a e z) q h =
      λ j' a'. subst (λ (j : ℕ). CodedE g codes (name_of g (child g i) ∷ extended (param_names (values ps)) Γ) j b) (one_end a a')
      (coded_expr b F.none e (own_expr b _ z (past_values ps _ a (expr_there e) (past_type _ t (params_there a (expr_there e))
      (past_name n.kind_is (type_there t) (kids_of i 4 k.kind_is (fork_of h).1))))))
  def_coded {i} {Γ = Γ} s (at_fun_block {ps = ps} {b = b} k n t a y e z) q h =
      λ j' a'. subst (λ (j : ℕ). CodedB g codes (extended (param_names (values ps)) Γ) j b) (one_end a a')
      (q _ _ F.none e (past_values ps _ a y (past_type _ t (params_there a y)
      (past_name n.kind_is (type_there t) (kids_of i 32 k.kind_is (fork_of h).1)))))
  def_coded {i} {Γ = Γ} s (at_fun_rec_block {ps = ps} {b = b} k n t a y e z) q h =
      λ j' a'. subst (λ (j : ℕ). CodedB g codes (name_of g (child g i) ∷ extended (param_names (values ps)) Γ) j b) (one_end a a')
      (q _ _ F.none e (own_block b _ z (past_values ps _ a y (past_type _ t (params_there a y)
      (past_name n.kind_is (type_there t) (kids_of i 33 k.kind_is (fork_of h).1))))))
  def_coded {i} {Γ = Γ} s (at_var k n t z) q h = tt
  def_coded {i} {Γ = Γ} s (at_proc {ps = ps} {b = b} k n a y e z) q h =
      λ j' a'. subst (λ (j : ℕ). CodedB g codes (extended (param_names ps) Γ) j b) (one_end a a')
      (q _ _ F.none e (past_params _ a y (past_name n.kind_is (params_there a y) (kids_of i 6 k.kind_is (fork_of h).1))))
  def_coded {i} {Γ = Γ} s (at_proc_rec {ps = ps} {b = b} k n a y e z) q h =
      λ j' a'. subst (λ (j : ℕ). CodedB g codes (name_of g (child g i) ∷ extended (param_names ps) Γ) j b) (one_end a a')
      (q _ _ F.none e (own_block b _ z (past_params _ a y (past_name n.kind_is (params_there a y) (kids_of i 7 k.kind_is (fork_of h).1)))))

  stat_coded : {i : ℕ} {c : Stat} {Γ : List Name} (s : Forest) → AtS g i c → InStat c → Scoped Γ none i (shape_stat c s) → CodedS g codes Γ i c
  unfolding shape_stat entry own_of pick
  stat_coded {i} s (at_echo {e = b} k e z) q h = coded_expr b _ e (kids_of i 8 k.kind_is (fork_of h).1)
  stat_coded {i} s (at_set {e = b} k n e z) q h = let y = used n.kind_is (kids_of i 9 k.kind_is (fork_of h).1) in (y.0, coded_expr b _ e y.1)
  stat_coded {i} s (at_if_stat {e = c} k e y a y' b z) q h =
      let x = kids_of i 10 k.kind_is (fork_of h).1 in let u = past_expr _ e x in (coded_expr c _ e x, q.0 _ _ _ a u, q.1 _ _ _ b (past_block _ a u))
  stat_coded {i} s (at_while {e = c} k e y b z) q h =
      let x = kids_of i 11 k.kind_is (fork_of h).1 in (coded_expr c _ e x, q _ _ _ b (past_expr _ e x))
  stat_coded {i} s (at_call k n as') q h = let y = used n.kind_is (kids_of i 12 k.kind_is (fork_of h).1) in (y.0, coded_args as' y.1)
  stat_coded {i} s (at_return {e = b} k e z) q h = coded_expr b _ e (kids_of i 31 k.kind_is (fork_of h).1)

  mutual
    unfolding shape_cmds entry own_of pick

    coded_cmds : (cs : Cmds) {i : ℕ} {Γ : List Name} → AtCs g i cs → Scoped Γ none i (shape_cmds cs F.none) → CodedCs g codes Γ i cs
    coded_cmds (last c) t h = stat_coded _ (in_last t) (stat_blocks c) h
    coded_cmds (def_then d cs) t h = let v = in_def_then t in (def_coded _ v.0 (def_blocks d) h, coded_cmds cs v.1 (past_def _ v.0 h))
    coded_cmds (stat_then c cs) t h = let v = in_stat_then t in (stat_coded _ v.0 (stat_blocks c) h, coded_cmds cs v.1 (past_stat _ v.0 h))

    def_blocks : (d : Def) → InDef d
    def_blocks (const p x t e) = tt
    def_blocks (fun p x t ps e) = tt
    def_blocks (fun_rec p x t ps e) = tt
    def_blocks (fun_block p x t ps b) = λ i Γ s t h. coded_block b i Γ s t h
    def_blocks (fun_rec_block p x t ps b) = λ i Γ s t h. coded_block b i Γ s t h
    def_blocks (var p x t) = tt
    def_blocks (proc p x ps b) = λ i Γ s t h. coded_block b i Γ s t h
    def_blocks (proc_rec p x ps b) = λ i Γ s t h. coded_block b i Γ s t h

    stat_blocks : (c : Stat) → InStat c
    stat_blocks (echo p e) = tt
    stat_blocks (Syntax.set p x e) = tt
    stat_blocks (if_stat p e a b) = ((λ i Γ s t h. coded_block a i Γ s t h), λ i Γ s t h. coded_block b i Γ s t h)
    stat_blocks (while p e b) = λ i Γ s t h. coded_block b i Γ s t h
    stat_blocks (call p x as') = tt
    stat_blocks (return p e) = tt

    coded_block : (b : Block) → OnBlocks b
    coded_block (block p cs) i Γ s t h = let v = in_block t in coded_cmds cs v.1 (kids_of i 1 v.0 (fork_of h).1)

  -- ---- the program

  of_root : {b : Block} → AtB g 0 b → Laid g.tree (shape_block b F.none) 0 → size (shape_block b F.none) ≤ most_nodes →
      From 0 (codes_of g) → Coded g codes b
  unfolding shape_block size codes_of
  of_root (at_block {cs = cs} k a) (laid_fork x l m) h t =
      coded_cmds cs a (subst (λ (i : ℕ). Scoped [] none i (shape_cmds cs F.none)) (sym x.child_is)
      (row_scoped l (λ e. omega (arith, e)) most_nodes [] none (omega (arith, h))
      (subst (λ (i : ℕ). From 1 (row_codes g most_nodes [] none i)) x.child_is t.1)))

  pub codes_right : {b : Block} → ReadAs g b → ((i : ℕ) → get_or codes i 0 ≡ get_or (codes_of g) i 0) → Coded g codes b
  codes_right r h = of_root (root r) (laid_program r) (few_nodes r) (from_all (codes_of g) 0 (λ k. ap (λ (i : ℕ). get_or codes i 0) (omega arith) ∙ h k))

-- a text that reads has a code for each node and no more: past the tree's words there is none
module _ (g : Script) where
  root_length : (b : Block) → Laid g.tree (shape_block b F.none) 0 → size (shape_block b F.none) ≤ most_nodes → length (codes_of g) ≡ size (shape_block b F.none)
  unfolding shape_block size codes_of
  root_length (block p cs) (laid_fork x l m) h =
      let r = row_length g l (λ e. omega (arith, e)) most_nodes [] none (omega (arith, h)) in
      rw x.child_is (omega (arith, r))

  pub codes_fit : {b : Block} → ReadAs g b → length (codes_of g) ≤ most_nodes
  codes_fit {b} r = let e = root_length b (laid_program r) (few_nodes r) in let h = few_nodes r in omega (arith, e, h)
