-- Definitions: each is refused exactly where the judge refuses it, and behind it the scope leads to its name.
use Prim.Native.Nat.{ℕ, zero, suc, ◌+◌, ◌-◌, ◌%◌, ◌<◌, ◌≤◌}
use mathlib.Core.Path.{◌≡◌, refl, ap, sym, ◌∙◌, subst}
use mathlib.Core.Bool.{Bool, true, false}
use mathlib.Core.List.{List, ◌∷◌, ◌++◌}
use native.Mathlib.Omega.{arith}
use lib.Dec.{eqb, ltb}
use lib.ListN.{length, get_or}
use borrow.Author.Tests.{ne_eqb}
use Rattle.language.specs.Claims.{TyFits, AllNodes, Comparable, FlowFits}
use Rattle.language.specs.Answers.{fine}
use Rattle.language.specs.Syntax.{Name, TypeTree, Arg, ArgP, Expr, Block}
use Rattle.language.specs.Places.{place_expr, place_block}
use Rattle.language.specs.Names.{meaning, head_operator}
use Rattle.language.specs.Words.{name_at}
use Rattle.language.specs.Types.{Ty, type_of, Par, value, ref, Entity, plain, procedure, Ctx, extend, values, pars, declared, arg_types, fun_type, Flow, never, may, always}
use Rattle.language.specs.Typing.{IsBase}
use Rattle.language.specs.Order.{nodes_expr}
use Rattle.language.proofs.Reading.Standing.{Stands, InsideArgsP, InsideExpr}
use Rattle.language.proofs.Typing.Judge.{and_then, passes, andb, same_type, is_free, is_base, judge_params, judge_expr, judge_block, judge_type, is_never, is_always, goes_on}
use Rattle.judge.specs.Names.{nine_at}
use Rattle.judge.specs.Scopes.{pick, place_at, child_at, next_at, role_in, row_of, binds_of, row_after, inner_at, outer_at, binder_place}
use Rattle.judge.specs.Types.{is_fun, parts_of, result_type, is_defined, same}
use Rattle.judge.specs.Rules.{read_type, name_type_rule, ref_type, is_proc, last_from, def_type_rule, def_by, expr_by, own_by, body_rule, proc_rule}
use Rattle.judge.proofs.Shapes.{Nodes, end, node, kind_type, place_type, kids_type, type_row, params_row, kind_expr, kids_expr, expr_row, kids_block, block_row}
use Rattle.judge.proofs.Scoping.{first, sits_end}
use Rattle.judge.proofs.Spelling.{Spells, s_fn, same_right, row_in, Row, row_last, row_more, row_parts, Gets}
use Rattle.judge.proofs.Verdicts.{Run, One, Own, own_fine, Sit, Seat, seat, kids_done, below, kids_then, kids_past, node_one}
use Rattle.judge.proofs.Looking.{Written, Binder, binds_value, binds_ref, binds_proc, Looks, looks_more, Scope, scope_up, scope_inner, scope_outer, Front}
use Rattle.judge.proofs.Written.{first_params, params_values, type_one, type_written, here_in, kind_here, last_part, type_binds, own_pass}
use Rattle.judge.proofs.Parameters.{nine_free, cell_rule_lem, type_later, params_take, params_kids}
use Rattle.judge.proofs.Flows.{Flows, f_always, never_test, goes_test, FlowFit, flow_at}
use Rattle.judge.proofs.Expressions.{has_at, role_here, env_here, plain_role, listed_role, node_fine, behind', expr_one}

module _ (g : Run) where
  -- a definition's note
  abbrev pub Done : ℕ → Unit {0} → Type 0
  Done n u = get_or g.notes n 0 ≡ 65537

  -- a name after a key word is not judged
  pub silent_name : {p n m row row' v : ℕ} {s : Nodes} {Γ : Ctx} (h : Seat g 19 p end s n m row row' v) → m ≤ g.count → Scope g n v 1 Γ
      → One g (λ (u : Unit {0}). Unit {0}) n h.mid (fine tt)
  unfolding own_by expr_by name_type_rule
  silent_name h l sc = node_one g h l (kids_done g h.kids (λ M ag. rw (role_here g h l sc) (own_fine refl (λ e. tt))))

  -- and the REC definition is remembered over it
  pub name_later : {p n m row row' v : ℕ} {s : Nodes} (h : Seat g 19 p end s n m row row' v) → h.later ≡ row
  unfolding row_after row_of
  name_later {n = n} {row = row} h = done h.kids ∙ rw h.kind
    where
      done : {a b c d e : ℕ} → Sit g end a b c d e → d ≡ c
      done sits_end = refl

  -- the last of a row of siblings
  row_final : {M : List ℕ} {lo y i : ℕ} {qs : List Par} (b : ℕ) → Row g.tree M lo (λ l. l ≡ i) y qs → length g.tree ≤ b + y → last_from g.tree b y ≡ i
  unfolding last_from
  row_final zero (row_last a c e f) l = f
  row_final (suc b) (row_last a c e f) l = rw e f
  row_final zero (row_more a c r) l = absurd (omega (arith, row_in g.tree _ _ r))
  row_final {y = y} (suc b) (row_more a c r) l = rw (ne_eqb (next_at g.tree y) 0 (λ e. omega arith)) (row_final {y = next_at g.tree y} b r (omega arith))

  last_next : (l y i : ℕ) → next_at g.tree y ≡ i → y < i → ((b : ℕ) → length g.tree ≤ b + i → last_from g.tree b i ≡ l)
      → (b : ℕ) → length g.tree ≤ b + y → y < length g.tree → last_from g.tree b y ≡ l
  unfolding last_from
  last_next l y i e f h zero u w = absurd (omega arith)
  last_next l y i e f h (suc b) u w = rw (e, ne_eqb i 0 (λ z. omega arith)) (h b (omega arith))

  -- CONST, FUN, FUN REC: the name q is free to be bound and what comes last has the written type
  def_own : {n p : ℕ} (c q y l : ℕ) (x : Name) (t : TypeTree) {τ : Ty} (M : List ℕ) → place_at g.tree c ≡ q → x ≡ name_at g.text q → next_at g.tree c ≡ y
      → last_from g.tree (length g.tree) c ≡ l → Written g y (type_of t) → TyFits τ 128 → Spells g.tree M (suc n) (get_or M l 0) τ
      → Own g (Done n) n p (def_type_rule g.text g.tree M c) (passes p (andb (is_free (meaning x)) (same_type τ (type_of t))))
  unfolding def_type_rule nine_at
  def_own {n} {p} c q y l x t {τ} M e f h i w k s =
      rw (e, ← f, nine_free (meaning x), h, i, same_right g.tree M (suc n) 128 (get_or M l 0) y τ (type_of t) k s (w M (suc n)))
      (by_tests (is_free (meaning x)) (same_type τ (type_of t)))
    where
      by_tests : (a b : Bool) → Own g (Done n) n p (pick a (λ _. pick b (λ _. 65537) λ _. 65536) λ _. 65536) (passes p (andb a b))
      by_tests true b = own_pass g n p b (λ e i. i)
      by_tests false b = own_pass g n p false (λ e i. i)

  -- with a block, which always returns the written type, or never returns
  body_own : {n p : ℕ} (c q y l : ℕ) (x : Name) (t : TypeTree) (φ : Flow) (M : List ℕ) → place_at g.tree c ≡ q → x ≡ name_at g.text q → next_at g.tree c ≡ y
      → last_from g.tree (length g.tree) c ≡ l → Written g y (type_of t) → FlowFits φ 128 → Flows g M (suc n) (get_or M l 0) φ
      → Own g (Done n) n p (body_rule g.text g.tree M c) (passes p (andb (is_free (meaning x)) (is_always φ (type_of t))))
  unfolding body_rule nine_at
  body_own {n} {p} c q y l x t φ M e f h i w k s =
      rw (e, ← f, nine_free (meaning x), h, i, goes_test g M (suc n) s) (by_tests (is_free (meaning x)) φ k s)
    where
      less : (r : ℕ) → 327680 + r - 327680 ≡ r
      less r = omega arith

      always-own : (b : Bool) → Own g (Done n) n p (pick b (λ _. 65537) λ _. 65536) (passes p b)
      always-own b = own_pass g n p b (λ e i. i)

      by_tests : (a : Bool) (φ : Flow) → FlowFits φ 128 → Flows g M (suc n) (get_or M l 0) φ
          → Own g (Done n) n p
          (pick a (λ _. pick (goes_on φ) (λ _. 65536) λ _. pick (same 128 g.tree M (get_or M l 0 - 327680) y) (λ _. 65537) λ _. 65536) λ _. 65536)
          (passes p (andb a (is_always φ (type_of t))))
      by_tests false φ k s = always-own false
      by_tests true never k s = always-own false
      by_tests true (may τ) k s = always-own false
      by_tests true (always τ) k (f_always r j s) =
          rw (j, less r, same_right g.tree M (suc n) 128 r y τ (type_of t) k s (w M (suc n))) (always-own (same_type τ (type_of t)))

  proc_own : {n p : ℕ} (c q l : ℕ) (x : Name) (φ : Flow) (M : List ℕ) → place_at g.tree c ≡ q → x ≡ name_at g.text q
      → last_from g.tree (length g.tree) c ≡ l → Flows g M (suc n) (get_or M l 0) φ
      → Own g (Done n) n p (proc_rule g.text g.tree M c) (passes p (andb (is_free (meaning x)) (is_never φ)))
  unfolding proc_rule nine_at
  proc_own {n} {p} c q l x φ M e f i s =
      rw (e, ← f, nine_free (meaning x), i, never_test g M (suc n) s) (by_tests (is_free (meaning x)) (is_never φ))
    where
      by_tests : (a b : Bool) → Own g (Done n) n p (pick a (λ _. pick b (λ _. 65537) λ _. 65536) λ _. 65536) (passes p (andb a b))
      by_tests true b = own_pass g n p b (λ e i. i)
      by_tests false b = own_pass g n p false (λ e i. i)

  -- a definition's name stands in its first child
  module _ {k p n m row row' v q : ℕ} {s c : Nodes} (h : Seat g k p (node 19 q end c) s n m row row' v) where
    pub name_place : place_at g.tree (child_at g.tree n) ≡ q
    name_place = ap (place_at g.tree) h.child ∙ (seat g h.kids).place

    def_place : eqb (binds_of k) 2 ≡ false → binder_place g.tree n ≡ q
    unfolding binder_place
    def_place b = rw (h.kind, b) name_place

    pub def_looks : {role : ℕ} {x : Name} {τ : Entity} {Γ : Ctx} → m ≤ g.count → Scope g n v role Γ → eqb (binds_of k) 2 ≡ false → x ≡ name_at g.text q
        → Binder g n τ
        → Looks g n ((x, τ) ∷ Γ)
    def_looks {x = x} {τ} {Γ} l sc b e i =
        looks_more g n Γ x τ (rw (env_here g h l sc) sc.low) (ap (name_at g.text) (def_place b) ∙ sym e) i (rw (env_here g h l sc) sc.looks)

  -- what a definition of each kind makes of its name
  module _ (t : TypeTree) {k p q n m row row' v : ℕ} {s c : Nodes} (h : Seat g k p (node 19 q end (type_row t c)) s n m row row' v) (l : m ≤ g.count) where
    abbrev pub name_seat : Seat g 19 q end (type_row t c) (suc n) h.mid (row_after g.tree n row) h.later (inner_at g.tree g.scopes n)
    name_seat = seat g h.kids

    abbrev pub type_seat : Seat g (kind_type t) (place_type t) (kids_type t) c name_seat.mid h.mid name_seat.later h.later
        (outer_at g.text g.tree g.scopes (row_after g.tree n row) (suc n))
    type_seat = seat g name_seat.rest

    pub type_at : next_at g.tree (child_at g.tree n) ≡ name_seat.mid
    type_at = ap (next_at g.tree) h.child ∙ name_seat.next

    pub type_is : Written g name_seat.mid (type_of t)
    type_is = type_written g t type_seat (behind' g h l) (omega (arith, below g name_seat))

    type_fine : eqb (name_seat.mid % 65536) 0 ≡ false
    type_fine = node_fine g type_seat (behind' g h l) (omega (arith, below g name_seat))

    pub const_binder : k ≡ 2 → Binder g n (plain (value (type_of t)))
    unfolding read_type ref_type is_fun is_proc
    const_binder e =
        binds_value {τ = type_of t} name_seat.mid (rw (h.kind, e) type_at) type_fine type_is (rw (h.kind, e)) (rw (h.kind, e))

    pub var_binder : k ≡ 5 → IsBase (type_of t) → Binder g n (plain (ref (type_of t)))
    unfolding read_type ref_type is_fun is_proc
    var_binder e b =
        binds_ref {τ = type_of t} name_seat.mid (rw (h.kind, e) type_at) type_fine type_is (rw (h.kind, e) type_at) b (rw (h.kind, e))

  -- the last child behind the name and the type
  last_two : (t : TypeTree) {k p q n m row row' v j : ℕ} {s c : Nodes} (h : Seat g k p (node 19 q end (type_row t c)) s n m row row' v) (l : m ≤ g.count)
      → first c (type_seat t h l).mid ≡ (type_seat t h l).mid
      → ((b : ℕ) → length g.tree ≤ b + (type_seat t h l).mid → last_from g.tree b (type_seat t h l).mid ≡ j) → last_from g.tree (length g.tree) (suc n) ≡ j
  last_two t {n = n} {j = j} h l e f =
      let d = name_seat t h l in
      let y = type_seat t h l in
      let u = behind' g h l in
      last_next j (suc n) d.mid d.next (below g d)
      (λ b c. last_next j d.mid y.mid (y.next ∙ e) (below g y) f b c (here_in g y u)) (length g.tree) (omega arith) (here_in g d u)

  -- FUN and FUN REC spell their own types
  module _ (t : TypeTree) (ps : List Arg) (k₀ p₀ : ℕ) (c₀ : Nodes) {k p q n m row row' v : ℕ} {s : Nodes}
      (h : Seat g k p (node 19 q end (type_row t (params_row (values ps) (node k₀ p₀ c₀ end)))) s n m row row' v) (l : m ≤ g.count) (z : 0 < n)
      (low : is_defined k ≡ true)
      (fun : is_fun k ≡ true) where
    parts_at : parts_of g.tree n ≡ (type_seat t h l).mid
    unfolding parts_of
    parts_at =
        rw (h.kind, low) (ap (next_at g.tree) (type_at t h l)
        ∙ ((type_seat t h l).next ∙ first_params (values ps) k₀ p₀ c₀ end (type_seat t h l).mid))

    no_abs : k ≡ 24 → ⊥
    unfolding is_defined
    no_abs i = let w : is_defined 24 ≡ true = subst (λ k. is_defined k ≡ true) i low in let o : ◌≡◌ {A = ℕ} 0 1 = cc in omega arith

    fun_gets : (M : List ℕ) (lo j : ℕ) → Gets g.tree M lo n (type_of t) j
    unfolding result_type
    fun_gets M lo j = ((λ i. absurd (no_abs (sym h.kind ∙ i))), rw (h.kind, low, type_at t h l) (type_is t h l M lo))

    fun_written : Written g n (fun_type ps t)
    fun_written M lo =
        s_fn {r = n} {ts = arg_types ps} {τ = type_of t} (rw (kind_here g h l) fun)
        (row_parts g.tree M lo (arg_types ps) (rw parts_at (subst (Row g.tree M lo (Gets g.tree M lo n (type_of t)) (type_seat t h l).mid) (params_values ps)
        (params_take g (values ps) M lo (Gets g.tree M lo n (type_of t)) (type_seat t h l).rest (behind' g h l)
        (omega (arith, below g (name_seat t h l), below g (type_seat t h l))) (λ j ro ro' w i y. fun_gets M lo j)))))

    pub fun_binder : eqb k 2 ≡ false → eqb k 5 ≡ false → eqb k 14 ≡ false → is_proc k ≡ false → Binder g n (plain (value (fun_type ps t)))
    unfolding read_type ref_type
    fun_binder a b c d =
        binds_value {τ = fun_type ps t} n (rw (h.kind, a, b, fun)) (node_fine g h l z) fun_written (rw (h.kind, b, c)) (rw h.kind d)

  -- PROC and PROC REC
  module _ (ps : List ArgP) (b : Block) {k p q n m row row' v : ℕ} {s : Nodes}
      (h : Seat g k p (node 19 q end (params_row ps (block_row b end))) s n m row row' v) (l : m ≤ g.count) where
    pub proc_binder : eqb k 2 ≡ false → eqb k 5 ≡ false → is_fun k ≡ false → ltb k 8 ≡ true → eqb k 14 ≡ false → is_proc k ≡ true
        → Binder g n (procedure (pars ps))
    unfolding read_type ref_type
    proc_binder a c d e f i =
        let y = seat g h.kids in
        let w : next_at g.tree (child_at g.tree n) ≡ y.mid = ap (next_at g.tree) h.child ∙
        (y.next ∙ first_params ps 1 (place_block b) (kids_block b) end y.mid) in
        binds_proc {qs = pars ps} (rw (h.kind, a, c, d, e)) (rw (h.kind, c, f)) (rw h.kind i) (λ M lo.
        rw w (params_take g ps M lo (λ j. Unit {0}) y.rest (behind' g h l) (omega (arith, below g y)) (λ j ro ro' v r z. tt)))

  -- CONST
  pub const_one : (p q : ℕ) (x : Name) (t : TypeTree) (e : Expr) {n m row row' v role : ℕ} {s : Nodes} {Γ : Ctx}
      (h : Seat g 2 p (node 19 q end (type_row t (expr_row e end))) s n m row row' v) → m ≤ g.count → Scope g n v role Γ → x ≡ name_at g.text q
      → InsideExpr e (Stands g.text) → AllNodes Comparable (nodes_expr Γ e)
      → One g (Done n) n h.mid
      (and_then (judge_type t) λ w. and_then (judge_expr Γ e) λ τ. passes p (andb (is_free (meaning x)) (same_type τ (type_of t))))
  unfolding own_by def_by role_in row_of binds_of
  const_one p q x t e {n} h l sc i se qe =
      let d = name_seat t h l in
      let y = type_seat t h l in
      let b = seat g y.rest in
      let u = behind' g h l in
      let sd = scope_inner g h {role = 1} refl refl (scope_up g (omega arith) sc) in
      let zy : 0 < d.mid = omega (arith, below g d) in
      let zb : 0 < y.mid = omega (arith, below g y) in
      node_one g h l (kids_past g d (omega arith) (silent_name d u sd) (kids_then g y zy _ (type_one g t y u) (λ wy wr wf.
      (kids_then g b zb _ (expr_one g e b u zb (scope_outer g y (type_binds t) (scope_outer g d refl sd)) (plain_role g (head_operator e)) se qe) (λ τ r k.
      kids_done g b.rest (λ M ag. rw h.child
      (def_own (suc n) q d.mid y.mid x t M d.place i d.next
      (last_two t h l refl (λ a c. row_final a (last_part g g.notes 0 (λ j. j ≡ y.mid) b u zb refl) c))
      (type_is t h l) k.1 (has_at g (suc n) M ag (omega (arith, below g d, below g y)) k.0))))))))

  -- FUN and FUN REC, the REC name in front of the parameters
  pub fun_one : (k p q : ℕ) (x : Name) (t : TypeTree) (ps : List Arg) (e : Expr) (fs Γ : Ctx) {n m row row' v : ℕ} {s : Nodes}
      (h : Seat g k p (node 19 q end (type_row t (params_row (values ps) (expr_row e end)))) s n m row row' v) → m ≤ g.count
      → ((M : List ℕ) → own_by k g.text g.tree g.scopes M n ≡ def_type_rule g.text g.tree M (child_at g.tree n))
      → Scope g (suc n) (inner_at g.tree g.scopes n) 1 (fs ++ Γ) → Front g (row_after g.tree n row) fs → x ≡ name_at g.text q → InsideArgsP (values ps) (Stands g.text)
      → InsideExpr e (Stands g.text) → AllNodes Comparable (nodes_expr (fs ++ extend (declared (values ps)) Γ) e)
      → One g (Done n) n h.mid (and_then (judge_type t) λ y. and_then (judge_params (values ps)) λ w. and_then (judge_expr (fs ++ extend (declared (values ps)) Γ) e) λ τ.
      passes p (andb (is_free (meaning x)) (same_type τ (type_of t))))
  unfolding binds_of
  fun_one k p q x t ps e fs Γ {n} h l own sd f i ia se qe =
      let d = name_seat t h l in
      let y = type_seat t h l in
      let u = behind' g h l in
      let zy : 0 < d.mid = omega (arith, below g d) in
      let zp : 0 < y.mid = omega (arith, below g y) in
      let fp = subst (λ r. Front g r fs) (sym (type_later g t y ∙ name_later d)) f in
      node_one g h l (kids_past g d (omega arith) (silent_name d u sd) (kids_then g y zy _ (type_one g t y u) (λ wy wr wf.
      (params_kids g (values ps) (kind_expr e) (place_expr e) (kids_expr e) end fs Γ _ y.rest u zp fp ia
      (scope_outer g y (type_binds t) (scope_outer g d refl sd)) (λ j ro ro' w rl ys r a sj lj build.
      let b = seat g r in
      let zj : 0 < j = omega arith in
      kids_then g b zj _ (expr_one g e b u zj sj (listed_role g lj (head_operator e)) se qe) (λ τ o k.
      kids_done g b.rest (λ M ag. rw (own M, h.child)
      (def_own (suc n) q d.mid j x t M d.place i d.next
      (last_two t h l (first_params (values ps) (kind_expr e) (place_expr e) (kids_expr e) end y.mid)
      (λ c c'. row_final c (build g.notes 0 (λ a. a ≡ j) (last_part g g.notes 0 (λ a. a ≡ j) b u zj refl)) c'))
      (type_is t h l) k.1 (has_at g (suc n) M ag (omega (arith, below g d, below g y)) k.0)))))))))

  -- VAR
  pub var_one : (p q : ℕ) (x : Name) (t : TypeTree) {n m row row' v role : ℕ} {s : Nodes} {Γ : Ctx}
      (h : Seat g 5 p (node 19 q end (type_row t end)) s n m row row' v)
      → m ≤ g.count → Scope g n v role Γ → x ≡ name_at g.text q
      → One g (λ u. (andb (is_free (meaning x)) (is_base (type_of t)) ≡ true) × Done n u) n h.mid
      (and_then (judge_type t) λ w. passes p (andb (is_free (meaning x)) (is_base (type_of t))))
  unfolding own_by def_by role_in row_of
  var_one p q x t {n} h l sc i =
      let d = name_seat t h l in
      let y = type_seat t h l in
      let u = behind' g h l in
      let sd = scope_inner g h {role = 1} refl refl (scope_up g (omega arith) sc) in
      node_one g h l (kids_past g d (omega arith) (silent_name d u sd) (kids_then g y (omega (arith, below g d)) _ (type_one g t y u) (λ wy wr wf.
      (kids_done g y.rest (λ M ag.
      rw (h.child, d.place, d.next, cell_rule_lem g t q d.mid y.kind, ← i) (own_pass g n p (andb (is_free (meaning x)) (is_base (type_of t))) (λ e i. (e, i))))))))

  -- FUN and FUN REC with a block
  pub body_one : (k p q : ℕ) (x : Name) (t : TypeTree) (ps : List Arg) (b : Block) (fs Γ : Ctx) {n m row row' v : ℕ} {s : Nodes}
      (h : Seat g k p (node 19 q end (type_row t (params_row (values ps) (block_row b end)))) s n m row row' v) → m ≤ g.count
      → ((M : List ℕ) → own_by k g.text g.tree g.scopes M n ≡ body_rule g.text g.tree M (child_at g.tree n))
      → Scope g (suc n) (inner_at g.tree g.scopes n) 1 (fs ++ Γ) → Front g (row_after g.tree n row) fs → x ≡ name_at g.text q → InsideArgsP (values ps) (Stands g.text)
      → ((j ro ro' w rl : ℕ) (r : Sit g (block_row b end) j h.mid ro ro' w) → 0 < j → Scope g j w rl (fs ++ extend (declared (values ps)) Γ)
      → One g (FlowFit g j) j (seat g r).mid (judge_block (fs ++ extend (declared (values ps)) Γ) b))
      → One g (Done n) n h.mid (and_then (judge_type t) λ y. and_then (judge_params (values ps)) λ w.
      and_then (judge_block (fs ++ extend (declared (values ps)) Γ) b) λ φ. passes p (andb (is_free (meaning x)) (is_always φ (type_of t))))
  unfolding binds_of
  body_one k p q x t ps b fs Γ {n} h l own sd f i ia body =
      let d = name_seat t h l in
      let y = type_seat t h l in
      let u = behind' g h l in
      let zy : 0 < d.mid = omega (arith, below g d) in
      let zp : 0 < y.mid = omega (arith, below g y) in
      let fp = subst (λ r. Front g r fs) (sym (type_later g t y ∙ name_later d)) f in
      node_one g h l (kids_past g d (omega arith) (silent_name d u sd) (kids_then g y zy _ (type_one g t y u) (λ wy wr wf.
      (params_kids g (values ps) 1 (place_block b) (kids_block b) end fs Γ _ y.rest u zp fp ia
      (scope_outer g y (type_binds t) (scope_outer g d refl sd)) (λ j ro ro' w rl ys r a sj lj build.
      let e = seat g r in
      let zj : 0 < j = omega arith in
      kids_then g e zj _ (body j ro ro' w rl r zj sj) (λ φ o k.
      kids_done g e.rest (λ M ag. rw (own M, h.child)
      (body_own (suc n) q d.mid j x t φ M d.place i d.next
      (last_two t h l (first_params (values ps) 1 (place_block b) (kids_block b) end y.mid)
      (λ c c'. row_final c (build g.notes 0 (λ a. a ≡ j) (last_part g g.notes 0 (λ a. a ≡ j) e u zj refl)) c'))
      (type_is t h l) k.1 (flow_at g (suc n) M ag (omega (arith, below g d, below g y)) k.0)))))))))

  -- PROC and PROC REC
  pub proc_one : (k p q : ℕ) (x : Name) (ps : List ArgP) (b : Block) (fs Γ : Ctx) {n m row row' v : ℕ} {s : Nodes}
      (h : Seat g k p (node 19 q end (params_row ps (block_row b end))) s n m row row' v) → m ≤ g.count
      → ((M : List ℕ) → own_by k g.text g.tree g.scopes M n ≡ proc_rule g.text g.tree M (child_at g.tree n))
      → Scope g (suc n) (inner_at g.tree g.scopes n) 1 (fs ++ Γ) → Front g (row_after g.tree n row) fs → x ≡ name_at g.text q → InsideArgsP ps (Stands g.text)
      → ((j ro ro' w rl : ℕ) (r : Sit g (block_row b end) j h.mid ro ro' w) → 0 < j → Scope g j w rl (fs ++ extend (declared ps) Γ)
      → One g (FlowFit g j) j (seat g r).mid (judge_block (fs ++ extend (declared ps) Γ) b))
      → One g (Done n) n h.mid (and_then (judge_params ps) λ w. and_then (judge_block (fs ++ extend (declared ps) Γ) b) λ φ.
      passes p (andb (is_free (meaning x)) (is_never φ)))
  unfolding binds_of
  proc_one k p q x ps b fs Γ {n} h l own sd f i ia body =
      let d = seat g h.kids in
      let u = behind' g h l in
      let zd : 0 < d.mid = omega (arith, below g d) in
      node_one g h l (kids_past g d (omega arith) (silent_name d u sd)
      (params_kids g ps 1 (place_block b) (kids_block b) end fs Γ _ d.rest u zd (subst (λ r. Front g r fs) (sym (name_later d)) f) ia
      (scope_outer g d refl sd) (λ j ro ro' w rl ys r a sj lj build.
      let e = seat g r in
      let zj : 0 < j = omega arith in
      kids_then g e zj _ (body j ro ro' w rl r zj sj) (λ φ o k.
      kids_done g e.rest (λ M ag. rw (own M, h.child)
      (proc_own (suc n) q j x φ M d.place i
      (last_next j (suc n) d.mid (d.next ∙ first_params ps 1 (place_block b) (kids_block b) end d.mid) (below g d)
      (λ c c'. row_final c (build g.notes 0 (λ a. a ≡ j) (last_part g g.notes 0 (λ a. a ≡ j) e u zj refl)) c') (length g.tree) (omega arith) (here_in g d u))
      (flow_at g (suc n) M ag (omega (arith, below g d)) k.0)))))))
