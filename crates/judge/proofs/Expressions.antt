-- Expressions: the note of each one's node spells its type, and it is refused exactly where the judge refuses it.
use Prim.Native.Nat.{ℕ, suc, ◌%◌, ◌<◌, ◌≤◌}
use mathlib.Core.Path.{◌≡◌, refl, ap, sym, ◌∙◌, subst}
use mathlib.Core.Bool.{Bool, true, false}
use mathlib.Core.List.{List, [], ◌∷◌, ◌++◌}
use mathlib.Core.Option.{Option, none, some, none-ne-some, some-injective}
use native.Mathlib.Omega.{arith}
use lib.Dec.{eqb, ltb}
use lib.ListN.{length, get_or}
use borrow.Author.Tests.{ne_eqb}
use Rattle.language.specs.Claims.{TyFits, AllNodes, no_node, one_more, Comparable}
use Rattle.language.specs.Answers.{fine}
use Rattle.language.specs.Syntax.{Name, at, Arg, Expr, num, name, if_expr, and, or, app, abs, alloc, nth_expr, len, vset, Exprs, one_expr, more_exprs, TypeTree}
use Rattle.language.specs.Places.{place_expr}
use Rattle.language.specs.Names.{Op, not, eq, lt, add, sub, mul, div, Meaning, literal, operator, free, lookup, meaning, unless_nine, operator_of, head_operator}
use Rattle.language.specs.Words.{name_at}
use Rattle.language.specs.Types.{boolean, integer, Ty, base, fn, Tys, tnil, tcons, BOOL, INT, Par, value, ref, Entity, plain, procedure, Ctx, extend, values, pars, declared, arg_types, vec_of, type_of}
use Rattle.language.specs.Typing.{HasE}
use Rattle.language.specs.Order.{JudgedNode, expr_node, nodes_params, nodes_head, nodes_expr, nodes_exprs, nodes_type}
use Rattle.language.proofs.Reading.Standing.{Stands, InsideExpr, InsideExprs}
use Rattle.language.proofs.Reading.Payload.{name_stands}
use Rattle.language.proofs.Typing.Judge.{and_then, judged, only, andb, same_type, same_types, type_read, name_type, if_type, bools_type, prim_type, app_type, judge_app, judge_expr, judge_exprs, is_element_type, alloc_type, nth_type, len_type, vset_type}
use Rattle.language.proofs.Typing.Judged.{View, vfine, view_expr}
use Rattle.nodes.specs.Names.{meaning_no}
use Rattle.judge.specs.Names.{nine_at}
use Rattle.judge.specs.Scopes.{pick, kind_at, place_at, child_at, next_at, env_at, role_at, role_in, row_of, binds_of, row_after, find_from}
use Rattle.judge.specs.Types.{note_kind, is_fun, parts_of, result_type, fits_from, is_vec, is_defined}
use Rattle.judge.specs.Rules.{has_kind, read_type, bound_rule, name_type_rule, if_rule, bools_rule, one_arg, two_args, operated, applied, app_rule, expr_by, own_by, has_vec, alloc_type_rule, nth_rule, len_rule, vset_rule, vec_by}
use Rattle.judge.proofs.Shapes.{Nodes, end, node, kind_expr, kids_expr, exprs_row, expr_row, kind_type}
use Rattle.judge.proofs.Scoping.{first}
use Rattle.judge.proofs.Noting.{Agree}
use Rattle.judge.proofs.Spelling.{pos_not, values_of, same_values, Spells, s_bool, s_int, s_fn, same_right, kind_bool, kind_int, spells_fine, no_operator, Gets, parts_row, row_parts, Row, gives_value, gives_ref, Args, args_none, args_more, Fitted, fitted, unfitted, fits_right, spells_move, s_vec, vec_no_fun, fun_no_vec}
use Rattle.judge.proofs.Verdicts.{Run, said_type, One, Kids, Own, own_fine, own_bad, one_map, Ends, ends, kids_bind, Sit, Seat, seat, kids_done, below, behind, kids_then, node_one}
use Rattle.judge.proofs.Looking.{binds_value, binds_ref, binds_proc, Found, found_none, found, Scope, scope_up, scope_inner, scope_outer, no_front, Listed}
use Rattle.judge.proofs.Written.{first_params, params_values, here_low, kind_here, last_part, type_binds, element_kind, type_one, type_written}
use Rattle.judge.proofs.Parameters.{in_values, params_kids}

first_exprs : (es : Exprs) (s : Nodes) (n : ℕ) → first (exprs_row es s) n ≡ n
first_exprs (one_expr e) s n = refl
first_exprs (more_exprs e es) s n = refl

-- an expression binds nothing
pub expr_binds : (e : Expr) → binds_of (kind_expr e) ≡ 0
unfolding binds_of
expr_binds (num p z) = refl
expr_binds (name x) = refl
expr_binds (if_expr p a b c) = refl
expr_binds (and p a b) = refl
expr_binds (or p a b) = refl
expr_binds (app p f es) = refl
expr_binds (abs p ps e) = refl
expr_binds (alloc p t e) = refl
expr_binds (nth_expr p a b) = refl
expr_binds (len p a) = refl
expr_binds (vset p a b c) = refl

-- the nodes of a tree, and those behind it
module _ {P : JudgedNode → Type 0} where
  pub all_front : (l m : List JudgedNode) → AllNodes P (l ++ m) → AllNodes P l
  all_front [] m h = no_node
  all_front (x ∷ l) m (one_more h k) = one_more h (all_front l m k)

  pub all_rest : (l : List JudgedNode) {m : List JudgedNode} → AllNodes P (l ++ m) → AllNodes P m
  all_rest [] h = h
  all_rest (x ∷ l) (one_more h k) = all_rest l k

  pub all_one : {n : JudgedNode} → AllNodes P (n ∷ []) → P n
  all_one (one_more h k) = h

-- an expression's own node is its last
comparable : (e : Expr) (Γ : Ctx) → AllNodes Comparable (nodes_expr Γ e) → Comparable (expr_node Γ e)
unfolding nodes_expr
comparable (num p z) Γ q = all_one q
comparable (name x) Γ q = all_one q
comparable (if_expr p a b c) Γ q = all_one (all_rest (nodes_expr Γ c) (all_rest (nodes_expr Γ b) (all_rest (nodes_expr Γ a) q)))
comparable (and p a b) Γ q = all_one (all_rest (nodes_expr Γ b) (all_rest (nodes_expr Γ a) q))
comparable (or p a b) Γ q = all_one (all_rest (nodes_expr Γ b) (all_rest (nodes_expr Γ a) q))
comparable (app p f es) Γ q = all_one (all_rest (nodes_exprs Γ es) (all_rest (nodes_head (head_operator f) (nodes_expr Γ f)) q))
comparable (abs p ps e) Γ q = all_one (all_rest (nodes_expr (extend (declared (values ps)) Γ) e) (all_rest (nodes_params (values ps)) q))
comparable (alloc p t e) Γ q = all_one (all_rest (nodes_expr Γ e) (all_rest (nodes_type t) q))
comparable (nth_expr p a b) Γ q = all_one (all_rest (nodes_expr Γ b) (all_rest (nodes_expr Γ a) q))
comparable (len p a) Γ q = all_one (all_rest (nodes_expr Γ a) q)
comparable (vset p a b c) Γ q = all_one (all_rest (nodes_expr Γ c) (all_rest (nodes_expr Γ b) (all_rest (nodes_expr Γ a) q)))

pub fine_view : {A : Type 0} {P : A → Type 0} {R : List JudgedNode} {a : A} → View P R (fine a) → P a
fine_view (vfine p al) = p

-- so its type has at most 128 levels
pub fits : (e : Expr) (Γ : Ctx) {τ : Ty} → AllNodes Comparable (nodes_expr Γ e) → judge_expr Γ e ≡ fine τ → TyFits τ 128
fits e Γ {τ} q h = comparable e Γ q τ (fine_view (subst (λ o. View (HasE Γ e) (nodes_expr Γ e) o) h (view_expr e Γ)))

module _ (g : Run) where
  -- the note of n spells τ
  abbrev pub Has : ℕ → Ty → Type 0
  Has n τ = Spells g.tree g.notes n (get_or g.notes n 0) τ

  -- and τ may be compared
  abbrev pub Fit : ℕ → Ty → Type 0
  Fit n τ = Has n τ × TyFits τ 128

  pub fit_one : (e : Expr) (Γ : Ctx) {n m : ℕ} → AllNodes Comparable (nodes_expr Γ e) → One g (Has n) n m (judge_expr Γ e) → One g (Fit n) n m (judge_expr Γ e)
  fit_one e Γ q o = one_map g (λ τ h s. (s, fits e Γ q h)) o

  -- in a table that has the same notes from lo on
  pub has_at : {z : ℕ} {τ : Ty} (lo : ℕ) (M : List ℕ) → Agree lo g.notes M → lo ≤ z → Has z τ → Spells g.tree M lo (get_or M z 0) τ
  has_at {z} lo M a l s = rw (← a z l) (spells_move g.tree g.notes M z lo l (λ j h. a j (omega arith)) s)

  pub has_low : {z : ℕ} {τ : Ty} (lo : ℕ) → lo ≤ z → Has z τ → Spells g.tree g.notes lo (get_or g.notes z 0) τ
  has_low {z} lo l s = spells_move g.tree g.notes g.notes z lo l (λ j h. refl) s

  -- an own rule that gives a type
  own_typed : {n p r : ℕ} {τ : Ty} (M : List ℕ) → Agree (suc n) g.notes M → Spells g.tree M (suc n) r τ → Own g (Has n) n p r (fine τ)
  own_typed {n} {p} {r} {τ} M a s =
      own_fine {a = τ} (spells_fine g.tree M (suc n) g.root r τ s) (λ e. rw e (spells_move g.tree M g.notes (suc n) n (omega arith) (λ j h. sym (a j h)) s))

  own_only : {n p r : ℕ} {τ : Ty} (M : List ℕ) → Agree (suc n) g.notes M → Spells g.tree M (suc n) r τ → (b : Bool)
      → Own g (Has n) n p (pick b (λ _. r) λ _. 65536) (judged p (only b (some τ)))
  unfolding judged only
  own_only M a s true = own_typed M a s
  own_only M a s false = own_bad said_type

  bool_note : (M : List ℕ) (lo : ℕ) → Spells g.tree M lo 65551 BOOL
  unfolding note_kind
  bool_note M lo = s_bool refl

  int_note : (M : List ℕ) (lo : ℕ) → Spells g.tree M lo 65552 INT
  unfolding note_kind
  int_note M lo = s_int refl

  -- tests of an expression's kind
  pub is_bool : (M : List ℕ) (lo y : ℕ) (τ : Ty) → Spells g.tree M lo (get_or M y 0) τ → has_kind g.tree M 15 y ≡ same_type τ BOOL
  unfolding has_kind
  is_bool M lo y τ s = kind_bool g.tree M lo (get_or M y 0) τ s

  pub is_int : (M : List ℕ) (lo y : ℕ) (τ : Ty) → Spells g.tree M lo (get_or M y 0) τ → has_kind g.tree M 16 y ≡ same_type τ INT
  unfolding has_kind
  is_int M lo y τ s = kind_int g.tree M lo (get_or M y 0) τ s

  -- (IF)
  if_own : {n p : ℕ} (a b c : ℕ) {τ σ ρ : Ty} (M : List ℕ) → Agree (suc n) g.notes M → next_at g.tree a ≡ b → next_at g.tree b ≡ c
      → Spells g.tree M (suc n) (get_or M a 0) τ → Spells g.tree M (suc n) (get_or M b 0) σ → Spells g.tree M (suc n) (get_or M c 0) ρ → TyFits ρ 128
      → Own g (Has n) n p (if_rule g.tree M a) (judged p (if_type τ σ ρ))
  unfolding if_rule judged only
  if_own {n} {p} a b c {τ} {σ} {ρ} M ag e f s u w t =
      rw (e, f, is_bool M (suc n) a τ s, same_right g.tree M (suc n) 128 (get_or M c 0) (get_or M b 0) ρ σ t w u) (by_tests (same_type τ BOOL) (same_type ρ σ))
    where
      by_tests : (A B : Bool) → Own g (Has n) n p (pick A (λ _. pick B (λ _. get_or M b 0) λ _. 65536) λ _. 65536) (judged p (only A (only B (some σ))))
      by_tests true true = own_typed M ag u
      by_tests true false = own_bad said_type
      by_tests false B = own_bad said_type

  -- (AND), (OR)
  bools_own : {n p : ℕ} (a b : ℕ) {τ σ : Ty} (M : List ℕ) → Agree (suc n) g.notes M → next_at g.tree a ≡ b
      → Spells g.tree M (suc n) (get_or M a 0) τ → Spells g.tree M (suc n) (get_or M b 0) σ → Own g (Has n) n p (bools_rule g.tree M a) (judged p (bools_type τ σ))
  unfolding bools_rule judged only
  bools_own {n} {p} a b {τ} {σ} M ag e s u =
      rw (e, is_bool M (suc n) a τ s, is_bool M (suc n) b σ u) (by_tests (same_type τ BOOL) (same_type σ BOOL))
    where
      by_tests : (A B : Bool) → Own g (Has n) n p (pick A (λ _. pick B (λ _. 65551) λ _. 65536) λ _. 65536) (judged p (only A (only B (some BOOL))))
      by_tests true true = own_typed M ag (bool_note M (suc n))
      by_tests true false = own_bad said_type
      by_tests false B = own_bad said_type

  -- (ALLOC), of the node n
  alloc_own : {n p : ℕ} (y b : ℕ) (t : TypeTree) {σ : Ty} (M : List ℕ) → kind_at g.tree y ≡ kind_type t → next_at g.tree y ≡ b
      → Spells g.tree M (suc n) (get_or M b 0) σ → eqb (n % 65536) 0 ≡ false → Spells g.tree g.notes n n (vec_of (type_of t))
      → Own g (Has n) n p (alloc_type_rule g.tree M n y) (judged p (alloc_type (type_of t) σ))
  unfolding alloc_type_rule judged only
  alloc_own {n} {p} y b t {σ} M k e s f w =
      rw (k, element_kind t, e, is_int M (suc n) b σ s) (by_tests (is_element_type (type_of t)) (same_type σ INT))
    where
      by_tests : (A B : Bool)
          → Own g (Has n) n p (pick A (λ _. pick B (λ _. n) λ _. 65536) λ _. 65536) (judged p (only A (only B (some (vec_of (type_of t))))))
      by_tests true true = own_fine {a = vec_of (type_of t)} f (λ e. rw e w)
      by_tests true false = own_bad said_type
      by_tests false B = own_bad said_type

  -- (NTH)
  nth_own : {n p : ℕ} (a b : ℕ) (τ : Ty) {σ : Ty} (M : List ℕ) → Agree (suc n) g.notes M → next_at g.tree a ≡ b
      → Spells g.tree M (suc n) (get_or M a 0) τ → Spells g.tree M (suc n) (get_or M b 0) σ → Own g (Has n) n p (nth_rule g.tree M a) (judged p (nth_type τ σ))
  unfolding nth_rule has_vec is_vec judged only
  nth_own a b (base boolean) M ag f (s_bool e) u = rw e (own_bad said_type)
  nth_own a b (base integer) M ag f (s_int e) u = rw e (own_bad said_type)
  nth_own a b (fn ts τ) M ag f (s_fn e w) u = rw (fun_no_vec (note_kind g.tree (get_or M a 0)) e) (own_bad said_type)
  nth_own {n} a b (vec_of τ) {σ} M ag f (s_vec e w) u = rw (e, f, is_int M (suc n) b σ u) (own_only M ag w (same_type σ INT))

  -- (LEN)
  len_own : {n p : ℕ} (a : ℕ) (τ : Ty) (M : List ℕ) → Agree (suc n) g.notes M
      → Spells g.tree M (suc n) (get_or M a 0) τ → Own g (Has n) n p (len_rule g.tree M a) (judged p (len_type τ))
  unfolding len_rule has_vec is_vec judged only
  len_own a (base boolean) M ag (s_bool e) = rw e (own_bad said_type)
  len_own a (base integer) M ag (s_int e) = rw e (own_bad said_type)
  len_own a (fn ts τ) M ag (s_fn e w) = rw (fun_no_vec (note_kind g.tree (get_or M a 0)) e) (own_bad said_type)
  len_own {n} a (vec_of τ) M ag (s_vec e w) = rw e (own_typed M ag (int_note M (suc n)))

  -- (VSET)
  vset_own : {n p : ℕ} (a b c : ℕ) (τ : Ty) {σ ρ : Ty} (M : List ℕ) → Agree (suc n) g.notes M → next_at g.tree a ≡ b → next_at g.tree b ≡ c
      → Spells g.tree M (suc n) (get_or M a 0) τ → Spells g.tree M (suc n) (get_or M b 0) σ → Spells g.tree M (suc n) (get_or M c 0) ρ → TyFits ρ 128
      → Own g (Has n) n p (vset_rule g.tree M a) (judged p (vset_type τ σ ρ))
  unfolding vset_rule has_vec is_vec judged only
  vset_own a b c (base boolean) M ag f i (s_bool e) u v k = rw e (own_bad said_type)
  vset_own a b c (base integer) M ag f i (s_int e) u v k = rw e (own_bad said_type)
  vset_own a b c (fn ts τ) M ag f i (s_fn e w) u v k = rw (fun_no_vec (note_kind g.tree (get_or M a 0)) e) (own_bad said_type)
  vset_own {n} {p} a b c (vec_of τ) {σ} {ρ} M ag f i (s_vec e w) u v k =
      rw (e, f, is_int M (suc n) b σ u, i, same_right g.tree M (suc n) 128 (get_or M c 0) (child_at g.tree (get_or M a 0)) ρ τ k v w)
      (by_tests (same_type σ INT) (same_type ρ τ))
    where
      by_tests : (A B : Bool) → Own g (Has n) n p (pick A (λ _. pick B (λ _. get_or M a 0) λ _. 65536) λ _. 65536) (judged p (only A (only B (some (vec_of τ)))))
      by_tests true true = own_typed M ag (s_vec e w)
      by_tests true false = own_bad said_type
      by_tests false B = own_bad said_type

  -- ARGUMENTS

  pub args_move : (lo : ℕ) (M : List ℕ) {z : ℕ} {qs : List Par} → Agree lo g.notes M → Args g.tree g.notes lo z qs → Args g.tree M lo z qs
  args_move lo M a args_none = args_none
  args_move lo M a (args_more {z} l nz (gives_value {τ} f s) r) =
      args_more l nz (gives_value {τ = τ} f (rw (← a z l) (spells_move g.tree g.notes M lo lo (omega arith) a s))) (args_move lo M a r)
  args_move lo M a (args_more {z} l nz (gives_ref k e b s) r) =
      args_more l nz (gives_ref k (rw (← a z l) e) b (spells_move g.tree g.notes M lo lo (omega arith) a s)) (args_move lo M a r)

  none_left : {M : List ℕ} {lo z : ℕ} (us : Tys) → Args g.tree M lo z (values_of us) → eqb z 0 ≡ same_types us tnil
  unfolding same_types
  none_left tnil args_none = refl
  none_left (tcons τ us) (args_more {z} l nz b r) = ne_eqb z 0 nz

  -- one argument of a kind, and two of kind int
  one_arg_lem : (M : List ℕ) (lo k : ℕ) (β : Ty) → ((y : ℕ) (τ : Ty) → Spells g.tree M lo (get_or M y 0) τ → has_kind g.tree M k y ≡ same_type τ β)
      → {z : ℕ} (us : Tys) → Args g.tree M lo z (values_of us) → one_arg g.tree M k z ≡ same_types us (tcons β tnil)
  unfolding one_arg same_types
  one_arg_lem M lo k β h tnil args_none = refl
  one_arg_lem M lo k β h (tcons τ us) (args_more {z} l nz (gives_value f s) r) = rw (ne_eqb z 0 nz, h z τ s, none_left us r) (by-test (same_type τ β))
    where
      by-test : (b : Bool) → pick b (λ _. same_types us tnil) (λ _. false) ≡ andb b (same_types us tnil)
      by-test true = refl
      by-test false = refl

  two_args_lem : (M : List ℕ) (lo : ℕ) {z : ℕ} (us : Tys) → (z ≡ 0 → ⊥) → Args g.tree M lo z (values_of us)
      → two_args g.tree M z ≡ same_types us (tcons INT (tcons INT tnil))
  unfolding two_args same_types
  two_args_lem M lo tnil nz args_none = absurd (nz refl)
  two_args_lem M lo (tcons τ us) o (args_more {z} l nz (gives_value f s) r) =
      rw (is_int M lo z τ s, one_arg_lem M lo 16 INT (is_int M lo) us r) (by-test (same_type τ INT))
    where
      by-test : (b : Bool) → pick b (λ _. same_types us (tcons INT tnil)) (λ _. false) ≡ andb b (same_types us (tcons INT tnil))
      by-test true = refl
      by-test false = refl

  -- (PRIM)
  prim_own : {n p z : ℕ} (M : List ℕ) (o : Op) (us : Tys) → Agree (suc n) g.notes M → (z ≡ 0 → ⊥) → Args g.tree M (suc n) z (values_of us)
      → Own g (Has n) n p (operated g.tree M (meaning_no (operator o)) z) (judged p (prim_type o us))
  unfolding operated
  prim_own {n} M not us ag nz a =
      rw (one_arg_lem M (suc n) 15 BOOL (is_bool M (suc n)) us a) (own_only M ag (bool_note M (suc n)) (same_types us (tcons BOOL tnil)))
  prim_own {n} M eq us ag nz a = rw (two_args_lem M (suc n) us nz a) (own_only M ag (bool_note M (suc n)) (same_types us (tcons INT (tcons INT tnil))))
  prim_own {n} M lt us ag nz a = rw (two_args_lem M (suc n) us nz a) (own_only M ag (bool_note M (suc n)) (same_types us (tcons INT (tcons INT tnil))))
  prim_own {n} M add us ag nz a = rw (two_args_lem M (suc n) us nz a) (own_only M ag (int_note M (suc n)) (same_types us (tcons INT (tcons INT tnil))))
  prim_own {n} M sub us ag nz a = rw (two_args_lem M (suc n) us nz a) (own_only M ag (int_note M (suc n)) (same_types us (tcons INT (tcons INT tnil))))
  prim_own {n} M mul us ag nz a = rw (two_args_lem M (suc n) us nz a) (own_only M ag (int_note M (suc n)) (same_types us (tcons INT (tcons INT tnil))))
  prim_own {n} M div us ag nz a = rw (two_args_lem M (suc n) us nz a) (own_only M ag (int_note M (suc n)) (same_types us (tcons INT (tcons INT tnil))))

  prim_head : {n p z : ℕ} (h : ℕ) (M : List ℕ) (o : Op) (us : Tys) → Agree (suc n) g.notes M → next_at g.tree h ≡ z → get_or M h 0 ≡ 65555
      → nine_at g.text (place_at g.tree h) ≡ meaning_no (operator o) → (z ≡ 0 → ⊥) → Args g.tree M (suc n) z (values_of us)
      → Own g (Has n) n p (app_rule g.text g.tree M h) (judged p (prim_type o us))
  unfolding app_rule
  prim_head h M o us ag e f k nz a = rw (f, e, k) (prim_own M o us ag nz a)

  -- (APP)
  app_own : {n p z : ℕ} (M : List ℕ) (r : ℕ) (τ : Ty) (us : Tys) → Agree (suc n) g.notes M → Spells g.tree M (suc n) r τ → Args g.tree M (suc n) z (values_of us)
      → Own g (Has n) n p (applied g.tree M r z) (judged p (app_type τ us))
  unfolding applied is_fun judged only
  app_own M r (base boolean) us ag (s_bool e) a = rw e (own_bad said_type)
  app_own M r (base integer) us ag (s_int e) a = rw e (own_bad said_type)
  app_own M r (vec_of τ) us ag (s_vec e w) a = rw (vec_no_fun (note_kind g.tree r) e) (own_bad said_type)
  app_own {n} {p} {z} M r (fn ts τ) us ag (s_fn e w) a =
      rw e (by-fit (same_types us ts)
      (subst (Fitted g.tree M (suc n) (Gets g.tree M (suc n) r τ) (fits_from g.tree M (length g.tree) (parts_of g.tree r) z)) (same_values us ts)
      (fits_right g.tree M (suc n) (length g.tree) (parts_of g.tree r) z (values_of ts) (values_of us) (parts_row g.tree M (suc n) w) a (omega arith))))
    where
      by-fit : {y : ℕ} (b : Bool) → Fitted g.tree M (suc n) (Gets g.tree M (suc n) r τ) y b
          → Own g (Has n) n p (pick (eqb y 0) (λ _. 65536) λ _. result_type g.tree M r y) (judged p (only b (some τ)))
      by-fit {y} true (fitted nz s) = rw (ne_eqb y 0 nz) (own_typed M ag s.1)
      by-fit false unfitted = own_bad said_type

  app_head : {n p z r : ℕ} (h : ℕ) (M : List ℕ) (τ : Ty) (us : Tys) → Agree (suc n) g.notes M → next_at g.tree h ≡ z → get_or M h 0 ≡ r
      → Spells g.tree M (suc n) r τ
      → Args g.tree M (suc n) z (values_of us) → Own g (Has n) n p (app_rule g.text g.tree M h) (judged p (app_type τ us))
  unfolding app_rule
  app_head {n} {r = r} h M τ us ag e f s a = rw (f, e, no_operator g.tree M (suc n) r τ s) (app_own M r τ us ag s a)

  -- NAMES

  -- a name that is judged: no operator but at a head
  abbrev pub Judges : ℕ → Option Op → Type 0
  Judges role o = (eqb role 1 ≡ false) × ((f : Op) → o ≡ some f → eqb role 2 ≡ false)

  abbrev named_by : ℕ → ℕ → ℕ → ℕ
  named_by role k b =
      pick (eqb role 1) (λ _. 65537) λ _. pick (eqb k 0) (λ _. pick (eqb b 0) (λ _. 65536) λ _. read_type g.tree b) λ _.
      pick (ltb k 3) (λ _. 65551) λ _. pick (eqb role 2) (λ _. 65555) λ _. 65536

  name_is : (n : ℕ) {p role e k : ℕ} → role_at g.scopes n ≡ role → place_at g.tree n ≡ p → env_at g.scopes n ≡ e → nine_at g.text p ≡ k
      → name_type_rule g.text g.tree g.scopes n ≡ named_by role k (find_from g.text g.tree g.scopes p (length g.tree) e)
  unfolding name_type_rule bound_rule
  name_is n a b c d = rw (a, b, c, d)

  found_own : {n p b : ℕ} (M : List ℕ) (o : Option Entity) → Agree (suc n) g.notes M → Found g o b
      → Own g (Has n) n p (pick (eqb b 0) (λ _. 65536) λ _. read_type g.tree b) (judged p (type_read o))
  unfolding judged
  found_own M none ag found_none = own_bad said_type
  found_own {n} M (some (plain (value τ))) ag (found {b = b} nz (binds_value r e f w x y)) = rw (ne_eqb b 0 nz, e) (own_typed M ag (w M (suc n)))
  found_own {n} M (some (plain (ref τ))) ag (found {b = b} nz (binds_ref r e f w x y z)) = rw (ne_eqb b 0 nz, e) (own_typed M ag (w M (suc n)))
  found_own M (some (procedure qs)) ag (found {b = b} nz (binds_proc e x y z)) = rw (ne_eqb b 0 nz, e) (own_bad said_type)

  name_own : {n p b : ℕ} (role : ℕ) (M : List ℕ) (m : Meaning) (o : Option Entity) → Agree (suc n) g.notes M → Judges role (operator_of m) → Found g o b
      → Own g (Has n) n p (named_by role (meaning_no m) b) (judged p (name_type m (unless_nine m o)))
  unfolding judged
  name_own {n} role M (literal true) o ag j f = rw j.0 (own_typed M ag (bool_note M (suc n)))
  name_own {n} role M (literal false) o ag j f = rw j.0 (own_typed M ag (bool_note M (suc n)))
  name_own role M (operator not) o ag j f = rw (j.0, j.1 not refl) (own_bad said_type)
  name_own role M (operator eq) o ag j f = rw (j.0, j.1 eq refl) (own_bad said_type)
  name_own role M (operator lt) o ag j f = rw (j.0, j.1 lt refl) (own_bad said_type)
  name_own role M (operator add) o ag j f = rw (j.0, j.1 add refl) (own_bad said_type)
  name_own role M (operator sub) o ag j f = rw (j.0, j.1 sub refl) (own_bad said_type)
  name_own role M (operator mul) o ag j f = rw (j.0, j.1 mul refl) (own_bad said_type)
  name_own role M (operator div) o ag j f = rw (j.0, j.1 div refl) (own_bad said_type)
  name_own role M free o ag j f = rw j.0 (found_own M o ag f)

  -- an operator's name as a head
  head_note : (o : Op) (b : ℕ) → named_by 2 (meaning_no (operator o)) b ≡ 65555
  head_note not b = refl
  head_note eq b = refl
  head_note lt b = refl
  head_note add b = refl
  head_note sub b = refl
  head_note mul b = refl
  head_note div b = refl

  operator_is : (m : Meaning) (o : Op) → operator_of m ≡ some o → meaning_no m ≡ meaning_no (operator o)
  operator_is (literal b) o e = absurd (none-ne-some _ e)
  operator_is (operator f) o e = ap (λ f. meaning_no (operator f)) (some-injective _ _ e)
  operator_is free o e = absurd (none-ne-some _ e)

  module _ {k p n m row row' v role : ℕ} {c s : Nodes} {Γ : Ctx} (h : Seat g k p c s n m row row' v) (l : m ≤ g.count) (sc : Scope g n v role Γ) where
    pub role_here : role_at g.scopes n ≡ role
    unfolding role_at
    role_here = rw h.scope sc.role_is

    pub env_here : env_at g.scopes n ≡ v % 65536
    unfolding env_at
    env_here = rw h.scope

    pub env_low : v % 65536 ≤ length g.tree
    env_low = omega (arith, sc.low, below g h, behind g h, g.room)

    pub name_found : (x : Name) → x ≡ name_at g.text p → Found g (lookup Γ x) (find_from g.text g.tree g.scopes p (length g.tree) (v % 65536))
    name_found x e = rw e (sc.looks (length g.tree) env_low p)

    name_nine : (x : Name) → x ≡ name_at g.text p → nine_at g.text p ≡ meaning_no (meaning x)
    unfolding nine_at
    name_nine x e = rw e

    name_rule : (x : Name) → x ≡ name_at g.text p
        → name_type_rule g.text g.tree g.scopes n ≡ named_by role (meaning_no (meaning x)) (find_from g.text g.tree g.scopes p (length g.tree) (v % 65536))
    name_rule x e = name_is n role_here h.place env_here (name_nine x e)

  operator_one : (f : Expr) (o : Op) {n m row row' v : ℕ} {s : Nodes} {Γ : Ctx} → head_operator f ≡ some o
      → (h : Seat g (kind_expr f) (place_expr f) (kids_expr f) s n m row row' v) → m ≤ g.count → Scope g n v 2 Γ → InsideExpr f (Stands g.text)
      → One g (λ (u : Unit {0}). (get_or g.notes n 0 ≡ 65555) × (nine_at g.text (place_at g.tree n) ≡ meaning_no (operator o))) n h.mid (fine tt)
  unfolding own_by expr_by InsideExpr
  operator_one (name (at p x)) o {n} {v = v} e h l sc s =
      let w = name_stands s in
      node_one g h l (kids_done g h.kids (λ M a.
      rw (name_rule h l sc x w, operator_is (meaning x) o e, head_note o (find_from g.text g.tree g.scopes p (length g.tree) (v % 65536)))
      (own_fine refl (λ i. (i, ap (nine_at g.text) h.place ∙ (name_nine h l sc x w ∙ operator_is (meaning x) o e))))))
  operator_one (num p z) o e h l sc s = absurd (none-ne-some _ e)
  operator_one (if_expr p a b c) o e h l sc s = absurd (none-ne-some _ e)
  operator_one (and p a b) o e h l sc s = absurd (none-ne-some _ e)
  operator_one (or p a b) o e h l sc s = absurd (none-ne-some _ e)
  operator_one (app p f es) o e h l sc s = absurd (none-ne-some _ e)
  operator_one (abs p ps b) o e h l sc s = absurd (none-ne-some _ e)
  operator_one (alloc p t b) o e h l sc s = absurd (none-ne-some _ e)
  operator_one (nth_expr p a b) o e h l sc s = absurd (none-ne-some _ e)
  operator_one (len p a) o e h l sc s = absurd (none-ne-some _ e)
  operator_one (vset p a b c) o e h l sc s = absurd (none-ne-some _ e)

  -- EXPRESSIONS

  pub plain_role : (o : Option Op) → Judges 0 o
  plain_role o = (refl, (λ f e. refl))

  -- behind parameters
  pub listed_role : {n role : ℕ} {xs : List Name} → Listed g n role xs → (o : Option Op) → Judges role o
  listed_role i o = (i.silent, λ f e. i.head)

  head_role : Judges 2 none
  head_role = (refl, (λ f e. absurd (none-ne-some _ e)))

  -- an abstraction's node spells its type
  abs_spells : {p n m row row' v : ℕ} {c s : Nodes} (ps : List Arg) (τ : Ty) → Seat g 24 p c s n m row row' v → m ≤ g.count → child_at g.tree n ≡ suc n
      → Row g.tree g.notes n (Gets g.tree g.notes n n τ) (suc n) (pars (values ps)) → Spells g.tree g.notes n n (fn (arg_types ps) τ)
  unfolding is_fun is_defined parts_of
  abs_spells {n = n} ps τ h l e r =
      s_fn {r = n} {ts = arg_types ps} {τ = τ} (rw (kind_here g h l))
      (row_parts g.tree g.notes n (arg_types ps) (rw (h.kind, e) (subst (Row g.tree g.notes n (Gets g.tree g.notes n n τ) (suc n)) (params_values ps) r)))

  no_row : (n row : ℕ) → kind_at g.tree n ≡ 24 → row_after g.tree n row ≡ 0
  unfolding row_after row_of
  no_row n row e = rw e

  pub behind' : {k p n m row row' v : ℕ} {c s : Nodes} (h : Seat g k p c s n m row row' v) → m ≤ g.count → h.mid ≤ g.count
  behind' h l = omega (arith, behind g h)

  -- an application, by its head
  app_one : (p : ℕ) (f : Expr) (es : Exprs) (o : Option Op) {n m row row' v role : ℕ} {s : Nodes} {Γ : Ctx}
      (h : Seat g 23 p (node (kind_expr f) (place_expr f) (kids_expr f) (exprs_row es end)) s n m row row' v) → m ≤ g.count → Scope g n v role Γ
      → InsideExpr f (Stands g.text) → head_operator f ≡ o → (head_operator f ≡ none → One g (Fit (suc n)) (suc n) (seat g h.kids).mid (judge_expr Γ f))
      → Kids g (Ends g (λ us. Args g.tree g.notes (suc n) (seat g h.kids).mid (values_of us))) (exprs_row es end) (seat g h.kids).mid h.mid
      (judge_exprs Γ es)
      → One g (Has n) n h.mid (judge_app p o (judge_expr Γ f) (judge_exprs Γ es))
  unfolding own_by expr_by role_in row_of and_then
  app_one p f es (some o) {n} {Γ = Γ} h l sc i e vf vs =
      let d = seat g h.kids in
      let w : next_at g.tree (suc n) ≡ d.mid = d.next ∙ first_exprs es end d.mid in
      node_one g h l (kids_then g d (omega arith) (λ u. and_then (judge_exprs Γ es) λ us. judged p (prim_type o us))
      (operator_one f o e d (behind' h l) (scope_inner g h refl refl (scope_up g (omega arith) sc)) i) (λ u r z.
      kids_bind g (λ us. judged p (prim_type o us)) vs (λ us q a M ag.
      rw h.child (prim_head (suc n) M o us ag w (sym (ag (suc n) (omega arith)) ∙ z.0) z.1 (pos_not d.mid (omega (arith, below g d)))
      (args_move (suc n) M ag a)))))
  app_one p f es none {n} {Γ = Γ} h l sc i e vf vs =
      let d = seat g h.kids in
      let w : next_at g.tree (suc n) ≡ d.mid = d.next ∙ first_exprs es end d.mid in
      node_one g h l (kids_then g d (omega arith) (λ τ. and_then (judge_exprs Γ es) λ us. judged p (app_type τ us)) (vf e) (λ τ r z.
      kids_bind g (λ us. judged p (app_type τ us)) vs (λ us q a M ag.
      rw h.child (app_head (suc n) M τ us ag w refl (has_at (suc n) M ag (omega arith) z.0) (args_move (suc n) M ag a)))))

  -- two bools
  bools_one : (k p : ℕ) (a b : Expr) (Γ : Ctx) {n m row row' v : ℕ} {s : Nodes} (h : Seat g k p (expr_row a (expr_row b end)) s n m row row' v) → m ≤ g.count
      → ((M : List ℕ) → own_by k g.text g.tree g.scopes M n ≡ bools_rule g.tree M (child_at g.tree n))
      → One g (Fit (suc n)) (suc n) (seat g h.kids).mid (judge_expr Γ a)
      → One g (Fit (seat g h.kids).mid) (seat g h.kids).mid (seat g (seat g h.kids).rest).mid (judge_expr Γ b)
      → One g (Has n) n h.mid (and_then (judge_expr Γ a) λ τ. and_then (judge_expr Γ b) λ σ. judged p (bools_type τ σ))
  bools_one k p a b Γ {n} h l e oa ob =
      let ha = seat g h.kids in
      let hb = seat g ha.rest in
      node_one g h l
      (kids_then g ha (omega arith) _ oa (λ τ ra ka.
      kids_then g hb (omega (arith, below g ha)) _ ob (λ σ rb kb.
      kids_done g hb.rest (λ M ag. rw (e M, h.child)
      (bools_own (suc n) ha.mid M ag ha.next (has_at (suc n) M ag (omega arith) ka.0) (has_at (suc n) M ag (omega (arith, below g ha)) kb.0))))))

  arg_value : {z i : ℕ} {τ : Ty} {qs : List Par} (lo : ℕ) → lo ≤ z → 0 < z → next_at g.tree z ≡ i → Fit z τ → Args g.tree g.notes lo i qs
      → Args g.tree g.notes lo z (value τ ∷ qs)
  arg_value {z} {qs = qs} lo l y e f a =
      args_more l (pos_not z y) (gives_value f.1 (has_low lo l f.0)) (subst (λ i. Args g.tree g.notes lo i qs) (sym e) a)

  pub node_fine : {k p n m row row' v : ℕ} {c s : Nodes} → Seat g k p c s n m row row' v → m ≤ g.count → 0 < n → eqb (n % 65536) 0 ≡ false
  node_fine {n = n} h l z = ne_eqb (n % 65536) 0 (λ e. omega (arith, here_low g h l))

  -- an abstraction's result is what its body's note says
  body_gets : {p n m row row' v i : ℕ} {c s : Nodes} {τ : Ty} → Seat g 24 p c s n m row row' v → n ≤ i → Has i τ → Gets g.tree g.notes n n τ i
  unfolding is_defined result_type
  body_gets h l t = ((λ e. l), rw h.kind (has_low _ l t))

  mutual
    unfolding judge_expr nodes_expr InsideExpr own_by expr_by vec_by judged role_in row_of is_vec

    pub expr_one : (e : Expr) {n m row row' v role : ℕ} {s : Nodes} {Γ : Ctx} (h : Seat g (kind_expr e) (place_expr e) (kids_expr e) s n m row row' v)
        → m ≤ g.count
        → 0 < n → Scope g n v role Γ → Judges role (head_operator e) → InsideExpr e (Stands g.text) → AllNodes Comparable (nodes_expr Γ e)
        → One g (Fit n) n h.mid (judge_expr Γ e)
    expr_one (num p i) {n} {Γ = Γ} h l z sc j s q =
        fit_one (num p i) Γ q (node_one g h l (kids_done g h.kids (λ M ag. own_typed M ag (int_note M (suc n)))))
    expr_one (name (at p x)) {n} {role = role} {Γ = Γ} h l z sc j s q =
        let w = name_stands s in
        fit_one (name (at p x)) Γ q (node_one g h l (kids_done g h.kids (λ M ag.
        rw (name_rule h l sc x w) (name_own role M (meaning x) (lookup Γ x) ag j (name_found h l sc x w)))))
    expr_one (if_expr p a b c) {n} {Γ = Γ} h l z sc j s q =
        let ha = seat g h.kids in
        let hb = seat g ha.rest in
        let hc = seat g hb.rest in
        let qa = all_front (nodes_expr Γ a) _ q in
        let qr = all_rest (nodes_expr Γ a) q in
        let qb = all_front (nodes_expr Γ b) _ qr in
        let qc = all_front (nodes_expr Γ c) _ (all_rest (nodes_expr Γ b) qr) in
        let u = behind' h l in
        let sa = scope_inner g h {role = 0} refl refl (scope_up g (omega arith) sc) in
        let sb = scope_outer g ha (expr_binds a) sa in
        let sd = scope_outer g hb (expr_binds b) sb in
        let zb : 0 < ha.mid = omega (arith, below g ha) in
        let zc : 0 < hb.mid = omega (arith, below g hb) in
        fit_one (if_expr p a b c) Γ q (node_one g h l
        (kids_then g ha (omega arith) _ (expr_one a ha u (omega arith) sa (plain_role (head_operator a)) s.0 qa) (λ τ ra ka.
        kids_then g hb zb _ (expr_one b hb u zb sb (plain_role (head_operator b)) s.1 qb) (λ σ rb kb.
        kids_then g hc zc _ (expr_one c hc u zc sd (plain_role (head_operator c)) s.2 qc) (λ ρ rc kc.
        kids_done g hc.rest (λ M ag. rw h.child
        (if_own (suc n) ha.mid hb.mid M ag ha.next hb.next (has_at (suc n) M ag (omega arith) ka.0)
        (has_at (suc n) M ag (omega (arith, below g ha)) kb.0) (has_at (suc n) M ag (omega (arith, below g ha, below g hb)) kc.0) kc.1)))))))
    expr_one (and p a b) {n} {Γ = Γ} h l z sc j s q =
        let ha = seat g h.kids in
        let hb = seat g ha.rest in
        let u = behind' h l in
        let sa = scope_inner g h {role = 0} refl refl (scope_up g (omega arith) sc) in
        let zb : 0 < ha.mid = omega (arith, below g ha) in
        fit_one (and p a b) Γ q (bools_one 21 p a b Γ h l (λ M. refl)
        (expr_one a ha u (omega arith) sa (plain_role (head_operator a)) s.0 (all_front (nodes_expr Γ a) _ q))
        (expr_one b hb u zb (scope_outer g ha (expr_binds a) sa) (plain_role (head_operator b)) s.1
        (all_front (nodes_expr Γ b) _ (all_rest (nodes_expr Γ a) q))))
    expr_one (or p a b) {n} {Γ = Γ} h l z sc j s q =
        let ha = seat g h.kids in
        let hb = seat g ha.rest in
        let u = behind' h l in
        let sa = scope_inner g h {role = 0} refl refl (scope_up g (omega arith) sc) in
        let zb : 0 < ha.mid = omega (arith, below g ha) in
        fit_one (or p a b) Γ q (bools_one 22 p a b Γ h l (λ M. refl)
        (expr_one a ha u (omega arith) sa (plain_role (head_operator a)) s.0 (all_front (nodes_expr Γ a) _ q))
        (expr_one b hb u zb (scope_outer g ha (expr_binds a) sa) (plain_role (head_operator b)) s.1
        (all_front (nodes_expr Γ b) _ (all_rest (nodes_expr Γ a) q))))
    expr_one (app p f es) {n} {Γ = Γ} h l z sc j s q =
        let d = seat g h.kids in
        let u = behind' h l in
        let sf = scope_inner g h {role = 2} refl refl (scope_up g (omega arith) sc) in
        let qf = all_front (nodes_head (head_operator f) (nodes_expr Γ f)) _ q in
        let qs = all_front (nodes_exprs Γ es) _ (all_rest (nodes_head (head_operator f) (nodes_expr Γ f)) q) in
        fit_one (app p f es) Γ q (app_one p f es (head_operator f) h l sc s.0 refl
        (λ e. expr_one f d u (omega arith) sf (subst (Judges 2) (sym e) head_role) s.0
        (subst (λ o. AllNodes Comparable (nodes_head o (nodes_expr Γ f))) e qf))
        (exprs_kids es (suc n) d.rest u (omega (arith, below g d)) (omega (arith, below g d)) (scope_outer g d (expr_binds f) sf) s.1 qs))
    expr_one (abs p ps e) {n} {row = row} {Γ = Γ} h l z sc j s q =
        let u = behind' h l in
        let Δ = extend (declared (values ps)) Γ in
        let qe = all_front (nodes_expr Δ e) _ (all_rest (nodes_params (values ps)) q) in
        let c = h.child ∙ first_params (values ps) (kind_expr e) (place_expr e) (kids_expr e) end (suc n) in
        fit_one (abs p ps e) Γ q (node_one g h l
        (params_kids g (values ps) (kind_expr e) (place_expr e) (kids_expr e) end [] Γ _ h.kids u (omega arith) (no_front (no_row n row h.kind))
        (in_values ps (Stands g.text) s.0) (scope_inner g h {role = 0} refl refl (scope_up g (omega arith) sc)) (λ i ro ro' w rl ys k y si li build.
        let d = seat g k in
        let zi : 0 < i = omega arith in
        kids_then g d zi _ (expr_one e d u zi si (listed_role li (head_operator e)) s.1 qe) (λ τ r t.
        kids_done g d.rest (λ M ag.
        own_fine (node_fine h l z) (λ e. rw e (abs_spells ps τ h l c (build g.notes n (Gets g.tree g.notes n n τ)
        (last_part g g.notes n (Gets g.tree g.notes n n τ) d u zi
        (body_gets h (omega arith) t.0))))))))))
    expr_one (alloc p t e) {n} {Γ = Γ} h l z sc j s q =
        let y = seat g h.kids in
        let b = seat g y.rest in
        let u = behind' h l in
        let sy = scope_inner g h {role = 0} refl refl (scope_up g (omega arith) sc) in
        let zb : 0 < y.mid = omega (arith, below g y) in
        fit_one (alloc p t e) Γ q (node_one g h l
        (kids_then g y (omega arith) _ (type_one g t y u) (λ w r f.
        kids_then g b zb _ (expr_one e b u zb (scope_outer g y (type_binds t) sy) (plain_role (head_operator e)) s
        (all_front (nodes_expr Γ e) _ (all_rest (nodes_type t) q))) (λ τ rb kb.
        kids_done g b.rest (λ M ag. rw h.child
        (alloc_own (suc n) y.mid t M y.kind y.next (has_at (suc n) M ag (omega (arith, below g y)) kb.0) (node_fine h l z)
        (s_vec {r = n} {τ = type_of t} (rw (kind_here g h l)) (rw h.child (type_written g t y u (omega arith) g.notes n)))))))))
    expr_one (nth_expr p a b) {n} {Γ = Γ} h l z sc j s q =
        let ha = seat g h.kids in
        let hb = seat g ha.rest in
        let u = behind' h l in
        let sa = scope_inner g h {role = 0} refl refl (scope_up g (omega arith) sc) in
        let zb : 0 < ha.mid = omega (arith, below g ha) in
        fit_one (nth_expr p a b) Γ q (node_one g h l
        (kids_then g ha (omega arith) _ (expr_one a ha u (omega arith) sa (plain_role (head_operator a)) s.0 (all_front (nodes_expr Γ a) _ q)) (λ τ ra ka.
        kids_then g hb zb _ (expr_one b hb u zb (scope_outer g ha (expr_binds a) sa) (plain_role (head_operator b)) s.1
        (all_front (nodes_expr Γ b) _ (all_rest (nodes_expr Γ a) q))) (λ σ rb kb.
        kids_done g hb.rest (λ M ag. rw h.child
        (nth_own (suc n) ha.mid τ M ag ha.next (has_at (suc n) M ag (omega arith) ka.0) (has_at (suc n) M ag (omega (arith, below g ha)) kb.0)))))))
    expr_one (len p a) {n} {Γ = Γ} h l z sc j s q =
        let ha = seat g h.kids in
        let sa = scope_inner g h {role = 0} refl refl (scope_up g (omega arith) sc) in
        fit_one (len p a) Γ q (node_one g h l
        (kids_then g ha (omega arith) _ (expr_one a ha (behind' h l) (omega arith) sa (plain_role (head_operator a)) s (all_front (nodes_expr Γ a) _ q)) (λ τ ra ka.
        kids_done g ha.rest (λ M ag. rw h.child (len_own (suc n) τ M ag (has_at (suc n) M ag (omega arith) ka.0))))))
    expr_one (vset p a b c) {n} {Γ = Γ} h l z sc j s q =
        let ha = seat g h.kids in
        let hb = seat g ha.rest in
        let hc = seat g hb.rest in
        let qa = all_front (nodes_expr Γ a) _ q in
        let qr = all_rest (nodes_expr Γ a) q in
        let qb = all_front (nodes_expr Γ b) _ qr in
        let qc = all_front (nodes_expr Γ c) _ (all_rest (nodes_expr Γ b) qr) in
        let u = behind' h l in
        let sa = scope_inner g h {role = 0} refl refl (scope_up g (omega arith) sc) in
        let sb = scope_outer g ha (expr_binds a) sa in
        let sd = scope_outer g hb (expr_binds b) sb in
        let zb : 0 < ha.mid = omega (arith, below g ha) in
        let zc : 0 < hb.mid = omega (arith, below g hb) in
        fit_one (vset p a b c) Γ q (node_one g h l
        (kids_then g ha (omega arith) _ (expr_one a ha u (omega arith) sa (plain_role (head_operator a)) s.0 qa) (λ τ ra ka.
        kids_then g hb zb _ (expr_one b hb u zb sb (plain_role (head_operator b)) s.1 qb) (λ σ rb kb.
        kids_then g hc zc _ (expr_one c hc u zc sd (plain_role (head_operator c)) s.2 qc) (λ ρ rc kc.
        kids_done g hc.rest (λ M ag. rw h.child
        (vset_own (suc n) ha.mid hb.mid τ M ag ha.next hb.next (has_at (suc n) M ag (omega arith) ka.0)
        (has_at (suc n) M ag (omega (arith, below g ha)) kb.0) (has_at (suc n) M ag (omega (arith, below g ha, below g hb)) kc.0) kc.1)))))))

    exprs_kids : (es : Exprs) (lo : ℕ) {n hi row row' v : ℕ} {Γ : Ctx} → Sit g (exprs_row es end) n hi row row' v → hi ≤ g.count → 0 < n → lo ≤ n
        → Scope g n v 0 Γ
        → InsideExprs es (Stands g.text) → AllNodes Comparable (nodes_exprs Γ es)
        → Kids g (Ends g (λ us. Args g.tree g.notes lo n (values_of us))) (exprs_row es end) n hi (judge_exprs Γ es)
    exprs_kids (one_expr e) lo k l z y sc s q =
        let h = seat g k in
        kids_then g h z _ (expr_one e h l z sc (plain_role (head_operator e)) s q)
        (λ τ r t. kids_done g h.rest (ends (arg_value lo y z h.next t args_none)))
    exprs_kids (more_exprs e es) lo {Γ = Γ} k l z y sc s q =
        let h = seat g k in
        kids_then g h z _ (expr_one e h l z sc (plain_role (head_operator e)) s.0 (all_front (nodes_expr Γ e) _ q)) (λ τ r t.
        kids_bind g (λ us. fine (tcons τ us))
        (exprs_kids es lo h.rest l (omega (arith, below g h)) (omega (arith, below g h)) (scope_outer g h (expr_binds e) sc) s.1
        (all_rest (nodes_expr Γ e) q)) (λ us r' a.
        ends (arg_value lo y z (h.next ∙ first_exprs es end h.mid) t a)))
