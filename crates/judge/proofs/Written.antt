-- Written types: their nodes are refused where a vec is of a function's type, and they spell the types that they say; so do rows of parameters.
use Prim.Native.Nat.{ℕ, suc, ◌<◌, ◌≤◌}
use mathlib.Core.Path.{◌≡◌, refl, sym, ◌∙◌, subst}
use mathlib.Core.Bool.{Bool, true, false}
use mathlib.Core.List.{List, [], ◌∷◌}
use native.Mathlib.Omega.{arith}
use lib.Dec.{eqb}
use lib.ListN.{length, get_or}
use borrow.Author.Tests.{lt-ltb}
use Rattle.language.specs.Answers.{fine, Result, refuse}
use Rattle.language.specs.Syntax.{TypeTree, bool, int, arrow, vec, TypeTrees, one_type, more_types, Arg, arg, ArgP}
use Rattle.language.specs.Types.{type_of, types_of, Par, value, values, pars, arg_types}
use Rattle.language.proofs.Typing.Judge.{and_then, judged, only, passes, is_element_type, judge_type, judge_types}
use Rattle.judge.specs.Scopes.{kind_at, next_at, pick, binds_of}
use Rattle.judge.specs.Types.{note_kind, is_fun, parts_of, param_type_in, result_type, is_vec, is_defined}
use Rattle.judge.specs.Rules.{param_by, own_by, is_element, vec_by}
use Rattle.judge.proofs.Shapes.{Nodes, end, node, kind_type, place_type, kids_type, types_row, type_row, params_row}
use Rattle.judge.proofs.Scoping.{first}
use Rattle.judge.proofs.Spelling.{values_of, s_bool, s_int, s_fn, Takes, takes_value, Row, row_last, row_more, row_map, row_parts, s_vec}
use Rattle.judge.proofs.Verdicts.{Run, One, Kids, own_fine, Ends, ends, kids_map, Sit, Seat, seat, kids_done, below, behind, node_one, said_type, Own, own_bad, kids_then, kids_last}
use Rattle.judge.proofs.Looking.{Written}

first_types : (ts : TypeTrees) (s : Nodes) (n : ℕ) → first (types_row ts s) n ≡ n
first_types (one_type t) s n = refl
first_types (more_types t ts) s n = refl

pub first_params : (ps : List ArgP) (k p : ℕ) (c s : Nodes) (n : ℕ) → first (params_row ps (node k p c s)) n ≡ n
first_params [] k p c s n = refl
first_params (a ∷ ps) k p c s n = refl

-- a type's node is no parameter
no_value : (t : TypeTree) → eqb (kind_type t) 13 ≡ false
no_value (bool p) = refl
no_value (int p) = refl
no_value (arrow p ts t) = refl
no_value (vec p t) = refl

no_var : (t : TypeTree) → eqb (kind_type t) 14 ≡ false
no_var (bool p) = refl
no_var (int p) = refl
no_var (arrow p ts t) = refl
no_var (vec p t) = refl

-- and binds nothing
pub type_binds : (t : TypeTree) → binds_of (kind_type t) ≡ 0
unfolding binds_of
type_binds (bool p) = refl
type_binds (int p) = refl
type_binds (arrow p ts t) = refl
type_binds (vec p t) = refl

-- what a block may be of
pub element_kind : (t : TypeTree) → is_element (kind_type t) ≡ is_element_type (type_of t)
unfolding is_element
element_kind (bool p) = refl
element_kind (int p) = refl
element_kind (arrow p ts t) = refl
element_kind (vec p t) = refl

then_assoc : {A B C : Type 0} (r : Result A) (s : Result B) (o : Result C) → and_then r (λ u. and_then s λ v. o) ≡ and_then (and_then r λ u. s) λ v. o
unfolding and_then
then_assoc (fine a) s o = refl
then_assoc (refuse c p) s o = refl

-- a node that only has to pass a test
pub own_pass : (g : Run) {P : Unit {0} → Type 0} (n p : ℕ) (b : Bool) → (b ≡ true → get_or g.notes n 0 ≡ 65537 → P tt) → Own g P n p (pick b (λ _. 65537) λ _. 65536) (passes p b)
unfolding passes judged only
own_pass g n p true f = own_fine refl (λ e. f refl e)
own_pass g n p false f = own_bad said_type

pub params_values : (ps : List Arg) → pars (values ps) ≡ values_of (arg_types ps)
params_values [] = refl
params_values (arg x t ∷ ps) = rw (params_values ps)

module _ (g : Run) where
  all_fine : {n p : ℕ} {o : Result (Unit {0})} → Ends g (λ (u : Unit {0}). Unit {0}) o → Own g (λ (u : Unit {0}). Unit {0}) n p 65537 o
  all_fine (ends u) = own_fine refl (λ e. tt)

  -- a type's nodes
  mutual
    unfolding judge_type own_by param_by vec_by

    pub type_one : (t : TypeTree) {n m row row' v : ℕ} {s : Nodes} (h : Seat g (kind_type t) (place_type t) (kids_type t) s n m row row' v) → m ≤ g.count
        → One g (λ (u : Unit {0}). Unit {0}) n h.mid (judge_type t)
    type_one (bool p) h l = node_one g h l (kids_done g h.kids (λ M a. own_fine refl (λ e. tt)))
    type_one (int p) h l = node_one g h l (kids_done g h.kids (λ M a. own_fine refl (λ e. tt)))
    type_one (arrow p ts t) h l =
        let w = behind g h in
        node_one g h l
        (kids_map g (λ k M a. all_fine k)
        (types_kids ts (type_row t end) h.kids (omega arith) (omega arith) (λ i ro ro' u q z.
        kids_last g (seat g q) z (type_one t (seat g q) (omega arith)))))
    type_one (vec p t) {n} h l =
        let w = behind g h in
        let d = seat g h.kids in
        node_one g h l (kids_then g d (omega arith) (λ u. passes p (is_element_type (type_of t))) (type_one t d (omega arith)) (λ u e f.
        kids_done g d.rest (λ M a. rw (h.child, d.kind, element_kind t) (own_pass g n p (is_element_type (type_of t)) (λ e i. tt)))))

    types_kids : (ts : TypeTrees) (s : Nodes) {n hi row row' v : ℕ} {o : Result (Unit {0})} → Sit g (types_row ts s) n hi row row' v → 0 < n → hi ≤ g.count
        → ((i ro ro' w : ℕ) → Sit g s i hi ro ro' w → 0 < i → Kids g (Ends g (λ (u : Unit {0}). Unit {0})) s i hi o)
        → Kids g (Ends g (λ (u : Unit {0}). Unit {0})) (types_row ts s) n hi (and_then (judge_types ts) λ u. o)
    types_kids (one_type t) s {o = o} q z l f =
        let h = seat g q in kids_then g h z (λ u. o) (type_one t h l) (λ u e w. f _ _ _ _ h.rest (omega (arith, below g h)))
    types_kids (more_types t ts) s {n} {hi} {o = o} q z l f =
        let h = seat g q in
        subst (λ r. Kids g (Ends g (λ (u : Unit {0}). Unit {0})) (types_row (more_types t ts) s) n hi r) (then_assoc (judge_type t) (judge_types ts) o)
        (kids_then g h z (λ u. and_then (judge_types ts) λ v. o) (type_one t h l) (λ u e w. types_kids ts s h.rest (omega (arith, below g h)) l f))

  node_kind : (n k : ℕ) → n < 65536 → kind_at g.tree n ≡ k → note_kind g.tree n ≡ k
  unfolding note_kind
  node_kind n k l e = rw (lt-ltb n 65536 l) e

  module _ {k p n m row row' v : ℕ} {c s : Nodes} (h : Seat g k p c s n m row row' v) (l : m ≤ g.count) where
    pub here_low : n < 65536
    here_low = omega (arith, below g h, behind g h, g.few)

    pub here_in : n < length g.tree
    here_in = omega (arith, below g h, behind g h, g.room)

    pub kind_here : note_kind g.tree n ≡ k
    kind_here = node_kind n k here_low h.kind

  -- the last of a row
  pub last_part : {k p n m row row' v : ℕ} {c : Nodes} (M : List ℕ) (lo : ℕ) (L : ℕ → Type 0) (h : Seat g k p c end n m row row' v) → m ≤ g.count → 0 < n
      → L n → Row g.tree M lo L n []
  last_part M lo L h l z e = row_last z (here_in h l) h.next e

  -- one more before what begins at the next sibling
  pub part_more : {k p n m row row' v : ℕ} {c s : Nodes} (M : List ℕ) (lo : ℕ) (L : ℕ → Type 0) {q : Par} {qs : List Par} (h : Seat g k p c s n m row row' v)
      → first s h.mid ≡ h.mid → Takes g.tree M lo n q → Row g.tree M lo L h.mid qs → Row g.tree M lo L n (q ∷ qs)
  part_more {n = n} M lo L {qs = qs} h e k r =
      let f : h.mid ≡ next_at g.tree n = sym (h.next ∙ e) in
      row_more (subst (λ i. n < i) f (below g h)) k (subst (λ i. Row g.tree M lo L i qs) f r)

  takes_type : (t : TypeTree) (M : List ℕ) (lo : ℕ) {n m row row' v : ℕ} {s : Nodes} → Seat g (kind_type t) (place_type t) (kids_type t) s n m row row' v
      → Written g n (type_of t) → Takes g.tree M lo n (value (type_of t))
  unfolding param_type_in
  takes_type t M lo h w = takes_value {τ = type_of t} (rw h.kind (no_var t)) (rw (h.kind, no_value t) (w M lo))

  not_24 : ◌≡◌ {A = ℕ} 17 24 → ⊥
  not_24 e = omega arith

  mutual
    unfolding parts_of result_type is_fun is_defined is_vec param_type_in

    pub type_written : (t : TypeTree) {n m row row' v : ℕ} {s : Nodes} → Seat g (kind_type t) (place_type t) (kids_type t) s n m row row' v → m ≤ g.count
        → 0 < n
        → Written g n (type_of t)
    type_written (bool p) h l z M lo = s_bool (kind_here h l)
    type_written (int p) h l z M lo = s_int (kind_here h l)
    type_written (vec p t) {n} h l z M lo =
        let w = behind g h in s_vec {r = n} {τ = type_of t} (rw (kind_here h l)) (rw h.child (type_written t (seat g h.kids) (omega arith) (omega arith) M lo))
    type_written (arrow p ts t) {n} h l z M lo =
        let w = behind g h in
        s_fn {r = n} {ts = types_of ts} {τ = type_of t} (rw (kind_here h l))
        (row_parts g.tree M lo (types_of ts)
        (rw (h.kind, h.child, first_types ts (type_row t end) (suc n))
        (row_map g.tree M lo (λ j i. ((λ e. absurd (not_24 (sym h.kind ∙ e))), rw h.kind (i M lo)))
        (types_take ts t M lo h.kids (omega arith) (omega arith) (λ j ro ro' u q y K b. type_written t (seat g q) (omega arith) y K b)))))

    -- the types of an arrow, as a row of parameters
    types_take : (ts : TypeTrees) (t : TypeTree) (M : List ℕ) (lo : ℕ) {n hi row row' v : ℕ} → Sit g (types_row ts (type_row t end)) n hi row row' v
        → hi ≤ g.count → 0 < n → ((j ro ro' w : ℕ) → Sit g (type_row t end) j hi ro ro' w → 0 < j → Written g j (type_of t))
        → Row g.tree M lo (λ j. Written g j (type_of t)) n (values_of (types_of ts))
    types_take (one_type y) t M lo q l z f =
        let h = seat g q in
        let i : 0 < h.mid = omega (arith, below g h) in
        let d = seat g h.rest in
        part_more M lo (λ j. Written g j (type_of t)) h refl (takes_type y M lo h (λ K b. type_written y h l z K b))
        (last_part M lo (λ j. Written g j (type_of t)) d l i (f _ _ _ _ h.rest i))
    types_take (more_types y ts) t M lo q l z f =
        let h = seat g q in
        part_more M lo (λ j. Written g j (type_of t)) h (first_types ts (type_row t end) h.mid) (takes_type y M lo h (λ K b. type_written y h l z K b))
        (types_take ts t M lo h.rest l (omega (arith, below g h)) f)
