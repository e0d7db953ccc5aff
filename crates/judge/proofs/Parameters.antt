-- Parameters: each is refused exactly where it may not be declared, and behind them the scope leads to their names.
use Prim.Native.Nat.{ℕ, suc, ◌%◌, ◌<◌, ◌≤◌}
use mathlib.Core.Path.{◌≡◌, refl, sym, ◌∙◌, subst}
use mathlib.Core.Bool.{Bool, true, false}
use mathlib.Core.List.{List, [], ◌∷◌, ◌++◌}
use native.Mathlib.Omega.{arith}
use lib.Dec.{eqb}
use lib.ListN.{length}
use borrow.Author.Tests.{ne_eqb}
use Rattle.language.specs.Answers.{Result, fine, refuse}
use Rattle.language.specs.Syntax.{Name, at, TypeTree, bool, int, arrow, vec, TypeTrees, one_type, more_types, Arg, arg, ArgP, val_arg, var_arg}
use Rattle.language.specs.Places.{place_param}
use Rattle.language.specs.Names.{not, eq, lt, add, sub, mul, div, Meaning, literal, operator, free, meaning}
use Rattle.language.specs.Words.{Word, name_at}
use Rattle.language.specs.Types.{Ty, base, fn, type_of, plain, Ctx, extend, values, par, pars, param_name, declared, param_type, vec_of}
use Rattle.language.specs.Typing.{IsBase, among}
use Rattle.language.proofs.Reading.Standing.{Stands, InsideArg, InsideArgs, InsideArgP, InsideArgsP}
use Rattle.language.proofs.Reading.Payload.{name_stands}
use Rattle.language.proofs.Typing.Judge.{and_then, judged, only, passes, single, andb, is_free, is_base, declarable, judge_after, judge_type}
use Rattle.nodes.specs.Names.{meaning_no}
use Rattle.judge.specs.Names.{nine_at}
use Rattle.judge.specs.Scopes.{pick, kind_at, row_of, binds_of, row_after, inner_at}
use Rattle.judge.specs.Types.{param_type_in, is_fun}
use Rattle.judge.specs.Rules.{read_type, ref_type, is_proc, is_base_type, free_rule, cell_rule, single_rule, param_by, own_by}
use Rattle.judge.proofs.Shapes.{Nodes, end, node, kind_type, place_type, kids_type, types_row, type_row, kind_param, params_row}
use Rattle.judge.proofs.Scoping.{sits_end}
use Rattle.judge.proofs.Spelling.{Takes, takes_value, takes_ref, Row}
use Rattle.judge.proofs.Verdicts.{Run, said_type, said_double, One, Kids, Own, own_fine, own_bad, Sit, Seat, seat, kids_done, below, behind, kids_then, node_one}
use Rattle.judge.proofs.Looking.{Written, Binder, binds_value, binds_ref, Scope, Front, Listed, first_listed, scope_param, named_is, next_listed}
use Rattle.judge.proofs.Written.{first_params, type_one, here_low, here_in, last_part, part_more, type_written}

-- names that are free to be bound, and base types
pub nine_free : (m : Meaning) → eqb (meaning_no m) 0 ≡ is_free m
nine_free (literal true) = refl
nine_free (literal false) = refl
nine_free (operator not) = refl
nine_free (operator eq) = refl
nine_free (operator lt) = refl
nine_free (operator add) = refl
nine_free (operator sub) = refl
nine_free (operator mul) = refl
nine_free (operator div) = refl
nine_free free = refl

base_kind : (t : TypeTree) → is_base_type (kind_type t) ≡ is_base (type_of t)
unfolding is_base_type
base_kind (bool p) = refl
base_kind (int p) = refl
base_kind (arrow p ts t) = refl
base_kind (vec p t) = refl

pub base_true : (τ : Ty) → is_base τ ≡ true → IsBase τ
base_true (base b) h = tt
base_true (fn ts τ) h = let z : ◌≡◌ {A = ℕ} 0 1 = cc in absurd (omega arith)
base_true (vec_of τ) h = let z : ◌≡◌ {A = ℕ} 0 1 = cc in absurd (omega arith)

pub both_true : (a b : Bool) → andb a b ≡ true → (a ≡ true) × (b ≡ true)
both_true true b h = (refl, h)
both_true false b h = let z : ◌≡◌ {A = ℕ} 0 1 = cc in absurd (omega arith)

-- a type and two tests, and then the others
then_others : {A B C D E : Type 0} (q : Result A) (r : Result B) (s : Result C) (o : Result D) (k : D → Result E)
    → and_then (and_then q λ t. and_then r λ u. s) (λ v. and_then o k) ≡ and_then (and_then q λ t. and_then r λ u. and_then s λ v. o) k
unfolding and_then
then_others (fine a) (fine b) (fine c) o k = refl
then_others (fine a) (fine b) (refuse c p) o k = refl
then_others (fine a) (refuse c p) s o k = refl
then_others (refuse c p) r s o k = refl

pub in_values : (ps : List Arg) (P : Word → Type 0) → InsideArgs ps P → InsideArgsP (values ps) P
unfolding InsideArgs InsideArg InsideArgsP InsideArgP
in_values [] P h = tt
in_values (arg x t ∷ ps) P h = (h.0, in_values ps P h.1)

-- a parameter: its own test, and that its name is none of those before it
own_single : (g : Run) {P : Unit {0} → Type 0} (n p : ℕ) (d b : Bool) → (d ≡ true → P tt)
    → Own g P n p (pick (eqb (pick d (λ _. 65537) λ _. 65536) 65537) (λ _. pick b (λ _. 131072) λ _. 65537) λ _. 65536) (and_then (passes p d) λ u. single p b)
unfolding passes judged only single and_then
own_single g n p true true f = own_bad said_double
own_single g n p true false f = own_fine refl (λ e. f refl)
own_single g n p false b f = own_bad said_type

module _ (g : Run) where
  -- the name at p is free, and a cell may have the type at y
  free_is : (p : ℕ) → eqb (nine_at g.text p) 0 ≡ is_free (meaning (name_at g.text p))
  unfolding nine_at
  free_is p = nine_free (meaning (name_at g.text p))

  pub free_rule_lem : (p : ℕ) → free_rule g.text p ≡ pick (is_free (meaning (name_at g.text p))) (λ _. 65537) λ _. 65536
  unfolding free_rule
  free_rule_lem p = rw (free_is p)

  pub cell_rule_lem : (t : TypeTree) (p y : ℕ) → kind_at g.tree y ≡ kind_type t
      → cell_rule g.text g.tree p y ≡ pick (andb (is_free (meaning (name_at g.text p))) (is_base (type_of t))) (λ _. 65537) λ _. 65536
  unfolding cell_rule
  cell_rule_lem t p y e = rw (free_is p, e, base_kind t) (by-test (is_free (meaning (name_at g.text p))) (is_base (type_of t)))
    where
      by-test : (a b : Bool) → pick {A = ℕ} a (λ _. pick b (λ _. 65537) λ _. 65536) (λ _. 65536) ≡ pick (andb a b) (λ _. 65537) λ _. 65536
      by-test true b = refl
      by-test false b = refl

  -- the REC definition is remembered over types and parameters
  end_row : {n m row row' v : ℕ} → Sit g end n m row row' v → row' ≡ row
  end_row sits_end = refl

  type_row_kept : (t : TypeTree) → row_of (kind_type t) ≡ 0
  unfolding row_of
  type_row_kept (bool p) = refl
  type_row_kept (int p) = refl
  type_row_kept (arrow p ts t) = refl
  type_row_kept (vec p t) = refl

  kept : (k n row : ℕ) → kind_at g.tree n ≡ k → row_of k ≡ 0 → row_after g.tree n row ≡ row
  unfolding row_after
  kept k n row e f = rw (e, f)

  mutual
    pub type_later : (t : TypeTree) {n m row row' v : ℕ} {s : Nodes} (h : Seat g (kind_type t) (place_type t) (kids_type t) s n m row row' v) → h.later ≡ row
    type_later (bool p) {n} {row = row} h = end_row h.kids ∙ kept 15 n row h.kind (type_row_kept (bool p))
    type_later (int p) {n} {row = row} h = end_row h.kids ∙ kept 16 n row h.kind (type_row_kept (int p))
    type_later (arrow p ts t) {n} {row = row} h =
        types_later ts t h.kids (λ j ro ro' w e q. end_row (seat g q).rest ∙ type_later t (seat g q)) ∙ kept 17 n row h.kind
        (type_row_kept (arrow p ts t))
    type_later (vec p t) {n} {row = row} h =
        let d = seat g h.kids in end_row d.rest ∙ (type_later t d ∙ kept 26 n row h.kind (type_row_kept (vec p t)))

    types_later : (ts : TypeTrees) (t : TypeTree) {n m row row' v : ℕ} → Sit g (types_row ts (type_row t end)) n m row row' v
        → ((j ro ro' w e : ℕ) → Sit g (type_row t end) j e ro ro' w → ro' ≡ ro) → row' ≡ row
    types_later (one_type y) t q f = let h = seat g q in f _ _ _ _ _ h.rest ∙ type_later y h
    types_later (more_types y ts) t q f = let h = seat g q in types_later ts t h.rest f ∙ type_later y h

  param_later : (a : ArgP) {n m row row' v : ℕ} {s : Nodes} (h : Seat g (kind_param a) (place_param a) (type_row (param_type a) end) s n m row row' v)
      → h.later ≡ row
  unfolding row_of
  param_later (val_arg x t) {n} {row = row} h = let d = seat g h.kids in end_row d.rest ∙ (type_later t d ∙ kept 13 n row h.kind refl)
  param_later (var_arg x t) {n} {row = row} h = let d = seat g h.kids in end_row d.rest ∙ (type_later t d ∙ kept 14 n row h.kind refl)

  param_binds_name : (a : ArgP) → binds_of (kind_param a) ≡ 2
  unfolding binds_of
  param_binds_name (val_arg x t) = refl
  param_binds_name (var_arg x t) = refl

  param_named : (a : ArgP) → InsideArgP a (Stands g.text) → name_at g.text (place_param a) ≡ param_name a
  unfolding InsideArgP
  param_named (val_arg (at p x) t) s = sym (name_stands s)
  param_named (var_arg (at p x) t) s = sym (name_stands s)

  -- a parameter's node
  module _ (a : ArgP) {n m row row' v : ℕ} {s : Nodes} (h : Seat g (kind_param a) (place_param a) (type_row (param_type a) end) s n m row row' v)
      (l : m ≤ g.count) where
    inner_type : Seat g (kind_type (param_type a)) (place_type (param_type a)) (kids_type (param_type a)) end (suc n) h.mid (row_after g.tree n row)
        h.later
        (inner_at g.tree g.scopes n)
    inner_type = seat g h.kids

    inner_in : h.mid ≤ g.count
    inner_in = omega (arith, behind g h)

    spelled : Written g (suc n) (type_of (param_type a))
    spelled = type_written g (param_type a) inner_type inner_in (omega arith)

    type_note : eqb (suc n % 65536) 0 ≡ false
    type_note = ne_eqb (suc n % 65536) 0 (λ e. omega (arith, here_low g inner_type inner_in))

  param_takes : (a : ArgP) (M : List ℕ) (lo : ℕ) {n m row row' v : ℕ} {s : Nodes}
      → Seat g (kind_param a) (place_param a) (type_row (param_type a) end) s n m row row' v → m ≤ g.count
      → Takes g.tree M lo n (par a)
  unfolding param_type_in
  param_takes (val_arg x t) M lo h l = takes_value {τ = type_of t} (rw h.kind) (rw (h.kind, h.child) (spelled (val_arg x t) h l M lo))
  param_takes (var_arg x t) M lo h l = takes_ref {τ = type_of t} h.kind (rw h.child (spelled (var_arg x t) h l M lo))

  pub params_take : (ps : List ArgP) (M : List ℕ) (lo : ℕ) (L : ℕ → Type 0) {k p n hi row row' v : ℕ} {c : Nodes}
      → Sit g (params_row ps (node k p c end)) n hi row row' v
      → hi ≤ g.count → 0 < n → ((j ro ro' w : ℕ) → Sit g (node k p c end) j hi ro ro' w → 0 < j → L j) → Row g.tree M lo L n (pars ps)
  params_take [] M lo L q l z f = last_part g M lo L (seat g q) l z (f _ _ _ _ q z)
  params_take (a ∷ ps) M lo L {k} {p} {c = c} q l z f =
      let h = seat g q in
      part_more g M lo L h (first_params ps k p c end h.mid) (param_takes a M lo h l) (params_take ps M lo L h.rest l (omega (arith, below g h)) f)

  param_binder : (a : ArgP) {n m row row' v : ℕ} {s : Nodes} → Seat g (kind_param a) (place_param a) (type_row (param_type a) end) s n m row row' v
      → m ≤ g.count
      → declarable a ≡ true → Binder g n (plain (par a))
  unfolding read_type ref_type is_fun is_proc
  param_binder (val_arg x t) {n} h l d =
      binds_value {τ = type_of t} (suc n) (rw (h.kind, h.child)) (type_note (val_arg x t) h l) (spelled (val_arg x t) h l) (rw h.kind) (rw h.kind)
  param_binder (var_arg (at p x) t) {n} h l d =
      binds_ref {τ = type_of t} (suc n) (rw (h.kind, h.child)) (type_note (var_arg (at p x) t) h l) (spelled (var_arg (at p x) t) h l)
      (rw (h.kind, h.child))
      (base_true (type_of t) (both_true (is_free (meaning x)) (is_base (type_of t)) d).1) (rw h.kind)

  before_in : {k p n m row row' v : ℕ} {c s : Nodes} → Seat g k p c s n m row row' v → m ≤ g.count → n ≤ length g.tree
  before_in h l = omega (arith, here_in g h l)

  param_one : (a : ArgP) {n m row row' v role : ℕ} {s : Nodes} {xs : List Name} {Γ : Ctx}
      (h : Seat g (kind_param a) (place_param a) (type_row (param_type a) end) s n m row row' v)
      → m ≤ g.count → Scope g n v role Γ → Listed g n role xs → InsideArgP a (Stands g.text)
      → One g (λ u. declarable a ≡ true) n h.mid
      (and_then (judge_type (param_type a)) λ t. and_then (passes (place_param a) (declarable a)) λ u. single (place_param a) (among (param_name a) xs))
  unfolding own_by param_by single_rule InsideArgP
  param_one (val_arg (at p x) t) {n} {xs = xs} h l sc i s =
      let d = seat g h.kids in
      node_one g h l (kids_then g d (omega arith) _ (type_one g t d (omega (arith, behind g h))) (λ w r f. kids_done g d.rest (λ M a.
      rw (h.place, free_rule_lem p, named_is g h (param_binds_name (val_arg (at p x) t)) (before_in h l) sc i, ← name_stands s) (own_single g n p (is_free (meaning x)) (among x xs) (λ e. e)))))
  param_one (var_arg (at p x) t) {n} {xs = xs} h l sc i s =
      let d = seat g h.kids in
      node_one g h l (kids_then g d (omega arith) _ (type_one g t d (omega (arith, behind g h))) (λ w r f. kids_done g d.rest (λ M a.
      rw (h.place, h.child, cell_rule_lem t p (suc n) d.kind, named_is g h (param_binds_name (var_arg (at p x) t)) (before_in h l) sc i, ← name_stands s)
      (own_single g n p (andb (is_free (meaning x)) (is_base (type_of t))) (among x xs) (λ e. e)))))

  -- parameters behind those with the names xs, and then what follows them in the scope of their names; with it they are a row of parameters
  params_after : (xs : List Name) (ps : List ArgP) (k₀ p₀ : ℕ) (c₀ s₀ : Nodes) {n hi row row' v role : ℕ} {A : Type 0} {K : Result A → Type 0} (fs Δ : Ctx)
      (k : Unit {0} → Result A)
      → Sit g (params_row ps (node k₀ p₀ c₀ s₀)) n hi row row' v → hi ≤ g.count → 0 < n → Front g row fs → InsideArgsP ps (Stands g.text)
      → Scope g n v role (fs ++ Δ) → Listed g n role xs
      → ((i ro ro' w rl : ℕ) (ys : List Name) → Sit g (node k₀ p₀ c₀ s₀) i hi ro ro' w → n ≤ i → Scope g i w rl (fs ++ extend (declared ps) Δ) → Listed g i rl ys
      → ((M : List ℕ) (lo : ℕ) (L : ℕ → Type 0) → Row g.tree M lo L i [] → Row g.tree M lo L n (pars ps)) → Kids g K (node k₀ p₀ c₀ s₀) i hi (k tt))
      → Kids g K (params_row ps (node k₀ p₀ c₀ s₀)) n hi (and_then (judge_after xs ps) k)
  unfolding judge_after and_then InsideArgsP
  params_after xs [] k₀ p₀ c₀ s₀ fs Δ k q l z r i sc li f = f _ _ _ _ _ xs q (omega arith) sc li (λ M lo L r. r)
  params_after xs (a ∷ ps) k₀ p₀ c₀ s₀ {n} {hi} {row} {row'} {K = K} fs Δ k q l z r i sc li f =
      let h = seat g q in
      let w = param_named a i.0 in
      subst (λ o. Kids g K (params_row (a ∷ ps) (node k₀ p₀ c₀ s₀)) n hi o)
      (then_others (judge_type (param_type a)) (passes (place_param a) (declarable a)) (single (place_param a) (among (param_name a) xs)) (judge_after (param_name a ∷ xs) ps) k)
      (kids_then g h z (λ u. and_then (judge_after (param_name a ∷ xs) ps) k) (param_one a h l sc li i.0) (λ u e d.
      params_after (param_name a ∷ xs) ps k₀ p₀ c₀ s₀ fs ((param_name a, plain (par a)) ∷ Δ) k h.rest l (omega (arith, below g h))
      (subst (λ ro. Front g ro fs) (sym (param_later a h)) r)
      i.1 (scope_param g h (param_binds_name a) Δ (here_low g h l) w (param_binder a h l d) r sc) (next_listed g h (param_binds_name a) z w sc li)
      (λ j ro ro' w rl ys b y sj lj build. f j ro ro' w rl ys b (omega (arith, below g h)) sj lj (λ M lo L row.
      part_more g M lo L h (first_params ps k₀ p₀ c₀ s₀ h.mid) (param_takes a M lo h l) (build M lo L row)))))

  pub params_kids : (ps : List ArgP) (k₀ p₀ : ℕ) (c₀ s₀ : Nodes) {n hi row row' v : ℕ} {A : Type 0} {K : Result A → Type 0} (fs Δ : Ctx)
      (k : Unit {0} → Result A)
      → Sit g (params_row ps (node k₀ p₀ c₀ s₀)) n hi row row' v → hi ≤ g.count → 0 < n → Front g row fs → InsideArgsP ps (Stands g.text) → Scope g n v 0 (fs ++ Δ)
      → ((i ro ro' w rl : ℕ) (ys : List Name) → Sit g (node k₀ p₀ c₀ s₀) i hi ro ro' w → n ≤ i → Scope g i w rl (fs ++ extend (declared ps) Δ) → Listed g i rl ys
      → ((M : List ℕ) (lo : ℕ) (L : ℕ → Type 0) → Row g.tree M lo L i [] → Row g.tree M lo L n (pars ps)) → Kids g K (node k₀ p₀ c₀ s₀) i hi (k tt))
      → Kids g K (params_row ps (node k₀ p₀ c₀ s₀)) n hi (and_then (judge_after [] ps) k)
  params_kids ps k₀ p₀ c₀ s₀ fs Δ k q l z r i sc f = params_after [] ps k₀ p₀ c₀ s₀ fs Δ k q l z r i sc (first_listed g z) f
