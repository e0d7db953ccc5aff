-- The comparison of two notes is the comparison of the types that they spell, and arguments fit where their types are those of the parameters.
use Prim.Native.Nat.{ℕ, zero, suc, ◌+◌, ◌-◌, ◌%◌, ◌<◌, ◌≤◌}
use mathlib.Core.Path.{◌≡◌, refl, ap, sym, ◌∙◌, subst}
use mathlib.Core.Bool.{Bool, true, false}
use mathlib.Core.List.{List, [], ◌∷◌}
use mathlib.Core.Logic.{◌⊎◌, inl, inr, ⊎_elim}
use native.Mathlib.Omega.{arith}
use lib.Dec.{eqb, ltb}
use lib.ListN.{length, get_or}
use borrow.Author.Tests.{ne_eqb, eqb-true, eqb-false, ltb-true, ltb-false, lt-ltb, le-ltb}
use Rattle.language.specs.Claims.{TyFits, TysFit}
use Rattle.language.specs.Types.{boolean, integer, Ty, base, fn, Tys, tnil, tcons, BOOL, INT, Par, value, ref, vec_of}
use Rattle.language.specs.Typing.{IsBase}
use Rattle.language.proofs.Typing.Judge.{andb, same_type, same_types, same_par, same_pars}
use Rattle.judge.specs.Scopes.{pick, kind_at, child_at, next_at}
use Rattle.judge.proofs.Noting.{Agree}
use Rattle.judge.specs.Types.{note_kind, is_fun, parts_of, param_type_in, result_type, same_parts, same, arg_fits, fits_from, is_vec, is_defined}

-- the kinds that spell a function's type
fun_low : (k : ℕ) → is_fun k ≡ true → k < 34
unfolding is_fun
fun_low k = by_tests (eqb k 17) refl (eqb k 24) refl (eqb k 3) refl (eqb k 4) refl (eqb k 32) refl (eqb k 33) refl
  where
    by_tests : (a : Bool) → eqb k 17 ≡ a → (b : Bool) → eqb k 24 ≡ b → (c : Bool) → eqb k 3 ≡ c → (d : Bool) → eqb k 4 ≡ d
        → (i : Bool) → eqb k 32 ≡ i → (j : Bool) → eqb k 33 ≡ j
        → pick a (λ _. true) (λ _. pick b (λ _. true) λ _. pick c (λ _. true) λ _. pick d (λ _. true) λ _. pick i (λ _. true) λ _. j) ≡ true → k < 34
    by_tests true e b f c g d h i u j v z = omega (arith, eqb-true k 17 e)
    by_tests false e true f c g d h i u j v z = omega (arith, eqb-true k 24 f)
    by_tests false e false f true g d h i u j v z = omega (arith, eqb-true k 3 g)
    by_tests false e false f false g true h i u j v z = omega (arith, eqb-true k 4 h)
    by_tests false e false f false g false h true u j v z = omega (arith, eqb-true k 32 u)
    by_tests false e false f false g false h false u true v z = omega (arith, eqb-true k 33 v)
    by_tests false e false f false g false h false u false v z = let o : ◌≡◌ {A = ℕ} 0 1 = cc in absurd (omega arith)

no_fun : (k : ℕ) → 34 ≤ k → is_fun k ≡ false
no_fun k h = by-test (is_fun k) refl
  where
    by-test : (b : Bool) → is_fun k ≡ b → b ≡ false
    by-test true e = absurd (omega (arith, fun_low k e))
    by-test false e = refl

-- and a block's
vec_low : (k : ℕ) → is_vec k ≡ true → (k ≡ 26) ⊎ (k ≡ 27)
unfolding is_vec
vec_low k = by_tests (eqb k 26) refl (eqb k 27) refl
  where
    by_tests : (a : Bool) → eqb k 26 ≡ a → (b : Bool) → eqb k 27 ≡ b → pick a (λ _. true) (λ _. b) ≡ true → (k ≡ 26) ⊎ (k ≡ 27)
    by_tests true e b f z = inl (eqb-true k 26 e)
    by_tests false e true f z = inr (eqb-true k 27 f)
    by_tests false e false f z = let o : ◌≡◌ {A = ℕ} 0 1 = cc in absurd (omega arith)

no_vec : (k : ℕ) → 28 ≤ k → is_vec k ≡ false
no_vec k h = by-test (is_vec k) refl
  where
    by-test : (b : Bool) → is_vec k ≡ b → b ≡ false
    by-test true e = ⊎_elim (λ i. absurd (omega arith)) (λ i. absurd (omega arith)) (vec_low k e)
    by-test false e = refl

pub vec_no_fun : (k : ℕ) → is_vec k ≡ true → is_fun k ≡ false
unfolding is_fun
vec_no_fun k e = ⊎_elim (λ i. rw i) (λ i. rw i) (vec_low k e)

pub fun_no_vec : (k : ℕ) → is_fun k ≡ true → is_vec k ≡ false
fun_no_vec k e = by-test (is_vec k) refl
  where
    by-test : (b : Bool) → is_vec k ≡ b → b ≡ false
    by-test true f = let w = vec_no_fun k f in let o : ◌≡◌ {A = ℕ} 0 1 = cc in absurd (omega arith)
    by-test false f = refl

apart : (f : ℕ → Bool) (k m : ℕ) → f k ≡ false → f m ≡ true → eqb k m ≡ false
apart f k m h g = ne_eqb k m (λ e. let z : ◌≡◌ {A = ℕ} 0 1 = cc in omega arith)

pub pos_not : (y : ℕ) → 0 < y → y ≡ 0 → ⊥
pos_not y h e = omega arith

abbrev pub values_of : Tys → List Par
values_of tnil = []
values_of (tcons τ ts) = value τ ∷ values_of ts

pub same_values : (us ts : Tys) → same_pars (values_of us) (values_of ts) ≡ same_types us ts
unfolding same_types
same_values tnil tnil = refl
same_values tnil (tcons τ ts) = refl
same_values (tcons σ us) tnil = refl
same_values (tcons σ us) (tcons τ ts) = ap (andb (same_type σ τ)) (same_values us ts)

-- by the notes M, from lo on
module _ (t M : List ℕ) (lo : ℕ) where
  -- the note r spells a type; the parts of r from y on spell its parameters and its result, which for an abstraction is what its body's note says
  mutual
    pub data Spells : ℕ → Ty → Type 0 where
      s_bool : {r : ℕ} → note_kind t r ≡ 15 → Spells r BOOL
      s_int : {r : ℕ} → note_kind t r ≡ 16 → Spells r INT
      s_fn : {r : ℕ} {ts : Tys} {τ : Ty} → is_fun (note_kind t r) ≡ true → Parts r (parts_of t r) ts τ → Spells r (fn ts τ)
      s_vec : {r : ℕ} {τ : Ty} → is_vec (note_kind t r) ≡ true → Spells (child_at t r) τ → Spells r (vec_of τ)

    pub data Parts : ℕ → ℕ → Tys → Ty → Type 0 where
      p_last : {r y : ℕ} {τ : Ty} → 0 < y → y < length t → next_at t y ≡ 0 → (kind_at t r ≡ 24 → lo ≤ y) → Spells (result_type t M r y) τ → Parts r y tnil τ
      p_more : {r y : ℕ} {σ τ : Ty} {ts : Tys} → y < next_at t y → eqb (kind_at t y) 14 ≡ false → Spells (param_type_in t y) σ → Parts r (next_at t y) ts τ
          → Parts r y (tcons σ ts) τ

  -- what spells a type is of a low kind
  low_kind : (r : ℕ) (τ : Ty) → Spells r τ → note_kind t r < 34
  low_kind r τ (s_bool e) = omega arith
  low_kind r τ (s_int e) = omega arith
  low_kind r τ (s_fn e p) = let w = fun_low (note_kind t r) e in omega arith
  low_kind r τ (s_vec e p) = ⊎_elim (λ i. omega arith) (λ i. omega arith) (vec_low (note_kind t r) e)

  above : (r : ℕ) → 65536 ≤ r → note_kind t r ≡ r - 65536
  unfolding note_kind
  above r h = rw (le-ltb r 65536 h)

  pub spells_low : (r : ℕ) (τ : Ty) → Spells r τ → r < 65570
  spells_low r τ s = by-test (ltb r 65536) refl
    where
      by-test : (b : Bool) → ltb r 65536 ≡ b → r < 65570
      by-test true e = omega (arith, ltb-true r 65536 e)
      by-test false e = let h = ltb-false r 65536 e in omega (arith, above r h, low_kind r τ s)

  same_base : (l r q : ℕ) → is_fun (note_kind t r) ≡ false → is_vec (note_kind t r) ≡ false → same l t M r q ≡ eqb (note_kind t r) (note_kind t q)
  unfolding same
  same_base zero r q h k = rw (h, k)
  same_base (suc l) r q h k = rw (h, k)

  -- the comparison with l levels is right
  abbrev Right : ℕ → Type 0
  Right l = (r q : ℕ) (τ σ : Ty) → TyFits τ l → Spells r τ → Spells q σ → same l t M r q ≡ same_type τ σ

  more_is : (y : ℕ) → y < next_at t y → eqb (next_at t y) 0 ≡ false
  more_is y h = ne_eqb (next_at t y) 0 (λ e. omega arith)

  parts_in : {r y : ℕ} {ts : Tys} {τ : Ty} → Parts r y ts τ → y < length t
  parts_in (p_last i j e o s) = j
  parts_in (p_more i j s p) = let h = parts_in p in omega arith

  parts_right : (l : ℕ) → Right l → (n a b y z : ℕ) (ts us : Tys) (τ σ : Ty) → TysFit ts l → TyFits τ l → Parts a y ts τ → Parts b z us σ → length t ≤ n + y
      → same_parts (same l t M) t M a b n y z ≡ andb (same_types ts us) (same_type τ σ)
  unfolding same_parts same_types
  parts_right l ok zero a b y z ts us τ σ fs f p q h = absurd (omega (arith, parts_in p))
  parts_right l ok (suc n) a b y z tnil tnil τ σ fs f (p_last i j e o s) (p_last u v g o' w) h =
      rw (e, g) (ok (result_type t M a y) (result_type t M b z) τ σ f s w)
  parts_right l ok (suc n) a b y z tnil (tcons μ us) τ σ fs f (p_last i j e o s) (p_more u v w q) h = rw (e, more_is z u)
  parts_right l ok (suc n) a b y z (tcons ν ts) tnil τ σ fs f (p_more i j s p) (p_last u v g o w) h = rw (more_is y i, g)
  parts_right l ok (suc n) a b y z (tcons ν ts) (tcons μ us) τ σ fs f (p_more i j s p) (p_more u v w q) h =
      rw (
        more_is y i,
        more_is z u,
        ok (param_type_in t y) (param_type_in t z) ν μ fs.0 s w,
        parts_right l ok n a b (next_at t y) (next_at t z) ts us τ σ fs.1 f p q (omega arith),
      ) (both (same_type ν μ) (same_types ts us) (same_type τ σ))
    where
      both : (a b c : Bool) → pick a (λ _. andb b c) (λ _. false) ≡ andb (andb a b) c
      both true b c = refl
      both false b c = refl

  base_right : (l r q : ℕ) (τ σ : Ty) → IsBase τ → Spells r τ → Spells q σ → same l t M r q ≡ same_type τ σ
  unfolding same_type is_fun is_vec
  base_right l r q (base boolean) (base boolean) b (s_bool e) (s_bool g) = same_base l r q (rw e) (rw e) ∙ rw (e, g)
  base_right l r q (base boolean) (base integer) b (s_bool e) (s_int g) = same_base l r q (rw e) (rw e) ∙ rw (e, g)
  base_right l r q (base boolean) (fn us σ) b (s_bool e) (s_fn g v) = same_base l r q (rw e) (rw e) ∙ rw e (apart is_fun 15 (note_kind t q) refl g)
  base_right l r q (base boolean) (vec_of σ) b (s_bool e) (s_vec g v) = same_base l r q (rw e) (rw e) ∙ rw e (apart is_vec 15 (note_kind t q) refl g)
  base_right l r q (base integer) (base boolean) b (s_int e) (s_bool g) = same_base l r q (rw e) (rw e) ∙ rw (e, g)
  base_right l r q (base integer) (base integer) b (s_int e) (s_int g) = same_base l r q (rw e) (rw e) ∙ rw (e, g)
  base_right l r q (base integer) (fn us σ) b (s_int e) (s_fn g v) = same_base l r q (rw e) (rw e) ∙ rw e (apart is_fun 16 (note_kind t q) refl g)
  base_right l r q (base integer) (vec_of σ) b (s_int e) (s_vec g v) = same_base l r q (rw e) (rw e) ∙ rw e (apart is_vec 16 (note_kind t q) refl g)
  base_right l r q (fn ts τ) σ b s u = absurd b
  base_right l r q (vec_of τ) σ b s u = absurd b

  -- Two notes are the same if and only if the types that they spell are, with as many levels as the first has.
  pub same_right : (l : ℕ) → Right l
  unfolding same same_type is_fun is_vec
  same_right zero r q (base b) σ f s u = base_right zero r q (base b) σ tt s u
  same_right zero r q (fn ts τ) σ f s u = absurd f
  same_right zero r q (vec_of τ) σ f s u = absurd f
  same_right (suc l) r q (base b) σ f s u = base_right (suc l) r q (base b) σ tt s u
  same_right (suc l) r q (fn ts τ) (base boolean) f (s_fn e w) (s_bool g) = rw (e, g)
  same_right (suc l) r q (fn ts τ) (base integer) f (s_fn e w) (s_int g) = rw (e, g)
  same_right (suc l) r q (fn ts τ) (fn us σ) f (s_fn e w) (s_fn g v) =
      rw (e, g) (parts_right l (same_right l) (length t) r q (parts_of t r) (parts_of t q) ts us τ σ f.0 f.1 w v (omega arith))
  same_right (suc l) r q (fn ts τ) (vec_of σ) f (s_fn e w) (s_vec g v) = rw (e, vec_no_fun (note_kind t q) g)
  same_right (suc l) r q (vec_of τ) (base boolean) f (s_vec e w) (s_bool g) = rw (vec_no_fun (note_kind t r) e, e, g)
  same_right (suc l) r q (vec_of τ) (base integer) f (s_vec e w) (s_int g) = rw (vec_no_fun (note_kind t r) e, e, g)
  same_right (suc l) r q (vec_of τ) (fn us σ) f (s_vec e w) (s_fn g v) = rw (vec_no_fun (note_kind t r) e, e, fun_no_vec (note_kind t q) g)
  same_right (suc l) r q (vec_of τ) (vec_of σ) f (s_vec e w) (s_vec g v) =
      rw (vec_no_fun (note_kind t r) e, e, g) (same_right l (child_at t r) (child_at t q) τ σ f w v)

  -- bool and int by their kinds
  pub kind_bool : (r : ℕ) (τ : Ty) → Spells r τ → eqb (note_kind t r) 15 ≡ same_type τ BOOL
  unfolding same_type is_fun is_vec
  kind_bool r (base boolean) (s_bool e) = rw e
  kind_bool r (base integer) (s_int e) = rw e
  kind_bool r (fn ts τ) (s_fn e p) = ne_eqb (note_kind t r) 15 (λ h. let w : is_fun 15 ≡ true = rw h at e in let z : ◌≡◌ {A = ℕ} 0 1 = cc in omega arith)
  kind_bool r (vec_of τ) (s_vec e p) = ne_eqb (note_kind t r) 15 (λ h. let w : is_vec 15 ≡ true = rw h at e in let z : ◌≡◌ {A = ℕ} 0 1 = cc in omega arith)

  pub kind_int : (r : ℕ) (τ : Ty) → Spells r τ → eqb (note_kind t r) 16 ≡ same_type τ INT
  unfolding same_type is_fun is_vec
  kind_int r (base boolean) (s_bool e) = rw e
  kind_int r (base integer) (s_int e) = rw e
  kind_int r (fn ts τ) (s_fn e p) = ne_eqb (note_kind t r) 16 (λ h. let w : is_fun 16 ≡ true = rw h at e in let z : ◌≡◌ {A = ℕ} 0 1 = cc in omega arith)
  kind_int r (vec_of τ) (s_vec e p) = ne_eqb (note_kind t r) 16 (λ h. let w : is_vec 16 ≡ true = rw h at e in let z : ◌≡◌ {A = ℕ} 0 1 = cc in omega arith)

  -- a note that spells a type is no refusal and no operator
  pub spells_fine : kind_at t 0 ≡ 1 → (r : ℕ) (τ : Ty) → Spells r τ → eqb (r % 65536) 0 ≡ false
  unfolding note_kind is_fun is_vec
  spells_fine k r τ s = ne_eqb (r % 65536) 0 (λ e. by-test (eqb r 0) refl e)
    where
      not_root : (τ : Ty) → Spells 0 τ → ⊥
      not_root (base boolean) (s_bool e) = let z : ◌≡◌ {A = ℕ} 1 15 = sym k ∙ e in omega arith
      not_root (base integer) (s_int e) = let z : ◌≡◌ {A = ℕ} 1 16 = sym k ∙ e in omega arith
      not_root (fn ts σ) (s_fn e p) = let w : is_fun 1 ≡ true = rw k at e in let z : ◌≡◌ {A = ℕ} 0 1 = cc in omega arith
      not_root (vec_of σ) (s_vec e p) = let w : is_vec 1 ≡ true = rw k at e in let z : ◌≡◌ {A = ℕ} 0 1 = cc in omega arith

      not-edge : (τ : Ty) → Spells 65536 τ → ⊥
      not-edge (base boolean) (s_bool e) = omega arith
      not-edge (base integer) (s_int e) = omega arith
      not-edge (fn ts σ) (s_fn e p) = let z : ◌≡◌ {A = ℕ} 0 1 = cc in omega arith
      not-edge (vec_of σ) (s_vec e p) = let z : ◌≡◌ {A = ℕ} 0 1 = cc in omega arith

      by-test : (b : Bool) → eqb r 0 ≡ b → r % 65536 ≡ 0 → ⊥
      by-test true f e = not_root τ (subst (λ r. Spells r τ) (eqb-true r 0 f) s)
      by-test false f e =
          let n = eqb-false r 0 f in
          let l = spells_low r τ s in
          not-edge τ (subst (λ r. Spells r τ) (omega arith) s)

  pub no_operator : (r : ℕ) (τ : Ty) → Spells r τ → eqb r 65555 ≡ false
  unfolding note_kind is_fun is_vec
  no_operator r τ s = ne_eqb r 65555 (λ e. not-head τ (subst (λ r. Spells r τ) e s))
    where
      not-head : (τ : Ty) → Spells 65555 τ → ⊥
      not-head (base boolean) (s_bool e) = omega arith
      not-head (base integer) (s_int e) = omega arith
      not-head (fn ts σ) (s_fn e p) = let z : ◌≡◌ {A = ℕ} 0 1 = cc in omega arith
      not-head (vec_of σ) (s_vec e p) = let z : ◌≡◌ {A = ℕ} 0 1 = cc in omega arith

  -- what the parameter y takes
  pub data Takes (y : ℕ) : Par → Type 0 where
    takes_value : {τ : Ty} → eqb (kind_at t y) 14 ≡ false → Spells (param_type_in t y) τ → Takes y (value τ)
    takes_ref : {τ : Ty} → kind_at t y ≡ 14 → Spells (child_at t y) τ → Takes y (ref τ)

  -- a row of parameters, whose last part is as L says
  pub data Row (L : ℕ → Type 0) : ℕ → List Par → Type 0 where
    row_last : {y : ℕ} → 0 < y → y < length t → next_at t y ≡ 0 → L y → Row L y []
    row_more : {y : ℕ} {q : Par} {qs : List Par} → y < next_at t y → Takes y q → Row L (next_at t y) qs → Row L y (q ∷ qs)

  pub row_map : {L L' : ℕ → Type 0} {y : ℕ} {qs : List Par} → ((l : ℕ) → L l → L' l) → Row L y qs → Row L' y qs
  row_map f (row_last i j e s) = row_last i j e (f _ s)
  row_map f (row_more i k r) = row_more i k (row_map f r)

  -- the result of r in its last part
  abbrev pub Gets : ℕ → Ty → ℕ → Type 0
  Gets r τ l = (kind_at t r ≡ 24 → lo ≤ l) × Spells (result_type t M r l) τ

  pub parts_row : {r y : ℕ} {ts : Tys} {τ : Ty} → Parts r y ts τ → Row (Gets r τ) y (values_of ts)
  parts_row (p_last i j e o s) = row_last i j e (o, s)
  parts_row (p_more i j s p) = row_more i (takes_value j s) (parts_row p)

  pub row_parts : {r y : ℕ} {τ : Ty} (ts : Tys) → Row (Gets r τ) y (values_of ts) → Parts r y ts τ
  row_parts tnil (row_last i j e s) = p_last i j e s.0 s.1
  row_parts {y = y} (tcons σ ts) (row_more i (takes_value j s) p) = p_more i j s (row_parts {y = next_at t y} ts p)

  -- what the argument z gives
  pub data Gives (z : ℕ) : Par → Type 0 where
    gives_value : {τ : Ty} → TyFits τ 128 → Spells (get_or M z 0) τ → Gives z (value τ)
    gives_ref : {τ : Ty} (r : ℕ) → get_or M z 0 ≡ 131072 + r → IsBase τ → Spells r τ → Gives z (ref τ)

  pub data Args : ℕ → List Par → Type 0 where
    args_none : Args 0 []
    args_more : {z : ℕ} {q : Par} {qs : List Par} → lo ≤ z → (z ≡ 0 → ⊥) → Gives z q → Args (next_at t z) qs → Args z (q ∷ qs)

  base_fits : (τ : Ty) (l : ℕ) → IsBase τ → TyFits τ l
  base_fits (base b) l h = tt
  base_fits (fn ts τ) l h = absurd h
  base_fits (vec_of τ) l h = absurd h

  -- a reference is no value's type
  ref_apart : (r q : ℕ) (σ : Ty) → Spells q σ → same 128 t M (131072 + r) q ≡ false
  ref_apart r q σ s =
      let k : note_kind t (131072 + r) ≡ 65536 + r = above (131072 + r) (omega arith) ∙ less r in
      let low = low_kind q σ s in
      same_base 128 (131072 + r) q (rw k (no_fun (65536 + r) (omega arith))) (rw k (no_vec (65536 + r) (omega arith))) ∙ rw k (ne_eqb (65536 + r) (note_kind t q) (λ e. omega arith))
    where
      less : (r : ℕ) → 131072 + r - 65536 ≡ 65536 + r
      less r = omega arith

  arg_right : {y z : ℕ} (q p : Par) → Takes y q → Gives z p → arg_fits t M y z ≡ same_par p q
  unfolding arg_fits
  arg_right {y} {z} (value σ) (value τ) (takes_value k s) (gives_value f g) = rw k (same_right 128 (get_or M z 0) (param_type_in t y) τ σ f g s)
  arg_right {y} {z} (value σ) (ref τ) (takes_value k s) (gives_ref r e b g) = rw (k, e) (ref_apart r (param_type_in t y) σ s)
  arg_right {y} {z} (ref σ) (value τ) (takes_ref k s) (gives_value f g) =
      let l = spells_low (get_or M z 0) τ g in rw (k, lt-ltb (get_or M z 0) 131072 (omega arith))
  arg_right {y} {z} (ref σ) (ref τ) (takes_ref k s) (gives_ref r e b g) =
      rw (k, e, le-ltb (131072 + r) 131072 (omega arith), less r) (same_right 128 r (child_at t y) τ σ (base_fits τ 128 b) g s)
    where
      less : (r : ℕ) → 131072 + r - 131072 ≡ r
      less r = omega arith

  -- the last part, where the arguments fit
  pub data Fitted (L : ℕ → Type 0) : ℕ → Bool → Type 0 where
    fitted : {y : ℕ} → (y ≡ 0 → ⊥) → L y → Fitted L y true
    unfitted : Fitted L 0 false

  pub row_in : {L : ℕ → Type 0} {y : ℕ} {qs : List Par} → Row L y qs → y < length t
  row_in (row_last i j e s) = j
  row_in (row_more i k r) = let h = row_in r in omega arith

  -- The arguments fit a row of parameters if and only if they give what those take.
  pub fits_right : {L : ℕ → Type 0} (n y z : ℕ) (qs ps : List Par) → Row L y qs → Args z ps → length t ≤ n + y → Fitted L (fits_from t M n y z) (same_pars ps qs)
  unfolding fits_from
  fits_right zero y z qs ps r a h = absurd (omega (arith, row_in r))
  fits_right (suc n) y z [] [] (row_last i j e s) args_none h = rw e (fitted (pos_not y i) s)
  fits_right (suc n) y z [] (p ∷ ps) (row_last i j e s) (args_more lz nz g a) h = rw (e, ne_eqb z 0 nz) unfitted
  fits_right (suc n) y z (q ∷ qs) [] (row_more i k r) args_none h = rw (more_is y i) unfitted
  fits_right {L} (suc n) y z (q ∷ qs) (p ∷ ps) (row_more i k r) (args_more lz nz g a) h =
      rw (more_is y i, ne_eqb z 0 nz, arg_right q p k g) (by-test (same_par p q) (fits_right n (next_at t y) (next_at t z) qs ps r a (omega arith)))
    where
      by-test : (b : Bool) → Fitted L (fits_from t M n (next_at t y) (next_at t z)) (same_pars ps qs)
          → Fitted L (pick b (λ _. fits_from t M n (next_at t y) (next_at t z)) λ _. 0) (andb b (same_pars ps qs))
      by-test true f = f
      by-test false f = unfitted

-- what is spelled by one table is spelled by another that has the same notes from there on, and from less on
module _ (t N M : List ℕ) (lo k : ℕ) (less : k ≤ lo) (agree : Agree lo N M) where
  result_same : (r y : ℕ) → (kind_at t r ≡ 24 → lo ≤ y) → result_type t N r y ≡ result_type t M r y
  unfolding result_type
  result_same r y h = by-test (eqb (kind_at t r) 24) refl
    where
      by-test : (b : Bool) → eqb (kind_at t r) 24 ≡ b
          → pick (is_defined (kind_at t r)) (λ _. next_at t (child_at t r)) (λ _. pick b (λ _. get_or N y 0) λ _. y)
          ≡ pick (is_defined (kind_at t r)) (λ _. next_at t (child_at t r)) (λ _. pick b (λ _. get_or M y 0) λ _. y)
      by-test true e = rw (agree y (h (eqb-true (kind_at t r) 24 e)))
      by-test false e = refl

  mutual
    pub spells_move : {r : ℕ} {τ : Ty} → Spells t N lo r τ → Spells t M k r τ
    spells_move (s_bool e) = s_bool e
    spells_move (s_int e) = s_int e
    spells_move (s_fn e p) = s_fn e (parts_move p)
    spells_move (s_vec e s) = s_vec e (spells_move s)

    parts_move : {r y : ℕ} {ts : Tys} {τ : Ty} → Parts t N lo r y ts τ → Parts t M k r y ts τ
    parts_move (p_last {r} {y} {τ} i j e o s) =
        p_last i j e (λ f. let u = o f in omega arith) (subst (λ q. Spells t M k q τ) (result_same r y o) (spells_move s))
    parts_move (p_more i j s p) = p_more i j (spells_move s) (parts_move p)
