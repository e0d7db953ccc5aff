-- The judge's tests are right: of types, of parameters, of names.
use mathlib.Core.Path.{◌≡◌, refl, sym, ap, ap₂, subst}
use mathlib.Core.Bool.{Bool, true, false}
use mathlib.Core.List.{List, [], ◌∷◌}
use lib.Dec.{T}
use Rattle.language.specs.Syntax.{Name, at, TypeTree, bool, int, arrow, vec, ArgP, val_arg, var_arg}
use Rattle.language.specs.Names.{Meaning, literal, operator, free, meaning}
use Rattle.language.specs.Types.{Base, boolean, integer, Ty, base, fn, vec_of, Tys, tnil, tcons, type_of, Par, value, ref, Flow, never, may, always, param_type}
use Rattle.language.specs.Typing.{Free, IsBase, IsElement, Formed, Declarable, GoesOn}
use Rattle.language.proofs.Typing.Judge.{andb, same_base, same_type, same_types, same_par, same_pars, is_free, is_base, is_element_type, declarable, is_never, is_always, goes_on}

pub andb_l : (a b : Bool) → T (andb a b) → T a
andb_l true b h = tt
andb_l false b h = h

pub andb_r : (a b : Bool) → T (andb a b) → T b
andb_r true b h = h
andb_r false b h = absurd h

pub andb_in : (a b : Bool) → T a → T b → T (andb a b)
andb_in true b h k = k
andb_in false b h k = h

same_base_is : (a b : Base) → T (same_base a b) → a ≡ b
same_base_is boolean boolean h = refl
same_base_is boolean integer h = absurd h
same_base_is integer boolean h = absurd h
same_base_is integer integer h = refl

same_base_refl : (a : Base) → T (same_base a a)
same_base_refl boolean = tt
same_base_refl integer = tt

mutual
  unfolding same_type

  pub same_type_is : (a b : Ty) → T (same_type a b) → a ≡ b
  same_type_is (base a) (base b) h = ap base (same_base_is a b h)
  same_type_is (base a) (fn us u) h = absurd h
  same_type_is (base a) (vec_of u) h = absurd h
  same_type_is (fn ts t) (base b) h = absurd h
  same_type_is (fn ts t) (fn us u) h =
      ap₂ fn (same_types_is ts us (andb_l (same_types ts us) (same_type t u) h)) (same_type_is t u (andb_r (same_types ts us) (same_type t u) h))
  same_type_is (fn ts t) (vec_of u) h = absurd h
  same_type_is (vec_of t) (base b) h = absurd h
  same_type_is (vec_of t) (fn us u) h = absurd h
  same_type_is (vec_of t) (vec_of u) h = ap vec_of (same_type_is t u h)

  pub same_types_is : (a b : Tys) → T (same_types a b) → a ≡ b
  same_types_is tnil tnil h = refl
  same_types_is tnil (tcons u us) h = absurd h
  same_types_is (tcons t ts) tnil h = absurd h
  same_types_is (tcons t ts) (tcons u us) h =
      ap₂ tcons (same_type_is t u (andb_l (same_type t u) (same_types ts us) h)) (same_types_is ts us (andb_r (same_type t u) (same_types ts us) h))

mutual
  unfolding same_type

  pub same_type_refl : (a : Ty) → T (same_type a a)
  same_type_refl (base a) = same_base_refl a
  same_type_refl (fn ts t) = andb_in (same_types ts ts) (same_type t t) (same_types_refl ts) (same_type_refl t)
  same_type_refl (vec_of t) = same_type_refl t

  pub same_types_refl : (a : Tys) → T (same_types a a)
  same_types_refl tnil = tt
  same_types_refl (tcons t ts) = andb_in (same_type t t) (same_types ts ts) (same_type_refl t) (same_types_refl ts)

same_par_is : (q r : Par) → T (same_par q r) → q ≡ r
same_par_is (value t) (value u) h = ap value (same_type_is t u h)
same_par_is (value t) (ref u) h = absurd h
same_par_is (ref t) (value u) h = absurd h
same_par_is (ref t) (ref u) h = ap ref (same_type_is t u h)

same_par_refl : (q : Par) → T (same_par q q)
same_par_refl (value t) = same_type_refl t
same_par_refl (ref t) = same_type_refl t

pub same_pars_is : (q r : List Par) → T (same_pars q r) → q ≡ r
same_pars_is [] [] h = refl
same_pars_is [] (r ∷ rs) h = absurd h
same_pars_is (q ∷ qs) [] h = absurd h
same_pars_is (q ∷ qs) (r ∷ rs) h =
    λ i. same_par_is q r (andb_l (same_par q r) (same_pars qs rs) h) i ∷ same_pars_is qs rs (andb_r (same_par q r) (same_pars qs rs) h) i

pub same_pars_refl : (q : List Par) → T (same_pars q q)
same_pars_refl [] = tt
same_pars_refl (q ∷ qs) = andb_in (same_par q q) (same_pars qs qs) (same_par_refl q) (same_pars_refl qs)

-- tests of how commands return
pub never_is : (f : Flow) → T (is_never f) → f ≡ never
never_is never h = refl
never_is (may t) h = absurd h
never_is (always t) h = absurd h

pub always_is : (f : Flow) (u : Ty) → T (is_always f u) → f ≡ always u
always_is never u h = absurd h
always_is (may t) u h = absurd h
always_is (always t) u h = ap always (same_type_is t u h)

pub goes_is : (f : Flow) → T (goes_on f) → GoesOn f
goes_is never h = tt
goes_is (may t) h = tt
goes_is (always t) h = absurd h

pub goes_in : (f : Flow) → GoesOn f → T (goes_on f)
goes_in never h = tt
goes_in (may t) h = tt
goes_in (always t) h = absurd h

-- tests of names and parameters
free_out : (m : Meaning) → T (is_free m) → m ≡ free
free_out (literal b) h = absurd h
free_out (operator o) h = absurd h
free_out free h = refl

pub free_is : (x : Name) → T (is_free (meaning x)) → Free x
free_is x h = free_out (meaning x) h

pub free_in : (x : Name) → Free x → T (is_free (meaning x))
free_in x h = subst (λ m. T (is_free m)) (sym h) tt

pub base_in : (t : Ty) → IsBase t → T (is_base t)
base_in (base b) h = tt
base_in (fn ts t) h = h
base_in (vec_of t) h = h

pub base_is : (t : Ty) → T (is_base t) → IsBase t
base_is (base b) h = tt
base_is (fn ts t) h = h
base_is (vec_of t) h = h

pub element_in : (t : Ty) → IsElement t → T (is_element_type t)
element_in (base b) h = tt
element_in (fn ts t) h = h
element_in (vec_of t) h = tt

pub element_is : (t : Ty) → T (is_element_type t) → IsElement t
element_is (base b) h = tt
element_is (fn ts t) h = h
element_is (vec_of t) h = tt

-- bool and int may be written
pub base_formed : (t : TypeTree) → IsBase (type_of t) → Formed t
base_formed (bool p) h = tt
base_formed (int p) h = tt
base_formed (arrow p ts t) h = absurd h
base_formed (vec p t) h = absurd h

pub param_formed : (a : ArgP) → Declarable a → Formed (param_type a)
param_formed (val_arg (at p x) t) h = h.1
param_formed (var_arg (at p x) t) h = base_formed t h.1

pub declarable_in : (a : ArgP) → Declarable a → T (declarable a)
declarable_in (val_arg (at p x) t) h = free_in x h.0
declarable_in (var_arg (at p x) t) h = andb_in (is_free (meaning x)) (is_base (type_of t)) (free_in x h.0) (base_in (type_of t) h.1)

pub declarable_is : (a : ArgP) → Formed (param_type a) → T (declarable a) → Declarable a
declarable_is (val_arg (at p x) t) f h = (free_is x h, f)
declarable_is (var_arg (at p x) t) f h =
    (free_is x (andb_l (is_free (meaning x)) (is_base (type_of t)) h), base_is (type_of t) (andb_r (is_free (meaning x)) (is_base (type_of t)) h))
