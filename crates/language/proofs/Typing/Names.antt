-- Laws of the nine names.
use mathlib.Core.Path.{◌≡◌, refl, ap, subst}
use mathlib.Core.Logic.{◌↔◌}
use mathlib.Core.Bool.{Bool, true, false, cond}
use mathlib.Core.List.{[], ◌∷◌}
use mathlib.Core.Option.{Option, none, some, none-ne-some}
use lib.Dec.{T, eqb, eqb→eq, eqb_refl}
use Rattle.language.specs.Syntax.{Name, at, Expr, num, name, if_expr, and, or, app, abs, alloc, nth_expr, len, vset}
use Rattle.language.specs.Bytes.{same_bytes}
use Rattle.language.specs.Names.{Meaning, literal, operator, free, lookup, meaning, unless_nine, operator_of, head_operator}
use Rattle.language.specs.Types.{Ty, Entity, Ctx}
use Rattle.language.specs.Typing.{HasE, LITERAL, IDV, IDR}

pub data Has {A : Type 0} (P : A → Type 0) : Option A → Type 0 where
  has : {a : A} → P a → Has P (some a)

-- names are the same exactly when their bytes are
bytes_same : (b c : Bool) → T (cond b c false) → T b × T c
bytes_same true c h = (tt, h)
bytes_same false c h = absurd h

same_is : (x y : Name) → T (same_bytes x y) → x ≡ y
same_is [] [] h = refl
same_is [] (b ∷ y) h = absurd h
same_is (a ∷ x) [] h = absurd h
same_is (a ∷ x) (b ∷ y) h = let k = bytes_same (eqb a b) (same_bytes x y) h in λ i. eqb→eq a b k.0 i ∷ same_is x y k.1 i

same_self : (x : Name) → T (same_bytes x x)
same_self [] = tt
same_self (a ∷ x) = go (eqb a a) (eqb_refl a) (same_self x)
  where
    go : (b : Bool) → T b → T (same_bytes x x) → T (cond b (same_bytes x x) false)
    go true h k = k
    go false h k = absurd h

pub same_names : (x y : Name) → T (same_bytes x y) ↔ (x ≡ y)
same_names x y = (same_is x y, (λ e. subst (λ y. T (same_bytes x y)) e (same_self x)))

-- an expression with a type is no operator's name
pub head_typed : (f : Expr) {Γ : Ctx} {t : Ty} → HasE Γ f t → head_operator f ≡ none
head_typed (num p n) h = refl
head_typed (name (at p x)) (LITERAL e) = ap operator_of e
head_typed (name (at p x)) {Γ} (IDV e) = bound-name (meaning x) (lookup Γ x) e
  where
    bound-name : (m : Meaning) (o : Option Entity) {τ : Entity} → unless_nine m o ≡ some τ → operator_of m ≡ none
    bound-name (literal b) o e = refl
    bound-name (operator f) o e = absurd (none-ne-some _ e)
    bound-name free o e = refl
head_typed (name (at p x)) {Γ} (IDR e) = bound-name (meaning x) (lookup Γ x) e
  where
    bound-name : (m : Meaning) (o : Option Entity) {τ : Entity} → unless_nine m o ≡ some τ → operator_of m ≡ none
    bound-name (literal b) o e = refl
    bound-name (operator f) o e = absurd (none-ne-some _ e)
    bound-name free o e = refl
head_typed (if_expr p a b c) h = refl
head_typed (and p a b) h = refl
head_typed (or p a b) h = refl
head_typed (app p f es) h = refl
head_typed (abs p ps e) h = refl
head_typed (alloc p t e) h = refl
head_typed (nth_expr p a b) h = refl
head_typed (len p a) h = refl
head_typed (vset p a b c) h = refl
