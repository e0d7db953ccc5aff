-- Names that correspond: they mean the same by themselves, and two are equal exactly where the two that correspond to them are.
use mathlib.Core.Path.{◌≡◌, refl, ap, ap₂}
use mathlib.Core.List.{List, [], ◌∷◌}
use Rattle.language.specs.Syntax.{Name, Expr}
use Rattle.language.specs.Bytes.{same_bytes}
use Rattle.language.specs.Names.{meaning, operator_of, head_operator}
use Rattle.language.specs.Grammar.{EXPR}
use Rattle.renaming.specs.Alike.{Alike, a_num, a_name, a_if_expr, a_and, a_or, a_app, a_abs, a_alloc, a_nth, a_len, a_vset}

pub record Corresponds (N : Name → Name → Type 0) : Type 0 where
  pub same_meaning : (x y : Name) → N x y → meaning x ≡ meaning y
  pub same_test : (x x' y y' : Name) → N x y → N x' y' → same_bytes x x' ≡ same_bytes y y'

pub data SameNames (N : Name → Name → Type 0) : List Name → List Name → Type 0 where
  no_names : SameNames N [] []
  a_name_more : {x y : Name} {xs ys : List Name} → N x y → SameNames N xs ys → SameNames N (x ∷ xs) (y ∷ ys)

pub same_head : {N : Name → Name → Type 0} → Corresponds N → {e f : Expr} → Alike N EXPR e f → head_operator e ≡ head_operator f
same_head O a_num = refl
same_head O (a_name {x = x} {y = y} n) = ap operator_of (O.same_meaning x y n)
same_head O (a_if_expr a b c) = refl
same_head O (a_and a b) = refl
same_head O (a_or a b) = refl
same_head O (a_app a b) = refl
same_head O (a_abs a b) = refl
same_head O (a_alloc a b) = refl
same_head O (a_nth a b) = refl
same_head O (a_len a) = refl
same_head O (a_vset a b c) = refl

-- equal names do
pub equal_names : Corresponds ◌≡◌
equal_names = record { same_meaning = λ x y e. ap meaning e; same_test = λ x x' y y' e f. ap₂ same_bytes e f }
