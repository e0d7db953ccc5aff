-- What a name is by itself. The nine names of the language are ordinary names (000, section 3.1): one function tells them from the others.
use Rattle.std.specs.Prelude.{◌∷◌}
use Rattle.language.specs.Library.{Bool, true, false, cond, List, [], Option, none, some}
use Rattle.language.specs.Syntax.{Name, at, Expr, num, name, if_expr, and, or, app, abs, alloc, nth_expr, len, vset}
use Rattle.language.specs.Bytes.{bytes_of, same_bytes}

pub data Op : Type 0 where  -- the seven operators
  not eq lt add sub mul div : Op

pub data Meaning : Type 0 where  -- a name is a literal, an operator, or free to be bound
  literal : Bool → Meaning
  operator : Op → Meaning
  free : Meaning

abbrev pub lookup : {A : Type 0} → List (Name × A) → Name → Option A  -- what stands beside a name in a list of names: the first of equal ones
lookup [] x = none
lookup (d ∷ ds) x = cond (same_bytes d.0 x) (some d.1) (lookup ds x)

abbrev pub nine_names : List (Name × Meaning)  -- the nine names: true false not eq lt add sub mul div
nine_names =
    (bytes_of "true", literal true) ∷ (bytes_of "false", literal false) ∷ (bytes_of "not", operator not) ∷ (bytes_of "eq", operator eq) ∷ (bytes_of "lt", operator lt) ∷
    (bytes_of "add", operator add) ∷ (bytes_of "sub", operator sub) ∷ (bytes_of "mul", operator mul) ∷ (bytes_of "div", operator div) ∷ []

abbrev pub or_free : Option Meaning → Meaning
or_free = elim [ none ↦ free | some m ↦ m ]

unfoldable pub meaning : Name → Meaning  -- what a name is: one of the nine as the list says, any other is free
meaning x = or_free (lookup nine_names x)

-- what a name stands for where names are bound: the nine mean themselves everywhere and stand for nothing that is bound
abbrev pub unless_nine : {A : Type 0} → Meaning → Option A → Option A
unless_nine (literal b) o = none
unless_nine (operator f) o = none
unless_nine free o = o

abbrev pub operator_of : Meaning → Option Op
operator_of = elim [ literal b ↦ none | operator o ↦ some o | free ↦ none ]

abbrev pub head_operator : Expr → Option Op  -- the operator that stands as the head of an application, if one does
head_operator =
    elim [
      | num p n ↦ none
      | name (at p x) ↦ operator_of (meaning x)
      | if_expr p a b c ↦ none
      | and p a b ↦ none
      | or p a b ↦ none
      | app p f g ↦ none
      | abs p a e ↦ none
      | alloc p t e ↦ none
      | nth_expr p a b ↦ none
      | len p a ↦ none
      | vset p a b c ↦ none
    ]
