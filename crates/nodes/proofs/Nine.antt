-- The nine names by their first bytes: no two of them begin alike.
use Prim.Native.Nat.{ℕ}
use mathlib.Core.Path.{◌≡◌, refl, ◌∙◌, subst}
use mathlib.Core.Bool.{Bool, true, false, cond}
use mathlib.Core.List.{List, [], ◌∷◌}
use mathlib.Core.Option.{none, some}
use borrow.Author.Tests.{ne_eqb}
use lib.Dec.{eqb}
use lib.ListN.{get_or}
use Rattle.std.specs.Prelude.{Some, None}
use Rattle.std.specs.Bool.{then_some}
use Rattle.std.specs.List.{slice_get}
use Rattle.language.specs.Syntax.{Name}
use Rattle.language.specs.Bytes.{bytes_of, same_bytes}
use Rattle.language.specs.Names as L
use Rattle.language.specs.Names.{meaning, or_free}
use Rattle.nodes.specs.Names.{meaning_no}
use Rattle.nodes.specs.Meanings.{number, number_or_zero, written, BeginsNone}
use Rattle.nodes.specs.declared.Meaning.{Meaning}
use Rattle.nodes.specs.declared.Meaning.TheVariants.{True, False, Not, Eq, Lt, Add, Sub, Mul, Div}

pub no_bytes : (x : Name) → None ≡ slice_get x 0 → 0 ≡ meaning_no (meaning x)
unfolding meaning
no_bytes [] h = refl
no_bytes (b ∷ s) h = absurd cc

one : (m : L.Meaning) (t : Bool) → cond t (meaning_no m) 0 ≡ meaning_no (or_free (cond t (some m) none))
one m true = refl
one m false = refl

-- of the names that begin as one of the nine does, that one has its number, and any other 0
told : (m : Meaning) (s : List ℕ) → cond (same_bytes (written m) (get_or (written m) 0 0 ∷ s)) (number m) 0 ≡ meaning_no (meaning (get_or (written m) 0 0 ∷ s))
unfolding meaning
told True s = one (L.literal true) (same_bytes (bytes_of "rue") s)
told False s = one (L.literal false) (same_bytes (bytes_of "alse") s)
told Not s = one (L.operator L.not) (same_bytes (bytes_of "ot") s)
told Eq s = one (L.operator L.eq) (same_bytes (bytes_of "q") s)
told Lt s = one (L.operator L.lt) (same_bytes (bytes_of "t") s)
told Add s = one (L.operator L.add) (same_bytes (bytes_of "dd") s)
told Sub s = one (L.operator L.sub) (same_bytes (bytes_of "ub") s)
told Mul s = one (L.operator L.mul) (same_bytes (bytes_of "ul") s)
told Div s = one (L.operator L.div) (same_bytes (bytes_of "iv") s)

-- so comparing with that one tells what the name is
pub begins : (m : Meaning) (x : Name) (b : ℕ) → Some b ≡ slice_get x 0 → get_or (written m) 0 0 ≡ b → {t : Bool} → t ≡ same_bytes (written m) x
    → number_or_zero (then_some t m) ≡ meaning_no (meaning x)
begins m [] b h e c = absurd cc
begins m (a ∷ s) b h e {t = t} c =
    counted t ∙ rw c (subst (λ (d : ℕ). cond (same_bytes (written m) (d ∷ s)) (number m) 0 ≡ meaning_no (meaning (d ∷ s))) (cc) (told m s))
  where
    counted : (t : Bool) → number_or_zero (then_some t m) ≡ cond t (number m) 0
    counted true = refl
    counted false = refl

-- and what begins as none of them does is none
pub none_begins : (x : Name) (b : ℕ) → Some b ≡ slice_get x 0 → BeginsNone b → 0 ≡ meaning_no (meaning x)
unfolding meaning
none_begins [] b h n = absurd cc
none_begins (a ∷ x) b h n = simp (no True, no False, no Not, no Eq, no Lt, no Add, no Sub, no Mul, no Div)
  where
    no : (m : Meaning) → eqb (get_or (written m) 0 0) a ≡ false
    no m = ne_eqb _ a (λ e. n m cc)
