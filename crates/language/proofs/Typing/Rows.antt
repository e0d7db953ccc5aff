-- The judge of commands as a judge of single nodes computes it: a statement that others follow has one rule of its own, and a block's rule is read from the left.
use mathlib.Core.Path.{◌≡◌, refl, sym, ◌∙◌, ap, subst}
use Prim.Native.Nat.{ℕ}
use mathlib.Core.Bool.{Bool, true, false, cond}
use mathlib.Core.List.{List, [], ◌∷◌}
use mathlib.Core.Option.{Option, none, some}
use lib.Dec.{T}
use Rattle.language.specs.Syntax.{Cmds, stat_then, Stat}
use Rattle.language.specs.Places.{place_stat}
use Rattle.language.specs.Answers.{Result, fine, refuse}
use Rattle.language.specs.Types.{Ty, Ctx, Flow, never, may, always}
use Rattle.language.proofs.Typing.Judge.{and_then, judged, only, passes, same_type, goes_on, sequel, judge_cmds, judge_stat}
use Rattle.language.proofs.Typing.SameType.{same_type_is}

-- ---- a statement that others follow

abbrev pub going : Option Flow → Option Flow
going none = none
going (some f) = only (goes_on f) (some f)

abbrev pub judge_followed : Ctx → Stat → Result Flow
judge_followed Γ c = and_then (judge_stat Γ c) λ f. and_then (passes (place_stat c) (goes_on f)) λ u. fine f

-- its own rule and that it goes on are one rule, at its place
pub followed_own : (p : ℕ) (o : Option Flow) → and_then (judged p o) (λ f. and_then (passes p (goes_on f)) λ u. fine f) ≡ judged p (going o)
unfolding and_then passes judged only
followed_own p none = refl
followed_own p (some f) = go (goes_on f)
  where
    go : (b : Bool) → and_then (passes p b) (λ u. fine f) ≡ judged p (only b (some f))
    go true = refl
    go false = refl

pub followed_then : (Γ : Ctx) (c : Stat) (cs : Cmds) →
    judge_cmds Γ (stat_then c cs) ≡ and_then (judge_followed Γ c) λ f. and_then (judge_cmds Γ cs) λ o. fine (sequel f o)
unfolding and_then judge_cmds
followed_then Γ c cs = go (judge_stat Γ c)
  where
    passed : (f : Flow) (o : Result (Unit {0})) →
        and_then o (λ u. and_then (judge_cmds Γ cs) λ o. fine (sequel f o)) ≡ and_then (and_then o λ u. fine f) (λ f. and_then (judge_cmds Γ cs) λ o. fine (sequel f o))
    passed f (fine u) = refl
    passed f (refuse r p) = refl

    go : (o : Result Flow) →
        and_then o (λ f. and_then (passes (place_stat c) (goes_on f)) λ u. and_then (judge_cmds Γ cs) λ o. fine (sequel f o)) ≡
        and_then (and_then o λ f. and_then (passes (place_stat c) (goes_on f)) λ u. fine f) (λ f. and_then (judge_cmds Γ cs) λ o. fine (sequel f o))
    go (fine f) = passed f (passes (place_stat c) (goes_on f))
    go (refuse r p) = refl

-- ---- a block, from the left

pub data Seen : Type 0 where  -- of the statements so far: none may return; what may be returned is a t; they do not go together
  no_may : Seen
  a_may : Ty → Seen
  clash : Seen

abbrev pub saw : Seen → Flow → Seen
saw s never = s
saw no_may (may t) = a_may t
saw (a_may u) (may t) = cond (same_type t u) (a_may t) clash
saw clash (may t) = clash
saw s (always t) = clash

abbrev pub closed : Seen → Option Flow → Option Flow  -- with how the commands behind them return
closed no_may o = o
closed (a_may t) o = sequel (may t) o
closed clash o = none

abbrev pub row : List Flow → Flow → Option Flow  -- statements and a last one, as the judge puts them together
row [] l = some l
row (f ∷ fs) l = sequel f (row fs l)

abbrev pub from_left : Seen → List Flow → Flow → Option Flow
from_left s [] l = closed s (some l)
from_left s (f ∷ fs) l = from_left (saw s f) fs l

sequel_never : (o : Option Flow) → sequel never o ≡ o
sequel_never none = refl
sequel_never (some f) = refl

sequel_always : (t : Ty) (o : Option Flow) → sequel (always t) o ≡ none
sequel_always t none = refl
sequel_always t (some f) = refl

closed_none : (s : Seen) → closed s none ≡ none
closed_none no_may = refl
closed_none (a_may t) = refl
closed_none clash = refl

-- after two mays of one type, and of two
twice : (t : Ty) (o : Option Flow) → sequel (may t) o ≡ sequel (may t) (sequel (may t) o)
unfolding only
twice t none = refl
twice t (some never) = refl
twice t (some (may u)) = go (same_type u t) refl
  where
    go : (b : Bool) → same_type u t ≡ b → only b (some (may u)) ≡ sequel (may t) (only b (some (may u)))
    go true e = sym (ap (λ b. only b (some (may u))) e)
    go false e = refl
twice t (some (always u)) = go (same_type u t) refl
  where
    go : (b : Bool) → same_type u t ≡ b → only b (some (always u)) ≡ sequel (may t) (only b (some (always u)))
    go true e = sym (ap (λ b. only b (some (always u))) e)
    go false e = refl

other : (t u w : Ty) → same_type t u ≡ false → same_type w t ≡ true → same_type w u ≡ false
other t u w e h = ap (λ w. same_type w u) (same_type_is w t (subst T (sym h) tt)) ∙ e

apart : (t u : Ty) → same_type t u ≡ false → (o : Option Flow) → none ≡ sequel (may u) (sequel (may t) o)
unfolding only
apart t u e none = refl
apart t u e (some never) = refl
apart t u e (some (may w)) = go (same_type w t) refl
  where
    go : (b : Bool) → same_type w t ≡ b → none ≡ sequel (may u) (only b (some (may w)))
    go true h = sym (ap (λ b. only b (some (may w))) (other t u w e h))
    go false h = refl
apart t u e (some (always w)) = go (same_type w t) refl
  where
    go : (b : Bool) → same_type w t ≡ b → none ≡ sequel (may u) (only b (some (always w)))
    go true h = sym (ap (λ b. only b (some (always w))) (other t u w e h))
    go false h = refl

-- one statement more
pub saw_law : (s : Seen) (f : Flow) (o : Option Flow) → closed (saw s f) o ≡ closed s (sequel f o)
saw_law s never o = ap (closed s) (sym (sequel_never o))
saw_law no_may (may t) o = refl
saw_law (a_may u) (may t) o = go (same_type t u) refl
  where
    go : (b : Bool) → same_type t u ≡ b → closed (cond b (a_may t) clash) o ≡ sequel (may u) (sequel (may t) o)
    go true e = subst (λ u. sequel (may t) o ≡ sequel (may u) (sequel (may t) o)) (same_type_is t u (subst T (sym e) tt)) (twice t o)
    go false e = apart t u e o
saw_law clash (may t) o = refl
saw_law s (always t) o = sym (ap (closed s) (sequel_always t o) ∙ closed_none s)

-- So a block's flow may be found from the left.
pub from_left_law : (s : Seen) (fs : List Flow) (l : Flow) → from_left s fs l ≡ closed s (row fs l)
from_left_law s [] l = refl
from_left_law s (f ∷ fs) l = from_left_law (saw s f) fs l ∙ saw_law s f (row fs l)
