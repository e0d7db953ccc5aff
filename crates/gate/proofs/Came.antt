-- What is left after a run, from what each call leaves.
use mathlib.Core.Path.{◌≡◌, ◌∙◌, ap, subst}
use mathlib.Core.List.{List}
use Prim.Native.Nat.{ℕ, ◌*◌}
use lib.IntN.{ℤ}
use Rattle.language.specs.Limits.{Limits}
use Rattle.limits.specs.Cleared.{zeroed}
use Rattle.machine.specs.State.{Ret, ret}
use Rattle.machine.specs.declared.Evaluated.{Evaluated}
use Rattle.answers.specs.declared.Report.{Report}
use Rattle.answers.specs.Ended.{reported}
use Rattle.gate.specs.Steps.{came, cleared_after}
use Rattle.gate.specs.Lent.{limits_of}

came_eq : {r r' : Report} {w w' b b' c c' : List ℕ} {o : List ℤ} → r ≡ r' → w ≡ w' → b ≡ b' → c ≡ c' → came r w b c o ≡ came r' w' b' c' o
came_eq p q s t = rw (p, q, s, t)

-- the evaluator answers e and leaves the tables w, b, c and o; then the first three are cleared. The limits were read off L one by one
pub cleared_came : (n : ℕ) (L : Limits) (P : Limits → ℕ → Ret) (f d mb mc mo : ℕ) (e : Evaluated) (w b c : List ℕ) (o : List ℤ) {r : Report} {w' b' c' : List ℕ} →
    ret e b c o w ≡ P (limits_of f d mb mc mo) f → limits_of f d mb mc mo ≡ L → r ≡ reported f e.ending e.counts → w' ≡ zeroed 0 n w →
    b' ≡ zeroed 0 (2 * mb) b → c' ≡ zeroed 0 (2 * mc) c → came r w' b' c' o ≡ cleared_after n L (P L L.fuel)
cleared_came n L P f d mb mc mo e w b c o {r} {w'} {b'} {c'} h same p q s t =
    subst (λ M. came r w' b' c' o ≡ cleared_after n M (P M M.fuel)) same (came_eq p q s t ∙ ap (cleared_after n (limits_of f d mb mc mo)) h)

-- limits read one by one
pub read_limits : {L : Limits} {f d mb mc mo : ℕ} → f ≡ L.fuel → d ≡ L.depth → mb ≡ L.bindings → mc ≡ L.cells → mo ≡ L.output → limits_of f d mb mc mo ≡ L
read_limits p q r s t = rw (p, q, r, s, t)
