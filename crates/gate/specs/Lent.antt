-- The limits and the tables that RUN is lent, and what it leaves.
use Rattle.std.specs.Prelude.{ℕ, ◌*◌, List, [], ◌∷◌, ℤ}
use Rattle.language.specs.Limits.{Limits}
use Rattle.language.specs.Promises.{Lent, Ran}
use Rattle.answers.specs.declared.Report.{Report}
use Rattle.answers.specs.Answers.{said}

abbrev pub limits_of : (fuel depth bindings cells output : ℕ) → Limits
limits_of f d b c o = record { fuel = f; depth = d; bindings = b; cells = c; output = o }

-- the working tables and their fixed sizes: CHECK's four, and the values that wait for their call, two words each
abbrev pub working : (words stack scopes notes waiting : List ℕ) → List Lent
working words stack scopes notes waiting =
    record { size = 4096; holds = words } ∷ record { size = 4097; holds = stack } ∷ record { size = 4096; holds = scopes } ∷ record { size = 4096; holds = notes } ∷
    record { size = 8192; holds = waiting } ∷ []

-- the tables of bindings and cells: two words for each that its limit admits
abbrev pub stores : Limits → (bindings cells : List ℕ) → List Lent
stores L bindings cells = record { size = 2 * L.bindings; holds = bindings } ∷ record { size = 2 * L.cells; holds = cells } ∷ []

-- what RUN says, and what the tables then hold
abbrev pub left : Report → (tree words stack scopes notes waiting bindings cells : List ℕ) → (output : List ℤ) → Ran
left r tree words stack scopes notes waiting bindings cells output =
    record { says = said r; tree = tree; works = words ∷ stack ∷ scopes ∷ notes ∷ waiting ∷ []; stores = bindings ∷ cells ∷ []; output = output }
