-- RUN with tables of its own: what a program is told, and what it finds in the output.
use Rattle.std.specs.Prelude.{ℕ, List, ℤ, replicate}
use Rattle.language.specs.Limits as language
use Rattle.language.specs.Limits.{greatest_limits}
use Rattle.language.specs.Promises.{Lent, Told, Ran, Run}
use Rattle.gate.specs.Lent.{limits_of, working, stores}
use Rattle.runner.specs.declared.Limits.{Limits}

abbrev pub given : Limits → language.Limits
given l = limits_of l.fuel l.depth l.bindings l.cells l.output

-- fuel 100,000, depth 200, and the rest greatest
abbrev pub program_limits : language.Limits
program_limits = limits_of 100000 200 greatest_limits.bindings greatest_limits.cells greatest_limits.output

-- ---- the tables: zeros, and large enough for the greatest limits

abbrev pub empty : (n : ℕ) → List ℕ
empty n = replicate n 0

abbrev pub works : List Lent
works = working (empty 4096) (empty 4097) (empty 4096) (empty 4096) (empty 8192)

abbrev pub stores_for : language.Limits → List Lent
stores_for L = stores L (empty 8192) (empty 8192)

-- RUN's promise with these tables: what is said, and what the output then holds
module _ (L : language.Limits) (text : List ℕ) (output : List ℤ) where
  pub data RunOwn : Told → List ℤ → Type 0 where
    runs : {x : Ran} → Run L text (empty 4096) works (stores_for L) output x → RunOwn x.says x.output
