-- Codes written one behind the other into a program, as far as it has room for them.
use Rattle.std.specs.Prelude.{ℕ, suc, ◌+◌, List, [], ◌∷◌, ltb, set}
use Rattle.machine.specs.Entries.{pick}
use Rattle.machine.specs.Program.{program_nodes, program_codes}

-- a program, and the node whose code is written next
pub record Pen : Type 0 where
  pub prog : List ℕ
  pub at : ℕ

abbrev pub pen : (prog : List ℕ) (at : ℕ) → Pen
pen p i = record { prog = p; at = i }

-- the code c of the node i stored
unfoldable pub stored : (prog : List ℕ) (i c : ℕ) → List ℕ
stored p i c = set p (program_codes + i) c

unfoldable pub writes : Pen → List ℕ → Pen
writes w [] = w
writes w (c ∷ l) = pick (ltb w.at program_nodes) (λ _. writes (pen (stored w.prog w.at c) (suc w.at)) l) λ _. w
