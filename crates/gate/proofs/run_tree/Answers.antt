use Prim.Native.Nat.{ℕ}
use native.Mathlib.Omega.{arith}
use lib.ListN.{length-replicate}
use Rattle.gate.proofs.Programs.{zeros_blank, coded_run}
use Rattle.gate.proofs.run_tree.Goals as goal

pub write_program-requires : goal.write_program-requires
write_program-requires c = c.requires.1

pub run_written-requires : goal.run_written-requires
run_written-requires c = c.requires.0

pub returns : goal.returns
returns c =
    coded_run _ _ _ _ _ _ _ _ c.write_program.ensures c.requires.1 (omega (arith, length-replicate {A = ℕ} 8195 0)) (zeros_blank 8195) c.run_written.ensures
