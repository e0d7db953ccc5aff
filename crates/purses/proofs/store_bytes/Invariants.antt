use Rattle.purse_model.specs.Journal.{bytes_of}
use Rattle.purses.specs.Meant.{entry_said}
use Rattle.purses.proofs.Laws.{Storing}
use Rattle.purses.proofs.store_bytes.Given as goal

abbrev pub invariant-loop-k : goal.invariant-loop-k
invariant-loop-k l = Storing l.initial.journal l.place (bytes_of (entry_said l.entry)) l.n l.k-end l.journal l.k
