use mathlib.Core.Path.{refl}
use Rattle.purse_model.specs.Journal.{bytes_of}
use Rattle.purses.specs.Meant.{entry_said}
use Rattle.purses.proofs.Laws.{storing_first, storing_more, storing_done}
use Rattle.purses.proofs.store_bytes.Goals as goal

pub loop-k-init : goal.loop-k-init
loop-k-init c = storing_first c.args.journal.now c.args.place (bytes_of (entry_said c.args.entry)) c.args.n _ c.min-k-end.ensures

pub loop-k-preserved : goal.loop-k-preserved
loop-k-preserved c = storing_more c.args.journal.now c.args.place (bytes_of (entry_said c.args.entry)) c.args.n _ _ _ c.loop-k.invariant refl _ c.loop-k-test.true c.store_byte.ensures

pub returns : goal.returns
returns c = storing_done c.args.journal.now c.args.place (bytes_of (entry_said c.args.entry)) c.args.n _ _ _ c.loop-k.invariant refl c.loop-k-test.false
