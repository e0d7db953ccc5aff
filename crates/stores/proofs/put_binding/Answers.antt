use Rattle.machine.specs.Entries.{put_binding}
use Rattle.std.proofs.Common.{rules}
use Rattle.stores.proofs.put_binding.Goals as goal

pub returns : goal.returns
unfolding put_binding
returns c = search rules
