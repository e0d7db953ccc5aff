use Rattle.purses.proofs.Calls.{room_as}
use Rattle.purses.proofs.has_room.Goals as goal

pub returns : goal.returns
returns c = room_as c.args.place c.args.journal.now
