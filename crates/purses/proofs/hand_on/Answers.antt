use lib.ListN.{get_or}
use lib.IntN.{pos}
use mir.Facts.{to_z-of_z}
use mir.Syntax.{w64}
use Rattle.std.proofs.Common.{rules}
use Rattle.purses.proofs.Calls.{handing_first, handing_more, handing_done}
use Rattle.purses.proofs.hand_on.Goals as goal

pub loop-i-init : goal.loop-i-init
loop-i-init c = handing_first c.args.numbers.now c.args.bank.now

pub loop-i-preserved : goal.loop-i-preserved
loop-i-preserved c =
    handing_more c.args.numbers.now c.args.bank.now _ _ c.loop-i.invariant c.requires _
    (to_z-of_z {w = w64} {z = get_or c.args.numbers.now c.loop-i.i (pos 0)} (search rules)) c.loop-i-test.true

pub returns : goal.returns
returns c = handing_done c.args.numbers.now c.args.bank.now _ _ c.loop-i.invariant c.requires c.loop-i-test.false
