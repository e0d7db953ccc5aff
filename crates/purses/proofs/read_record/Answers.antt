use mathlib.Core.Path.{◌≡◌, ap}
use Prim.Native.Nat.{ℕ, ◌+◌, ◌*◌, ◌/◌, ◌%◌}
use native.Mathlib.Omega.{arith}
use lib.ListN.{get_or}
use Rattle.std.proofs.Common.{rules}
use Rattle.purses.proofs.Laws.{reads_entered}
use Rattle.purses.proofs.read_record.Goals as goal

pub returns : goal.returns
returns c =
    let head : c.from-head.result ≡ get_or c.args.bytes.now 0 0 * 256 + get_or c.args.bytes.now 1 0 = omega (arith, c.from-head.ensures, c.from_be_bytes.ensures) in
    reads_entered c.args.purses.now c.args.bytes.now c.requires c.if-bytes.false c.if-bytes-ne0.false (search rules) (c.from-head.result / 4096) (c.from-head.result % 4096) c.from.result
    (ap (λ (n : ℕ). n / 4096) head) (ap (λ (n : ℕ). n % 4096) head) (omega (arith, c.from.ensures, c.from_be_bytes-amount.ensures)) _ _ c.enter.ensures
