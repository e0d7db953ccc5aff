use mathlib.Core.Path.{◌≡◌, refl, ap}
use Prim.Native.Nat.{ℕ, ◌-◌, ◌*◌, min}
use native.Mathlib.Omega.{arith}
use lib.ListN.{length, take}
use Rattle.purse_model.specs.Journal.{record_bytes, bytes_of}
use Rattle.purses.specs.Meant.{entry_said}
use Rattle.purses.proofs.Calls.{stepped}
use Rattle.purses.proofs.make_steps.Goals as goal

pub returns : goal.returns
returns c =
    let so_many : c.min-more.result ≡ min (c.args.n - 8) (length c.args.numbers.now) = omega arith in
    stepped c.args.n (record_bytes * c.args.place) (bytes_of (entry_said c.args.entry)) refl c.args.numbers.now c.args.journal.now c.args.bank.now _ _ _
    c.store_bytes.ensures (ap (λ (k : ℕ). take k c.args.numbers.now) so_many) c.hand_on.ensures
