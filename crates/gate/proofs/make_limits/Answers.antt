use mathlib.Core.Path.{ap}
use Rattle.std.proofs.Common.{rules}
use Rattle.limits.specs.Made.{made}
use Rattle.gate.proofs.Admits.{beyond, within, all_within, refused_limits}
use Rattle.gate.proofs.make_limits.Goals as goal

pub returns-in_err-fuel : goal.returns-in_err-fuel
returns-in_err-fuel c = refused_limits _ (search rules) (λ a. beyond c.make.ensures (ap made c.in_err-fuel.was) a.fuel_le)

pub returns-in_err-depth : goal.returns-in_err-depth
returns-in_err-depth c = refused_limits _ (search rules) (λ a. beyond c.make-2.ensures (ap made c.in_err-depth.was) a.depth_le)

pub returns-in_err-bindings : goal.returns-in_err-bindings
returns-in_err-bindings c = refused_limits _ (search rules) (λ a. beyond c.make-3.ensures (ap made c.in_err-bindings.was) a.bindings_le)

pub returns-in_err-cells : goal.returns-in_err-cells
returns-in_err-cells c = refused_limits _ (search rules) (λ a. beyond c.make-4.ensures (ap made c.in_err-cells.was) a.cells_le)

pub returns-in_err-output : goal.returns-in_err-output
returns-in_err-output c = refused_limits _ (search rules) (λ a. beyond c.make-5.ensures (ap made c.in_err-output.was) a.output_le)

pub returns : goal.returns
returns c =
    all_within (within c.make.ensures (ap made c.in_ok-fuel.was)) (within c.make-2.ensures (ap made c.in_ok-depth.was))
    (within c.make-3.ensures (ap made c.in_ok-bindings.was)) (within c.make-4.ensures (ap made c.in_ok-cells.was))
    (within c.make-5.ensures (ap made c.in_ok-output.was))
