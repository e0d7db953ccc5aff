use Rattle.runner.specs.Own.{RunOwn}
use Rattle.runner.proofs.run.Goals as goal

pub returns : goal.returns
returns c = RunOwn.runs c.run.ensures
