use mathlib.Core.Path.{◌∙◌}
use Rattle.coding.proofs.Rows.{root_child}
use Rattle.std.proofs.Common.{rules}
use Rattle.coding.proofs.first_command.Goals as goal

pub returns : goal.returns
returns c =
    record {
      value = c.child_at.ensures ∙ root_child _;
      prog_len = search rules;
    }
