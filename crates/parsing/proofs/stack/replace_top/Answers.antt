use Rattle.std.proofs.Common.{rules}
use Rattle.parsing.proofs.stack.replace_top.Goals as goal

pub returns : goal.returns
returns c =
    record {
      stack_after = cc;
      small = search rules;
    }
