use mathlib.Core.Path.{sym}
use Rattle.parsing.proofs.Finding.{no_symbol}
use Rattle.std.proofs.Common.{rules}
use Rattle.parsing.proofs.rules.rule_for.Goals as goal

pub returns-then-starts-symbol : goal.returns-then-starts-symbol
returns-then-starts-symbol c = sym (no_symbol c.args.rules.now c.args.starts.now c.args.w c.args.x (search rules))
