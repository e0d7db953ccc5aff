use Rattle.words.proofs.Classes.{no_symbol}
use Rattle.words.proofs.symbol.Goals as goal

pub returns-in_default : goal.returns-in_default
returns-in_default c =
    no_symbol _ c.in_default.in_default-own.rest.0.0.0.0.0.0.0.1 c.in_default.in_default-own.rest.0.0.0.0.0.0.1 c.in_default.in_default-own.rest.0.0.0.0.0.1 c.in_default.in_default-own.rest.0.0.0.0.1 c.in_default.in_default-own.rest.0.0.0.1 c.in_default.in_default-own.rest.0.0.1 c.in_default.in_default-own.rest.0.1 c.in_default.in_default-own.rest.1
