-- The greatest limits.
use Rattle.std.specs.Prelude.{ℕ}
use Rattle.language.specs.Limits.{greatest_limits}

-- bindings, cells and output have one greatest limit
abbrev pub greatest_room : ℕ
greatest_room = greatest_limits.bindings
