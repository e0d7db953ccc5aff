-- The model's numbers of what has parameters and of what binds a name, 0 for neither.
use Rattle.std.specs.Prelude.{ℕ, Option, Some, None}
use Rattle.scopes.specs.declared.Row.{Row}
use Rattle.scopes.specs.declared.Row.TheVariants.{Rec, Other}
use Rattle.scopes.specs.declared.Binder.{Binder}
use Rattle.scopes.specs.declared.Binder.TheVariants.{Definition, Parameter}

abbrev pub row_number : Option Row → ℕ
row_number None = 0
row_number (Some Rec) = 1
row_number (Some Other) = 2

abbrev pub binder_number : Option Binder → ℕ
binder_number None = 0
binder_number (Some Definition) = 1
binder_number (Some Parameter) = 2
