use Prim.Native.Nat.{◌-◌}
use mathlib.Core.Path.{◌≡◌}
use lib.ListN.{length}
use Rattle.judge.specs.Scopes.{scopes_from, scopes_of}
use Rattle.scopes.proofs.give_scopes.Given as goal

abbrev pub invariant-loop-i : goal.invariant-loop-i
invariant-loop-i l = record {
  rest : scopes_from l.text l.tree (l.count - l.i) l.i l.row l.scopes ≡ scopes_of l.text l.tree l.count l.initial.scopes;
  as_long : length l.scopes ≡ length l.initial.scopes;
}
