-- The library's names that the language is written in: equality, numbers, integers, tests, lists, options.
pub use Rattle.std.specs.Prelude.{◌≡◌, ◌↔◌, ◌⊎◌, ℕ, zero, suc, ◌+◌, ◌-◌, ◌*◌, ◌≤◌, ◌<◌, ℤ, pos, negsuc, neg_ℤ, nat_abs, ◌+ℤ◌, ◌-ℤ◌, ◌*ℤ◌, Bool, true, false, cond, ◌&&◌, ◌||◌, eqb, leb, ltb, List, [], ◌∷◌, ◌++◌, map, length, drop, replicate}
pub use Prim.Native.String.{String}
pub use Rattle.std.specs.Int.Signed.{lt_z, le_z, non_neg, shr_z}
pub use Rattle.std.proofs.Math.Option.{Option, none, some}
