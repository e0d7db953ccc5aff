-- A stored cell is one that was taken: there are as many as before.
use mathlib.Core.Path.{◌≡◌, refl, sym, ◌∙◌, ap}
use Prim.Native.Nat.{ℕ, zero, suc}
use mathlib.Core.List.{List, [], ◌∷◌}
use mathlib.Core.Option.{Option, none, some, none-ne-some, some-injective}
use lib.ListN.{length}
use Rattle.language.specs.Rules.{Val, Cell, behind, store}

pub length_store : (cs : List Cell) (a : ℕ) (v : Val) (c : List Cell) → store cs a v ≡ some c → length c ≡ length cs
length_store [] a v c e = absurd (none-ne-some _ e)
length_store (x ∷ cs) zero v c e = ap (λ l. length l) (sym (some-injective _ _ e))
length_store (x ∷ cs) (suc a) v c e = go (store cs a v) (λ l q. length_store cs a v l q) e
  where
    go : (o : Option (List Cell)) → ((l : List Cell) → o ≡ some l → length l ≡ length cs) → behind x o ≡ some c → length c ≡ suc (length cs)
    go none rec e = absurd (none-ne-some _ e)
    go (some l) rec e = ap (λ l. length l) (sym (some-injective _ _ e)) ∙ ap suc (rec l refl)
