-- What begins at a place is one word, or none.
use mathlib.Core.Path.{◌≡◌, sym, subst}
use Prim.Native.Nat.{ℕ}
use Rattle.language.specs.Words.{Word, Front, gap, word, bad}

pub same_word : {a b : Word} {n m : ℕ} → word a n ≡ word b m → a ≡ b
same_word e = cc

pub not_word : {w : Word} {m : ℕ} (f : Front) → f ≡ word w m → (elim f as (λ _. Type 0) [ gap ↦ ⊥ | word v n ↦ Unit {0} | bad n ↦ ⊥ ])
not_word f e = subst (λ (g : Front). elim g as (λ _. Type 0) [ gap ↦ ⊥ | word v n ↦ Unit {0} | bad n ↦ ⊥ ]) (sym e) tt
