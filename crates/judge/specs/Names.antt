-- Names at places of the text x: whether two are the same, and which of the nine one is.
use Rattle.std.specs.Prelude.{ℕ, Bool, List}
use Rattle.language.specs.Bytes.{same_bytes}
use Rattle.language.specs.Names.{meaning}
use Rattle.language.specs.Words.{name_at}
use Rattle.nodes.specs.Names.{meaning_no}

-- the names at p and q have the same bytes
unfoldable pub same_name : List ℕ → ℕ → ℕ → Bool
same_name x p q = same_bytes (name_at x p) (name_at x q)

-- the number of the name at p
unfoldable pub nine_at : List ℕ → ℕ → ℕ
nine_at x p = meaning_no (meaning (name_at x p))
