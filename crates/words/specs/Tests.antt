-- What a closure that tests bytes answers.
use Rattle.std.specs.Prelude.{◌≡◌, Bool, ℕ}

-- by `post`, what it returns of each byte, it is the test p
abbrev pub TestsBytes : (post : ℕ → Bool → Type 0) → (p : ℕ → Bool) → Type 0
TestsBytes post p = (b : ℕ) (r : Bool) → post b r → r ≡ p b
