-- What is written at the front of a table.
use Rattle.std.specs.Prelude.{ℕ, ◌+◌, ◌≤◌, ◌≡◌, List, ◌++◌, length, take}

-- the first n entries are kept, and more are added behind them
pub record Added (n : ℕ) (before more : List ℕ) (r : ℕ) (after : List ℕ) : Type 0 where
  pub count : r ≡ n + length more
  pub bytes : take r after ≡ take n before ++ more
  pub size : length after ≡ length before

-- the first r entries are these; r entries are there, and a part of so many can be lent
pub record Written (want : List ℕ) (r : ℕ) (after : List ℕ) : Type 0 where
  pub bytes : take r after ≡ want
  pub count : r ≡ length want
  pub within : r ≤ length after
  pub long : r ≡ length (take r after)
