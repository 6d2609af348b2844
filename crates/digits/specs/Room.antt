-- Writing where there is room, and how much is needed.
use Rattle.std.specs.Prelude.{ℕ, ◌+◌, ◌≤◌, ◌≡◌, List, length}
use Rattle.lent.specs.Memory.{Puts}

-- items are written at a place, and the next place is at most so far on
pub record PutsWithin (items : List ℕ) (most at : ℕ) (out : List ℕ) (at' : ℕ) (out' : List ℕ) : Type 0 where
  pub puts : Puts items at out at' out'
  pub upto : at' ≤ at + most

-- items are so many, at most this many
pub record Width (items : List ℕ) (most n : ℕ) : Type 0 where
  pub is : n ≡ length items
  pub upto : n ≤ most
