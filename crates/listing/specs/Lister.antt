-- What a step of the listing does: from a function to the place behind it, with its text written.
use Rattle.std.specs.Prelude.{ℕ, ◌+◌, ◌≤◌, Bool, List}
use Rattle.lent.specs.Memory.{far}
use Rattle.lent.specs.Writer.{Writes}
use Rattle.lent.specs.declared.Writer.{Writer}
use Rattle.format.specs.Tree.{Function}
use Rattle.format.specs.Store.{function_piece}
use Rattle.proto.specs.declared.walk.Next.{Next}
use Rattle.proto.specs.Walk.{Passes, total, StandsAt}
use Rattle.listing.specs.Listing.{list_function_recursive}

-- a place in the words with the number of the function there, and the writer
pub record Progress : Type 0 where
  pub next : Next
  pub writer : Writer

abbrev pub progress : Next → Writer → Progress
progress s w = record { next = s; writer = w }

-- the function that stands there: the next place and number, and the text
pub record ListsFunction (words text : List ℕ) (full : Bool) (outer : List ℕ) (f : Function) (s r : Progress) : Type 0 where
  pub passes : Passes words (function_piece f) (total f) s.next r.next
  pub writes : StandsAt words text s.next.at (function_piece f) → s.next.number + total f ≤ far → Writes (list_function_recursive f full outer s.next.number) s.writer r.writer
