-- A text that fits, stored or only counted.
use Rattle.std.specs.Prelude.{ℕ, ◌≡◌, Bool, false, cond, List, [], length}
use Rattle.lent.specs.Memory.{far}
use Rattle.digits.specs.Room.{PutsWithin}

-- the bytes that are written to: none where a text is only counted
abbrev pub seen : Bool → List ℕ → List ℕ
seen stored out = cond stored out []

-- how far places may go
unfoldable pub room : Bool → List ℕ → ℕ
room stored out = cond stored (length out) far

-- items are stored, or only counted, which keeps what stood there; the next place is at most so far on
pub record Fits (stored : Bool) (items : List ℕ) (most at : ℕ) (out : List ℕ) (at' : ℕ) (out' : List ℕ) : Type 0 where
  pub within : PutsWithin items most at (seen stored out) at' (seen stored out')
  pub same : room stored out' ≡ room stored out
  pub kept : stored ≡ false → out' ≡ out
