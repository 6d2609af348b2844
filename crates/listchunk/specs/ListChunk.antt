-- What the program answers, and what it leaves in the output.
use Rattle.std.specs.Prelude.{ℕ, List, [], ◌∷◌, false, cond, take, ltb}
use Rattle.format.specs.Undump.{UndumpLeft, undumped}
use Rattle.format.specs.Dump.{WriteLeft, write_refused}
use Rattle.listing.specs.Listing.{listed}

-- the chunk name, =stdin
abbrev pub stdin : List ℕ
stdin = 61 ∷ 115 ∷ 116 ∷ 100 ∷ 105 ∷ 110 ∷ []

-- by what measure and store, as one, answered and left: the refusal, or the plain listing of the store
abbrev pub listed_of : UndumpLeft → List ℕ → WriteLeft
listed_of u out =
    cond (ltb 0 u.answer.refusal)
    (write_refused u.answer.refusal out)
    (listed (take u.answer.words u.words) (take u.answer.text u.text) stdin false out)

-- the plain listing of a chunk that is read into the words and text bytes lent
unfoldable pub listed_chunk : List ℕ → List ℕ → List ℕ → List ℕ → WriteLeft
listed_chunk chunk words text out = listed_of (undumped chunk stdin words text) out
