-- Whether a store is well formed, and what a step of the check answers.
use Rattle.std.specs.Prelude.{ℕ, ◌+◌, ◌-◌, ◌≤◌, ◌≡◌, List, [], ◌∷◌, Bool, true, false, Option as Answer, None, Some, length}
use Rattle.lent.specs.Memory.{Every}
use Rattle.format.specs.Tree.{Functions, count}
use Rattle.format.specs.Read.{limit}
use Rattle.format.specs.Store.{Piece, ◌⊕◌, plain, word}
use Rattle.format.specs.Valid.{ValidAll}
use Rattle.proto.specs.Walk.{Stands}
use Rattle.proto.specs.declared.formed.Places.{Places}
use Rattle.proto.specs.declared.store.Store.{Store}

-- ---- a step of the check

-- a valid value, whose piece stands there
pub record Found {A : Type 0} (words text : List ℕ) (ok : A → Type 0) (piece : A → Piece) (s : Places) : Type 0 where
  pub value : A
  pub valid : ok value
  pub stands : Stands words text s.at s.to (piece value)

-- the places behind a piece
abbrev pub behind : Piece → Places → Places
behind p s = record { at = s.at + length (p.words s.to); to = s.to + length p.text }

-- what a step from s answers: the places behind a valid value where one stands, and else None
pub record Check {A : Type 0} (words text : List ℕ) (ok : A → Type 0) (piece : A → Piece) (s : Places) (r : Answer Places) : Type 0 where
  pub sound : (q : Places) → r ≡ Some q → Found words text ok piece s
  pub complete : (a : A) → ok a → Stands words text s.at s.to (piece a) → r ≡ Some (behind (piece a) s)

-- in a store
abbrev pub Checks : {A : Type 0} → Store → (A → Type 0) → (A → Piece) → Places → Answer Places → Type 0
Checks s ok piece p r = Check s.words.now s.text.now ok piece p r

-- what a test of room says: n items from a place on are within so many, or they are not
pub record Room (r : Bool) (len at n : ℕ) : Type 0 where
  pub is : r ≡ true → n ≤ len - at
  pub not : r ≡ false → n ≤ len - at → ⊥

-- ---- what the steps look for

-- n values
abbrev pub Many : {A : Type 0} → (A → Type 0) → ℕ → List A → Type 0
Many P n l = (length l ≡ n) × Every P l

pub record Within (low high w : ℕ) : Type 0 where
  pub above : low ≤ w
  pub below : w ≤ high

-- what reading a count answers: it, and the places behind it
abbrev pub Counts : Store → Places → Answer (ℕ × Places) → Type 0
Counts t s None = Checks t (Within 0 limit) word s None
Counts t s (Some c) = (c.0 ≤ limit) × Checks t (Within c.0 c.0) word s (Some c.1)

-- one value beside another
unfoldable pub Both : {A B : Type 0} → (A → Type 0) → (B → Type 0) → A × B → Type 0
Both P Q v = P v.0 × Q v.1

unfoldable pub beside : {A B : Type 0} → (A → Piece) → (B → Piece) → A × B → Piece
beside p q v = p v.0 ⊕ q v.1

-- three words: a kind, and two with their greatest values
pub record Words : Type 0 where
  pub first : ℕ
  pub second : ℕ
  pub third : ℕ

abbrev pub three : Words → Piece
three w = plain (w.first ∷ w.second ∷ w.third ∷ [])

pub record Three (kind a b : ℕ) (w : Words) : Type 0 where
  pub is : w.first ≡ kind
  pub second : w.second ≤ a
  pub third : w.third ≤ b

-- the functions in a function
pub record ValidChildren (allowance : ℕ) (fs : Functions) : Type 0 where
  pub short : count fs ≤ limit
  pub all : ValidAll fs allowance
