-- Lent memory: what its bytes and words are, and what writing to it leaves.
use Rattle.std.specs.Prelude.{ℕ, ◌+◌, ◌-◌, ◌≤◌, ◌<◌, ◌^◌, min, ◌≡◌, List, [], ◌∷◌, length}
use Rattle.std.proofs.lemmas.List.Edits.{sets}

-- P holds of every item
unfoldable pub Every : {A : Type 0} → (A → Type 0) → List A → Type 0
Every P [] = Unit {0}
Every P (a ∷ rest) = P a × Every P rest

abbrev pub Byte : ℕ → Type 0
Byte b = b < 256

abbrev pub Word : ℕ → Type 0
Word w = w < 2 ^ 32

abbrev pub Bytes : List ℕ → Type 0
Bytes s = Every Byte s

-- the farthest place, the largest usize: no place and no length of a slice is beyond it
abbrev pub far : ℕ
far = 2 ^ 64 - 1

-- items are written at a place: what is past the end is lost, and places stop at the farthest
pub record Puts {A : Type 0} (items : List A) (at : ℕ) (out : List A) (at' : ℕ) (out' : List A) : Type 0 where
  pub puts : at ≤ far → length out ≤ far → (at' ≡ min (at + length items) far) × (out' ≡ sets out at items)
