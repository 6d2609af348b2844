-- The functions in a function, by index.
use Rattle.std.specs.Prelude.{ℕ, ◌+◌, min, [], ◌∷◌, get_or}
use Rattle.lent.specs.Memory.{far}
use Rattle.format.specs.Stored.{Here}
use Rattle.format.specs.Tree.{Functions}
use Rattle.proto.specs.Walk.{PassesAll, total_before}
use Rattle.proto.specs.declared.child.Children.{Children}
use Rattle.proto.specs.declared.walk.Next.{Next}

-- the number in preorder of the function with an index, in the function with a number
abbrev pub child_number : ℕ → Functions → ℕ → ℕ
child_number number fs i = number + 1 + total_before fs i

-- the count of the functions that stands at their place
abbrev pub counted : Children → ℕ
counted c = get_or c.words.now c.list 0

-- the first one, behind the count
abbrev pub first : Children → Next
first c = record { at = c.list + 1; number = min (c.number + 1) far }

-- n is behind as many functions as the index says, from the first one on, where a count stands
pub record ChildAt (c : Children) (index : ℕ) (n : Next) : Type 0 where
  pub passes : (count : ℕ) → Here c.words.now c.list (count ∷ []) → PassesAll c.words.now c.allowance index (first c) n
