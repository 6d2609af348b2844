-- The function that a CLOSURE makes a closure of.
use Rattle.std.specs.Prelude.{ℕ, ◌+◌, ◌≤◌, List, Option as Answer}
use Rattle.lent.specs.Memory.{far}
use Rattle.format.specs.Store.{children_piece}
use Rattle.format.specs.Tree.{Functions}
use Rattle.format.specs.Valid.{ValidAll}
use Rattle.instructions.specs.OpCodes.{opcode}
use Rattle.proto.specs.declared.child.Children.{Children}
use Rattle.proto.specs.Walk.{StandsAt, total_all}
use Rattle.listing_comments.specs.Shown.{ChildIs}

-- child is the number of the function that instruction i makes a closure of, whichever functions stand there
pub record ClosureChild (c : Children) (i : ℕ) (child : Answer ℕ) : Type 0 where
  pub is : (text : List ℕ) (fs : Functions) → StandsAt c.words.now text c.list (children_piece fs) → ValidAll fs c.allowance → c.number + 1 + total_all fs ≤ far → ChildIs fs c.number (opcode i) i child
