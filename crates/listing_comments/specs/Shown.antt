-- The number of a child, where a line is made from it.
use Rattle.std.specs.Prelude.{ℕ, ◌<◌, ◌≡◌, List, [], Option as Answer, Some, None}
use Rattle.format.specs.Tree.{Functions, count}
use Rattle.proto.specs.Children.{child_number}
use Rattle.instructions.specs.Fields.{GETARG_Bx}
use Rattle.instructions.specs.OpCodes.{OP_CLOSURE}
use Rattle.listing_comments.specs.Comment.{comment, address}

-- where instruction i is a CLOSURE of a function that there is, child is the number of that function
pub record ChildIs (fs : Functions) (number op i : ℕ) (child : Answer ℕ) : Type 0 where
  pub is : op ≡ OP_CLOSURE → GETARG_Bx i < count fs → child ≡ Some (child_number number fs (GETARG_Bx i))

-- its comment
abbrev pub closure_text : Answer ℕ → List ℕ
closure_text None = []
closure_text (Some n) = comment (address n)
