-- How many words behind an instruction are none.
use Rattle.std.specs.Prelude.{ℕ, ◌≡◌, List}
use Rattle.format.specs.Store.{children_piece}
use Rattle.format.specs.Tree.{Function, Functions}
use Rattle.format.specs.Valid.{ValidAll}
use Rattle.proto.specs.declared.child.Children.{Children}
use Rattle.proto.specs.Walk.{StandsAt, children}

-- so many, by the functions that stand there
pub record Behind (c : Children) (count : List Function → ℕ) (n : ℕ) : Type 0 where
  pub many : (text : List ℕ) (fs : Functions) → StandsAt c.words.now text c.list (children_piece fs) → ValidAll fs c.allowance → n ≡ count (children fs)
