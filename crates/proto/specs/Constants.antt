-- The constant at a place of a store.
use Rattle.std.specs.Prelude.{ℕ, ◌≡◌, List, Option as Answer, Some, None}
use Rattle.std.proofs.Math.Option.{Option, none, some}
use Rattle.format.specs.Tree.{Constant as Value}
use Rattle.format.specs.Store.{constant_piece}
use Rattle.format.specs.Stored.{Here}
use Rattle.format.specs.Constants.{value_of, constant_words}
use Rattle.format.specs.declared.Constant.{Constant}
use Rattle.proto.specs.Walk.{Stands}

-- an Option that was answered, and what its value stands for
-- Code's Option and the logic's are two types. One for both is no plainer: item and tree_of answer the logic's, in the definitions of nine crates, and read would stay, as option_map.
abbrev pub read : {A B : Type 0} → (A → B) → Answer A → Option B
read f None = none
read f (Some a) = some (f a)

-- where a constant of a tree stands, r stands for it, and the words there are its number and values
pub record ConstantAt (words : List ℕ) (at : ℕ) (r : Constant) : Type 0 where
  pub value : (k : Value) (text : List ℕ) (to : ℕ) → Stands words text at to (constant_piece k) → value_of text r ≡ k
  pub numbered : (k : Value) (text : List ℕ) (to : ℕ) → Stands words text at to (constant_piece k) → Here words at (constant_words r)
