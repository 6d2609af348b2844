-- What the calls promise: the text of whatever stands where they look.
use Rattle.std.specs.Prelude.{ℕ, List}
use Rattle.lent.specs.Writer.{Writes}
use Rattle.lent.specs.declared.Writer.{Writer}
use Rattle.format.specs.Store.{Piece}
use Rattle.proto.specs.declared.store.Store.{Store}
use Rattle.proto.specs.Lists.{StandsIn}

-- whatever stands at a place of a store, its text is written
pub record Shows {A : Type 0} (store : Store) (place : ℕ) (piece : A → Piece) (say : A → List ℕ) (w w' : Writer) : Type 0 where
  pub shows : (a : A) → StandsIn store place (piece a) → Writes (say a) w w'
