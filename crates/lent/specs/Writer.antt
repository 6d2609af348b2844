-- What a writer to lent bytes leaves.
use Rattle.std.specs.Prelude.{ℕ, ◌≡◌, List}
use Rattle.lent.specs.Memory.{Puts}
use Rattle.lent.specs.declared.Writer.{Writer}

-- the items are written where w stands, and w' stands behind them, in the same bytes
pub record Writes (items : List ℕ) (w w' : Writer) : Type 0 where
  pub same : w'.out.ghost_name ≡ w.out.ghost_name
  pub puts : Puts items w.at w.out.now w'.at w'.out.now
