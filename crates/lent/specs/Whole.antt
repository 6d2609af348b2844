-- Bytes written whole to lent bytes, or not at all.
use Rattle.std.specs.Prelude.{ℕ, ◌≡◌, List, ◌++◌, cond, length, drop, leb, Option, Some, None}

-- where they fit, they stand at the start, what stood behind them stays, and the answer is how many they are; else none, and all stays
pub record PutsWhole (bytes out : List ℕ) (answer : Option ℕ) (out' : List ℕ) : Type 0 where
  pub counts : answer ≡ cond (leb (length bytes) (length out)) (Some (length bytes)) None
  pub leaves : out' ≡ cond (leb (length bytes) (length out)) (bytes ++ drop (length bytes) out) out
