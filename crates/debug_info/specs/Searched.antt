-- Registers that are not searched yet.
use Rattle.std.specs.Prelude.{ℕ, suc, List, [], ◌∷◌, Bool, true, false}

-- how many there are
unfoldable pub unsearched : List Bool → ℕ
unsearched [] = 0
unsearched (true ∷ l) = unsearched l
unsearched (false ∷ l) = suc (unsearched l)
