-- A table that gives something of each row, in the rows' order, gives at an opcode's number what its row has.
use mathlib.Core.Path.{◌≡◌, ◌∙◌, ap, refl}
use mathlib.Core.List.{List, [], ◌∷◌, map}
use Prim.Native.Nat.{ℕ, zero, suc, ◌<◌}
use native.Mathlib.Nat.{le_of_suc-le-suc, not-suc-le-zero}
use lib.ListN.{length, get_or, get_or-map}
use Rattle.instructions.specs.OpCodes.{Row, blank, opcodes, or_move, row_of}
use Rattle.instructions.proofs.Laws.{opcode_known}

module _ {B : Type 0} (f : Row → B) (d : B) where
  at : (rows : List Row) (k : ℕ) → k < length rows → get_or (map f rows) k d ≡ f (get_or rows k blank)
  at [] k h = absurd (not-suc-le-zero h)
  at (r ∷ rows) zero h = refl
  at (r ∷ rows) (suc k) h = at rows k (le_of_suc-le-suc h)

  pub listed : (table : List B) (n : ℕ) → table ≡ map f opcodes → get_or table (or_move n) d ≡ f (row_of n)
  unfolding opcodes
  listed table n rule = rw rule (at opcodes (or_move n) (opcode_known n))

-- r is what the table has for n
pub row_listed : {B : Type 0} (f : Row → B) (table : List B) (n : ℕ) (r : B) → table ≡ map f opcodes → r ≡ get_or table (or_move n) r → r ≡ f (row_of n)
row_listed f table n r rule has = has ∙ listed f r table n rule

pub looked_up : {A B : Type 0} (g : A → B) (f : Row → B) (table : List A) (n : ℕ) (r : A) → map g table ≡ map f opcodes → r ≡ get_or table (or_move n) r → g r ≡ f (row_of n)
looked_up g f table n r rule has = ap g has ∙ rw (← get_or-map g table (or_move n) r) (listed f (g r) (map g table) n rule)
