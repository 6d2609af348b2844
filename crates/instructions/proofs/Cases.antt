-- Cases evaluated at the ends of ranges; nothing cites them.
use mathlib.Core.Path.{◌≡◌, refl}
use mathlib.Core.Bool.{true, false}
use mathlib.Core.List.{[], ◌∷◌, map}
use Rattle.instructions.specs.Fields.{ISK, INDEXK, RKASK}
use Rattle.instructions.specs.OpCodes.{OP_MOVE, OP_VARARG, opcode}

-- opcodes 38 to 63 decode as MOVE
pub opcode_ends : map opcode (37 ∷ 38 ∷ 63 ∷ 64 ∷ []) ≡ OP_VARARG ∷ OP_MOVE ∷ OP_MOVE ∷ OP_MOVE ∷ []
opcode_ends = refl

-- the mark is bit 8 alone
pub marks : map ISK (255 ∷ 256 ∷ 512 ∷ 768 ∷ []) ≡ false ∷ true ∷ false ∷ true ∷ []
marks = refl

pub indexes : map INDEXK (255 ∷ 256 ∷ 512 ∷ 768 ∷ []) ≡ 255 ∷ 0 ∷ 512 ∷ 512 ∷ []
indexes = refl

pub marked : map RKASK (0 ∷ 256 ∷ 512 ∷ []) ≡ 256 ∷ 256 ∷ 768 ∷ []
marked = refl
