-- The opcodes' numbers, by evaluation: each is where its name stands in the table.
use Prim.Native.Nat.{ℕ}
use Prim.Native.String.{String}
use mathlib.Core.Path.{◌≡◌, refl}
use mathlib.Core.List.{List, [], ◌∷◌, map}
use lib.ListN.{length, get_or}
use Rattle.instructions.specs.OpCodes.{NUM_OPCODES, ascii, blank, opcodes}
use Rattle.instructions.specs.OpCodes.{OP_MOVE, OP_LOADK, OP_LOADBOOL, OP_LOADNIL, OP_GETUPVAL, OP_GETGLOBAL, OP_GETTABLE, OP_SETGLOBAL, OP_SETUPVAL, OP_SETTABLE, OP_NEWTABLE, OP_SELF, OP_ADD, OP_SUB, OP_MUL, OP_DIV, OP_MOD, OP_POW, OP_UNM}
use Rattle.instructions.specs.OpCodes.{OP_NOT, OP_LEN, OP_CONCAT, OP_JMP, OP_EQ, OP_LT, OP_LE, OP_TEST, OP_TESTSET, OP_CALL, OP_TAILCALL, OP_RETURN, OP_FORLOOP, OP_FORPREP, OP_TFORLOOP, OP_SETLIST, OP_CLOSE, OP_CLOSURE, OP_VARARG}

-- each opcode's number and name
pub numbers : List (ℕ × String)
numbers =
    (OP_MOVE, "MOVE") ∷ (OP_LOADK, "LOADK") ∷ (OP_LOADBOOL, "LOADBOOL") ∷ (OP_LOADNIL, "LOADNIL") ∷ (OP_GETUPVAL, "GETUPVAL")
    ∷ (OP_GETGLOBAL, "GETGLOBAL") ∷ (OP_GETTABLE, "GETTABLE") ∷ (OP_SETGLOBAL, "SETGLOBAL") ∷ (OP_SETUPVAL, "SETUPVAL") ∷ (OP_SETTABLE, "SETTABLE")
    ∷ (OP_NEWTABLE, "NEWTABLE") ∷ (OP_SELF, "SELF") ∷ (OP_ADD, "ADD") ∷ (OP_SUB, "SUB") ∷ (OP_MUL, "MUL")
    ∷ (OP_DIV, "DIV") ∷ (OP_MOD, "MOD") ∷ (OP_POW, "POW") ∷ (OP_UNM, "UNM") ∷ (OP_NOT, "NOT")
    ∷ (OP_LEN, "LEN") ∷ (OP_CONCAT, "CONCAT") ∷ (OP_JMP, "JMP") ∷ (OP_EQ, "EQ") ∷ (OP_LT, "LT")
    ∷ (OP_LE, "LE") ∷ (OP_TEST, "TEST") ∷ (OP_TESTSET, "TESTSET") ∷ (OP_CALL, "CALL") ∷ (OP_TAILCALL, "TAILCALL")
    ∷ (OP_RETURN, "RETURN") ∷ (OP_FORLOOP, "FORLOOP") ∷ (OP_FORPREP, "FORPREP") ∷ (OP_TFORLOOP, "TFORLOOP") ∷ (OP_SETLIST, "SETLIST")
    ∷ (OP_CLOSE, "CLOSE") ∷ (OP_CLOSURE, "CLOSURE") ∷ (OP_VARARG, "VARARG")
    ∷ []

pub numbered : map (λ o. (get_or opcodes o.0 blank).name) numbers ≡ map (λ o. ascii o.1) numbers
unfolding numbers opcodes
numbered = refl

-- and none is left out
pub all_numbered : length numbers ≡ NUM_OPCODES
unfolding numbers
all_numbered = refl
