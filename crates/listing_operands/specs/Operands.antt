-- A constant and the operands of an instruction in a listing: format_constant, format_constant_raw, and the operands of format_code in
-- listing.rs, in its order. Where the scope decides: a number constant is its bits.
use Rattle.std.specs.Prelude.{ℕ, ◌+◌, ◌-◌, Bool, true, false, cond, List, [], ◌++◌, eqb, ltb}
use Rattle.std.proofs.Math.Option.{Option, none, some}
use Rattle.utf8.specs.Utf8.{repair}
use Rattle.digits.specs.Digits.{decimal, negative, number, quoted}
use Rattle.format.specs.Tree.{Constant}
use Rattle.proto.specs.Walk.{item}
use Rattle.instructions.specs.Fields.{MAXARG_sBx, GETARG_A, GETARG_B, GETARG_C, GETARG_Bx, ISK, INDEXK}
use Rattle.instructions.specs.OpCodes.{ascii, op_modes}
use Rattle.instructions.specs.OpCodes.{OP_JMP}
use Rattle.instructions.specs.declared.OpMode.{OpMode}
use Rattle.instructions.specs.declared.OpMode.TheVariants.{IABC, IABx, IAsBx}
use Rattle.instructions.specs.declared.OpArgMask.{OpArgMask}
use Rattle.instructions.specs.declared.OpArgMask.TheVariants.{N, U, R, K}
use Rattle.instructions.specs.declared.OpModes.{OpModes}

-- ==== constants

-- a constant, which is none where the index is no constant's; where raw, a string as it is, repaired
abbrev pub constant_text : Bool → Option Constant → List ℕ
constant_text raw none = ascii "(invalid constant)"
constant_text raw (some Constant.nil) = ascii "nil"
constant_text raw (some (Constant.bool b)) = cond b (ascii "true") (ascii "false")
constant_text raw (some (Constant.num high low)) = number high low
constant_text raw (some (Constant.str s)) = cond raw (repair s) (quoted s)

-- format_constant
abbrev pub format_constant : List Constant → ℕ → List ℕ
format_constant constants idx = constant_text false (item constants idx)

-- format_constant_raw
abbrev pub format_constant_raw : List Constant → ℕ → List ℕ
format_constant_raw constants idx = constant_text true (item constants idx)

-- ==== operands

-- a - b, which may be negative
abbrev pub difference : ℕ → ℕ → List ℕ
difference a b = cond (ltb a b) (negative (b - a)) (decimal (a - b))

-- a register or a number; a constant is -1 - its index
abbrev pub format_rk : ℕ → List ℕ
format_rk x = cond (ISK x) (negative (1 + INDEXK x)) (decimal x)

-- b_mode or c_mode is N
abbrev pub is_n : OpArgMask → Bool
is_n N = true
is_n U = false
is_n R = false
is_n K = false

-- b_mode is K
abbrev pub is_k : OpArgMask → Bool
is_k N = false
is_k U = false
is_k R = false
is_k K = true

-- B or C of iABC, nothing where the opcode has none
abbrev pub format_arg : OpArgMask → ℕ → List ℕ
format_arg m x = cond (is_n m) [] (ascii " " ++ format_rk x)

-- Bx, a constant's index as -1 - index
abbrev pub format_bx : OpArgMask → ℕ → List ℕ
format_bx m bx = cond (is_k m) (negative (1 + bx)) (decimal bx)

-- sBx
abbrev pub format_s_bx : ℕ → List ℕ
format_s_bx i = difference (GETARG_Bx i) MAXARG_sBx

-- A, B and C
abbrev pub operands_abc : OpArgMask → OpArgMask → ℕ → List ℕ
operands_abc b c i = decimal (GETARG_A i) ++ format_arg b (GETARG_B i) ++ format_arg c (GETARG_C i)

-- A and Bx
abbrev pub operands_a_bx : OpArgMask → ℕ → List ℕ
operands_a_bx b i = decimal (GETARG_A i) ++ ascii " " ++ format_bx b (GETARG_Bx i)

-- A, but for JMP, and sBx
abbrev pub operands_as_bx : ℕ → ℕ → List ℕ
operands_as_bx op i = cond (eqb op OP_JMP) (format_s_bx i) (decimal (GETARG_A i) ++ ascii " " ++ format_s_bx i)

-- the operands by the instruction format
abbrev pub operands_of : OpMode → OpModes → ℕ → ℕ → List ℕ
operands_of IABC m op i = operands_abc m.b_mode m.c_mode i
operands_of IABx m op i = operands_a_bx m.b_mode i
operands_of IAsBx m op i = operands_as_bx op i

unfoldable pub format_operands : ℕ → ℕ → List ℕ
format_operands op i = operands_of (op_modes op).mode (op_modes op) op i
