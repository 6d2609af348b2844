-- The 38 opcodes of Lua 5.1, from lopcodes.h and lopcodes.c: names and order are those files', with - for _.
-- The Rust decides two values: VARARG's C is U (N in lopcodes.c), and TFORLOOP is no test (there T is 1).
use Rattle.std.specs.Prelude.{ℕ, ◌-◌, Bool, false, cond, ◌&&◌, ◌||◌, List, [], ◌∷◌, ◌++◌, length, get_or, replicate, eqb, ltb}
use Prim.Native.String.{String}
use Prim.Native.Char.{code}
use Rattle.instructions.specs.declared.OpMode.{OpMode}
use Rattle.instructions.specs.declared.OpMode.TheVariants.{IABC, IABx, IAsBx}
use Rattle.instructions.specs.declared.OpArgMask.{OpArgMask}
use Rattle.instructions.specs.declared.OpArgMask.TheVariants.{N, U, R, K}
use Rattle.instructions.specs.declared.OpModes.{OpModes}
use Rattle.instructions.specs.Fields.{field, GET_OPCODE, GETARG_C}

-- ==== lopcodes.h, enum OpCode

abbrev pub OP_MOVE : ℕ
OP_MOVE = 0

abbrev pub OP_LOADK : ℕ
OP_LOADK = 1

abbrev pub OP_LOADBOOL : ℕ
OP_LOADBOOL = 2

abbrev pub OP_LOADNIL : ℕ
OP_LOADNIL = 3

abbrev pub OP_GETUPVAL : ℕ
OP_GETUPVAL = 4

abbrev pub OP_GETGLOBAL : ℕ
OP_GETGLOBAL = 5

abbrev pub OP_GETTABLE : ℕ
OP_GETTABLE = 6

abbrev pub OP_SETGLOBAL : ℕ
OP_SETGLOBAL = 7

abbrev pub OP_SETUPVAL : ℕ
OP_SETUPVAL = 8

abbrev pub OP_SETTABLE : ℕ
OP_SETTABLE = 9

abbrev pub OP_NEWTABLE : ℕ
OP_NEWTABLE = 10

abbrev pub OP_SELF : ℕ
OP_SELF = 11

abbrev pub OP_ADD : ℕ
OP_ADD = 12

abbrev pub OP_SUB : ℕ
OP_SUB = 13

abbrev pub OP_MUL : ℕ
OP_MUL = 14

abbrev pub OP_DIV : ℕ
OP_DIV = 15

abbrev pub OP_MOD : ℕ
OP_MOD = 16

abbrev pub OP_POW : ℕ
OP_POW = 17

abbrev pub OP_UNM : ℕ
OP_UNM = 18

abbrev pub OP_NOT : ℕ
OP_NOT = 19

abbrev pub OP_LEN : ℕ
OP_LEN = 20

abbrev pub OP_CONCAT : ℕ
OP_CONCAT = 21

abbrev pub OP_JMP : ℕ
OP_JMP = 22

abbrev pub OP_EQ : ℕ
OP_EQ = 23

abbrev pub OP_LT : ℕ
OP_LT = 24

abbrev pub OP_LE : ℕ
OP_LE = 25

abbrev pub OP_TEST : ℕ
OP_TEST = 26

abbrev pub OP_TESTSET : ℕ
OP_TESTSET = 27

abbrev pub OP_CALL : ℕ
OP_CALL = 28

abbrev pub OP_TAILCALL : ℕ
OP_TAILCALL = 29

abbrev pub OP_RETURN : ℕ
OP_RETURN = 30

abbrev pub OP_FORLOOP : ℕ
OP_FORLOOP = 31

abbrev pub OP_FORPREP : ℕ
OP_FORPREP = 32

abbrev pub OP_TFORLOOP : ℕ
OP_TFORLOOP = 33

abbrev pub OP_SETLIST : ℕ
OP_SETLIST = 34

abbrev pub OP_CLOSE : ℕ
OP_CLOSE = 35

abbrev pub OP_CLOSURE : ℕ
OP_CLOSURE = 36

abbrev pub OP_VARARG : ℕ
OP_VARARG = 37

-- the numbers in order
abbrev pub op_numbers : List ℕ
op_numbers =
    OP_MOVE ∷ OP_LOADK ∷ OP_LOADBOOL ∷ OP_LOADNIL ∷ OP_GETUPVAL ∷ OP_GETGLOBAL ∷ OP_GETTABLE ∷ OP_SETGLOBAL
    ∷ OP_SETUPVAL ∷ OP_SETTABLE ∷ OP_NEWTABLE ∷ OP_SELF ∷ OP_ADD ∷ OP_SUB ∷ OP_MUL ∷ OP_DIV
    ∷ OP_MOD ∷ OP_POW ∷ OP_UNM ∷ OP_NOT ∷ OP_LEN ∷ OP_CONCAT ∷ OP_JMP ∷ OP_EQ
    ∷ OP_LT ∷ OP_LE ∷ OP_TEST ∷ OP_TESTSET ∷ OP_CALL ∷ OP_TAILCALL ∷ OP_RETURN ∷ OP_FORLOOP
    ∷ OP_FORPREP ∷ OP_TFORLOOP ∷ OP_SETLIST ∷ OP_CLOSE ∷ OP_CLOSURE ∷ OP_VARARG
    ∷ []

abbrev pub NUM_OPCODES : ℕ
NUM_OPCODES = 38

-- a number that is no opcode's stands for MOVE, as the Rust decides
abbrev pub or_move : ℕ → ℕ
or_move n = cond (ltb n NUM_OPCODES) n OP_MOVE

-- the opcode of an instruction
abbrev pub opcode : ℕ → ℕ
opcode i = or_move (GET_OPCODE i)

-- an opcode is one of these
abbrev pub among : ℕ → List ℕ → Bool
among op [] = false
among op (o ∷ l) = eqb op o || among op l

-- the opcodes that jump by sBx
abbrev pub jump_ops : List ℕ
jump_ops = OP_JMP ∷ OP_FORLOOP ∷ OP_FORPREP ∷ []

-- whether an opcode jumps
unfoldable pub is_jump : ℕ → Bool
is_jump op = among op jump_ops

-- ==== lopcodes.h, notes

-- "In OP_SETLIST, .. if (C == 0) then next `instruction' is real C"
abbrev pub next_is_c : ℕ → Bool
next_is_c i = eqb (opcode i) OP_SETLIST && eqb (GETARG_C i) 0

-- ==== lopcodes.c, luaP_opmodes and luaP_opnames

-- the bytes of an ASCII text
abbrev pub ascii : String → List ℕ
ascii String.[] = []
ascii (String.◌∷◌ c s) = code c ∷ ascii s

-- what stands in the tables of one opcode
pub record Row : Type 0 where
  pub modes : OpModes
  pub name : List ℕ

-- lopcodes.c's opmode(t, a, b, c, m), and the name
abbrev pub opmode : ℕ → ℕ → OpArgMask → OpArgMask → OpMode → String → Row
opmode t a b c m name =
    record {
      modes = record { mode = m; b_mode = b; c_mode = c; is_test_mode = eqb t 1; sets_register_a = eqb a 1 };
      name = ascii name;
    }

unfoldable pub opcodes : List Row
opcodes =
    --     T A B C mode name
    opmode 0 1 R N IABC "MOVE"
    ∷ opmode 0 1 K N IABx "LOADK"
    ∷ opmode 0 1 U U IABC "LOADBOOL"
    ∷ opmode 0 1 R N IABC "LOADNIL"
    ∷ opmode 0 1 U N IABC "GETUPVAL"
    ∷ opmode 0 1 K N IABx "GETGLOBAL"
    ∷ opmode 0 1 R K IABC "GETTABLE"
    ∷ opmode 0 0 K N IABx "SETGLOBAL"
    ∷ opmode 0 0 U N IABC "SETUPVAL"
    ∷ opmode 0 0 K K IABC "SETTABLE"
    ∷ opmode 0 1 U U IABC "NEWTABLE"
    ∷ opmode 0 1 R K IABC "SELF"
    ∷ opmode 0 1 K K IABC "ADD"
    ∷ opmode 0 1 K K IABC "SUB"
    ∷ opmode 0 1 K K IABC "MUL"
    ∷ opmode 0 1 K K IABC "DIV"
    ∷ opmode 0 1 K K IABC "MOD"
    ∷ opmode 0 1 K K IABC "POW"
    ∷ opmode 0 1 R N IABC "UNM"
    ∷ opmode 0 1 R N IABC "NOT"
    ∷ opmode 0 1 R N IABC "LEN"
    ∷ opmode 0 1 R R IABC "CONCAT"
    ∷ opmode 0 0 R N IAsBx "JMP"
    ∷ opmode 1 0 K K IABC "EQ"
    ∷ opmode 1 0 K K IABC "LT"
    ∷ opmode 1 0 K K IABC "LE"
    ∷ opmode 1 1 R U IABC "TEST"
    ∷ opmode 1 1 R U IABC "TESTSET"
    ∷ opmode 0 1 U U IABC "CALL"
    ∷ opmode 0 1 U U IABC "TAILCALL"
    ∷ opmode 0 0 U N IABC "RETURN"
    ∷ opmode 0 1 R N IAsBx "FORLOOP"
    ∷ opmode 0 1 R N IAsBx "FORPREP"
    ∷ opmode 0 0 N U IABC "TFORLOOP"
    ∷ opmode 0 0 U U IABC "SETLIST"
    ∷ opmode 0 0 N N IABC "CLOSE"
    ∷ opmode 0 1 U N IABx "CLOSURE"
    ∷ opmode 0 1 U U IABC "VARARG"
    ∷ []

-- no opcode's row
abbrev pub blank : Row
blank = opmode 0 0 N N IABC ""

-- a number's row, MOVE's where the number is no opcode's
abbrev pub row_of : ℕ → Row
row_of n = get_or opcodes (or_move n) blank

-- an opcode's attributes
abbrev pub op_modes : ℕ → OpModes
op_modes n = (row_of n).modes

-- an opcode's name
abbrev pub op_name : ℕ → List ℕ
op_name n = (row_of n).name

-- a name with spaces behind it, 9 bytes long
abbrev pub padded : List ℕ → List ℕ
padded name = name ++ replicate (9 - length name) 32

-- ==== the byte of luaP_opmodes, and lopcodes.h's macros that take it apart

-- enum OpMode
abbrev pub mode_of : ℕ → OpMode
mode_of n = get_or (IABC ∷ IABx ∷ []) n IAsBx

-- enum OpArgMask
abbrev pub arg_of : ℕ → OpArgMask
arg_of n = get_or (N ∷ U ∷ R ∷ []) n K

-- getOpMode, getBMode, getCMode, testTMode, testAMode
abbrev pub modes_of_byte : ℕ → OpModes
modes_of_byte m =
    record {
      mode = mode_of (field 0 2 m);
      b_mode = arg_of (field 4 2 m);
      c_mode = arg_of (field 2 2 m);
      is_test_mode = eqb (field 7 1 m) 1;
      sets_register_a = eqb (field 6 1 m) 1;
    }
