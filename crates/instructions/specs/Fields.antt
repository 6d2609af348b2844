-- The instruction format of Lua 5.1, from lopcodes.h: the names and their order are that file's, with - for _.
use Rattle.std.specs.Prelude.{ℕ, ◌+◌, ◌-◌, ◌*◌, ◌/◌, ◌%◌, ◌^◌, Bool, eqb, ℤ, pos, ◌-ℤ◌}
use Rattle.std.specs.Int.{w32}
use Rattle.std.proofs.Common.{of_z}

-- ==== size and position of opcode arguments

abbrev pub SIZE_C : ℕ
SIZE_C = 9

abbrev pub SIZE_B : ℕ
SIZE_B = 9

abbrev pub SIZE_Bx : ℕ
SIZE_Bx = SIZE_C + SIZE_B

abbrev pub SIZE_A : ℕ
SIZE_A = 8

abbrev pub SIZE_OP : ℕ
SIZE_OP = 6

abbrev pub POS_OP : ℕ
POS_OP = 0

abbrev pub POS_A : ℕ
POS_A = POS_OP + SIZE_OP

abbrev pub POS_C : ℕ
POS_C = POS_A + SIZE_A

abbrev pub POS_B : ℕ
POS_B = POS_C + SIZE_C

abbrev pub POS_Bx : ℕ
POS_Bx = POS_C

-- ==== limits for opcode arguments

abbrev pub MAXARG_Bx : ℕ
MAXARG_Bx = 2 ^ SIZE_Bx - 1

abbrev pub MAXARG_sBx : ℕ
MAXARG_sBx = MAXARG_Bx / 2

abbrev pub MAXARG_A : ℕ
MAXARG_A = 2 ^ SIZE_A - 1

-- ==== instruction manipulation

-- the size bits of i that begin at bit from
abbrev pub field : ℕ → ℕ → ℕ → ℕ
field from size i = i / 2 ^ from % 2 ^ size

-- the size low bits of x, moved to bit from
abbrev pub placed : ℕ → ℕ → ℕ → ℕ
placed from size x = x % 2 ^ size * 2 ^ from

abbrev pub GET_OPCODE : ℕ → ℕ
GET_OPCODE i = field POS_OP SIZE_OP i

abbrev pub GETARG_A : ℕ → ℕ
GETARG_A i = field POS_A SIZE_A i

abbrev pub GETARG_B : ℕ → ℕ
GETARG_B i = field POS_B SIZE_B i

abbrev pub GETARG_C : ℕ → ℕ
GETARG_C i = field POS_C SIZE_C i

abbrev pub GETARG_Bx : ℕ → ℕ
GETARG_Bx i = field POS_Bx SIZE_Bx i

abbrev pub GETARG_sBx : ℕ → ℤ
GETARG_sBx i = pos (GETARG_Bx i) -ℤ pos MAXARG_sBx

-- each argument cut to its size, as the Rust does
abbrev pub CREATE_ABC : ℕ → ℕ → ℕ → ℕ → ℕ
CREATE_ABC o a b c = placed POS_OP SIZE_OP o + placed POS_A SIZE_A a + placed POS_B SIZE_B b + placed POS_C SIZE_C c

abbrev pub CREATE_ABx : ℕ → ℕ → ℕ → ℕ
CREATE_ABx o a bc = placed POS_OP SIZE_OP o + placed POS_A SIZE_A a + placed POS_Bx SIZE_Bx bc

-- with SETARG_sBx. of_z w32 b is b's 32 bits; where the sum wraps at 32 bits, its low ones, which Bx takes, are the same
abbrev pub CREATE_AsBx : ℕ → ℕ → ℤ → ℕ
CREATE_AsBx o a b = CREATE_ABx o a (of_z w32 b + MAXARG_sBx)

-- ==== macros to operate RK indices

-- this bit 1 means constant (0 means register)
abbrev pub BITRK : ℕ
BITRK = 2 ^ (SIZE_B - 1)

-- that bit of x, of 32 bits
abbrev pub mark : ℕ → ℕ
mark x = field (SIZE_B - 1) 1 x

-- test whether value is a constant
abbrev pub ISK : ℕ → Bool
ISK x = eqb (mark x) 1

-- gets the index of the constant: that bit cleared, and no other
abbrev pub INDEXK : ℕ → ℕ
INDEXK r = r - mark r * BITRK

-- code a constant index as a RK value: that bit set
abbrev pub RKASK : ℕ → ℕ
RKASK x = INDEXK x + BITRK

-- invalid register that fits in 8 bits
abbrev pub NO_REG : ℕ
NO_REG = MAXARG_A
