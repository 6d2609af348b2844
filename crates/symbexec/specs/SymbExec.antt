-- The last instruction that wrote a register (ldebug.c, symbexec; in the Rust, debug_info.rs).
use Rattle.std.specs.Prelude.{ℕ, zero, suc, ◌+◌, ◌-◌, List, Bool, false, cond, not, ◌&&◌, ◌||◌, length, get_or, eqb, leb, ltb}
use Rattle.std.proofs.Math.Option.{Option, none, some}
use Rattle.format.specs.Tree.{Function}
use Rattle.instructions.specs.Fields.{GETARG_A, GETARG_B, GETARG_Bx, MAXARG_sBx, NO_REG}
use Rattle.instructions.specs.OpCodes.{OP_LOADNIL, OP_SELF, OP_CALL, OP_TAILCALL, OP_TFORLOOP, OP_CLOSURE, is_jump, next_is_c, opcode, op_modes}
use Rattle.proto.specs.Walk.{item, children}

-- ---- what an instruction writes

-- beside A: LOADNIL writes up to B, SELF A + 1, a call all from A on, TFORLOOP all from A + 2 on
unfoldable pub also_writes : ℕ → ℕ → ℕ → ℕ → Bool
also_writes op a b reg =
    cond (eqb op OP_LOADNIL) (leb a reg && leb reg b)
    (cond (eqb op OP_SELF) (eqb reg (a + 1))
    (cond (eqb op OP_CALL || eqb op OP_TAILCALL) (leb a reg)
    (cond (eqb op OP_TFORLOOP) (leb (a + 2) reg) false)))

-- whether A is a register, and written
unfoldable pub sets_a : ℕ → ℕ → ℕ → Bool
sets_a op a reg = eqb a reg && (op_modes op).sets_register_a

-- whether an instruction writes a register
unfoldable pub writes : ℕ → ℕ → Bool
writes i reg = sets_a (opcode i) (GETARG_A i) reg || also_writes (opcode i) (GETARG_A i) (GETARG_B i) reg

-- ---- which instruction is next

-- a jump's destination, pc + 1 + sBx, with MAXARG_sBx added
abbrev pub biased : ℕ → ℕ → ℕ
biased pc bx = pc + 1 + bx

-- a jump is followed where reg != NO_REG and pc < dest and dest <= lastpc
unfoldable pub followed : ℕ → ℕ → ℕ → ℕ → ℕ → Bool
followed op bx lastpc reg pc =
    is_jump op && (not (eqb reg NO_REG) && (ltb (pc + MAXARG_sBx) (biased pc bx) && leb (biased pc bx) (lastpc + MAXARG_sBx)))

abbrev pub upvalues_of : Option Function → ℕ
upvalues_of none = 0
upvalues_of (some (Function.function p fs)) = p.num_upvalues

-- the words behind an instruction that are none: one for each upvalue of CLOSURE's function, SETLIST's count where C is 0
unfoldable pub operands : List Function → ℕ → ℕ
operands fs i = cond (eqb (opcode i) OP_CLOSURE) (upvalues_of (item fs (GETARG_Bx i))) (cond (next_is_c i) 1 0)

-- the next pc, where so many words are none
unfoldable pub next_pc : ℕ → ℕ → ℕ → ℕ → ℕ → ℕ → ℕ
next_pc op bx skipped lastpc reg pc = cond (followed op bx lastpc reg pc) (biased pc bx - MAXARG_sBx) (pc + 1 + skipped)

abbrev pub after : List Function → ℕ → ℕ → ℕ → ℕ → ℕ
after fs lastpc reg pc i = next_pc (opcode i) (GETARG_Bx i) (operands fs i) lastpc reg pc

-- ---- the search

-- the pc that wrote the register last, from pc on, where last did before; n bounds the steps
unfoldable pub last_write : List ℕ → List Function → ℕ → ℕ → ℕ → ℕ → ℕ → ℕ
last_write code fs lastpc reg zero pc last = last
last_write code fs lastpc reg (suc n) pc last =
    let i = get_or code pc 0 in
    cond (ltb pc lastpc) (last_write code fs lastpc reg n (after fs lastpc reg pc i) (cond (writes i reg) pc last)) last

-- at first the last instruction; a step goes on by one at least, so that lastpc bounds them
unfoldable pub symbexec : Function → ℕ → ℕ → ℕ
symbexec (Function.function p fs) lastpc reg = get_or p.code (last_write p.code (children fs) lastpc reg lastpc 0 (length p.code - 1)) 0
