-- The name of what a register holds (debug_info.rs; in Lua ldebug.c, and lfunc.c for locals).
use Rattle.std.specs.Prelude.{ℕ, zero, suc, ◌+◌, ◌-◌, ◌%◌, ◌^◌, List, [], ◌∷◌, Bool, true, false, cond, ◌&&◌, get_or, set, replicate, eqb, ltb}
use Rattle.std.proofs.Math.Option.{Option, none, some}
use Rattle.utf8.specs.Utf8.{repair}
use Rattle.instructions.specs.Fields.{GETARG_A, GETARG_B, GETARG_C, GETARG_Bx, ISK, INDEXK}
use Rattle.instructions.specs.OpCodes.{OP_MOVE, OP_GETUPVAL, OP_GETGLOBAL, OP_GETTABLE, OP_SELF, opcode}
use Rattle.format.specs.Tree.{Constant, Local, Parts, Function}
use Rattle.proto.specs.Walk.{item}
use Rattle.symbexec.specs.SymbExec.{symbexec}

-- what is known of a register: its kind, 0 where nothing is, and a name, empty where nothing is
pub record Object : Type 0 where
  pub kind : ℕ
  pub name : List ℕ

abbrev pub object : ℕ → List ℕ → Object
object kind name = record { kind = kind; name = name }

abbrev pub nothing : Object
nothing = object 0 []

abbrev pub local : List ℕ → Object
local name = object 1 name

abbrev pub global : List ℕ → Object
global name = object 2 name

abbrev pub field : List ℕ → Object
field name = object 3 name

abbrev pub upvalue : List ℕ → Object
upvalue name = object 4 name

abbrev pub method : List ℕ → Object
method name = object 5 name

-- the name of what has none: ?
abbrev pub unknown : List ℕ
unknown = 0x3f ∷ []

-- ---- get_local_name

-- the local that is number n of those active at pc, of those before the first that starts beyond it
unfoldable pub active_local : List Local → ℕ → ℕ → Object
active_local [] n pc = nothing
active_local (v ∷ l) n pc =
    cond (ltb pc v.start) nothing
    (cond (ltb pc v.end) (cond (eqb n 1) (local v.name) (active_local l (n - 1) pc)) (active_local l n pc))

-- pc is cut to 32 bits
unfoldable pub get_local_name : List Local → ℕ → ℕ → Object
get_local_name l n pc = active_local l n (pc % 2 ^ 32)

-- ---- kname

-- constant i, nil where there is none
abbrev pub or_nil : Option Constant → Constant
or_nil none = Constant.nil
or_nil (some k) = k

abbrev pub constant_at : List Constant → ℕ → Constant
constant_at l i = or_nil (item l i)

-- a string, repaired; ? for any other constant
abbrev pub constant_name : Constant → List ℕ
constant_name Constant.nil = unknown
constant_name (Constant.bool b) = unknown
constant_name (Constant.num high low) = unknown
constant_name (Constant.str s) = repair s

-- the name of an RK operand: its constant's, or ?
unfoldable pub kname : List Constant → ℕ → List ℕ
kname l c = cond (ISK c) (constant_name (constant_at l (INDEXK c))) unknown

-- ---- getobjname

-- a global, where its name is a string
abbrev pub global_of : Constant → Object
global_of Constant.nil = nothing
global_of (Constant.bool b) = nothing
global_of (Constant.num high low) = nothing
global_of (Constant.str s) = global (repair s)

abbrev pub upvalue_name : Option (List ℕ) → List ℕ
upvalue_name none = unknown
upvalue_name (some s) = s

-- what an instruction other than MOVE wrote
unfoldable pub wrote : Parts → ℕ → Object
wrote p i =
    cond (eqb (opcode i) OP_GETGLOBAL) (global_of (constant_at p.constants (GETARG_Bx i)))
    (cond (eqb (opcode i) OP_GETTABLE) (field (kname p.constants (GETARG_C i)))
    (cond (eqb (opcode i) OP_GETUPVAL) (upvalue (upvalue_name (item p.debug.upvalues (GETARG_B i))))
    (cond (eqb (opcode i) OP_SELF) (method (kname p.constants (GETARG_C i))) nothing)))

-- MOVE with B below A
unfoldable pub moves_up : ℕ → Bool
moves_up i = eqb (opcode i) OP_MOVE && ltb (GETARG_B i) (GETARG_A i)

-- the first, or the second where nothing is known
abbrev pub or_else : Object → Object → Object
or_else a b = cond (eqb a.kind 0) b a

-- the object in a register at pc: a local, what the last instruction wrote, or what is in the register that it moved.
-- Nothing where the register was searched before; n bounds how many are searched
unfoldable pub searched : Function → ℕ → ℕ → ℕ → List Bool → Object
searched f pc zero reg before = nothing
searched (Function.function p fs) pc (suc n) reg before =
    let i = symbexec (Function.function p fs) pc reg in
    cond (get_or before reg false) nothing
    (or_else (get_local_name p.debug.locals (reg + 1) pc)
    (cond (moves_up i) (searched (Function.function p fs) pc n (GETARG_B i) (set before reg true)) (wrote p i)))

-- there are 256 registers
abbrev pub getobjname : Function → ℕ → ℕ → Object
getobjname f pc reg = searched f pc 256 reg (replicate 256 false)
