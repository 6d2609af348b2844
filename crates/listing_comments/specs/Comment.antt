-- The comment of an instruction: that part of format_code in listing.rs. Where the scope decides: an address is # and the function's number.
use Rattle.std.specs.Prelude.{ℕ, ◌+◌, Bool, cond, ◌||◌, List, [], ◌∷◌, ◌++◌, eqb, ltb}
use Rattle.std.proofs.Math.Option.{Option, none, some}
use Rattle.digits.specs.Digits.{decimal}
use Rattle.format.specs.Tree.{Constant, Parts, Functions, count}
use Rattle.listing_operands.specs.Operands.{format_constant, format_constant_raw, difference}
use Rattle.proto.specs.Walk.{item}
use Rattle.proto.specs.Children.{child_number}
use Rattle.instructions.specs.Fields.{MAXARG_sBx, GETARG_B, GETARG_C, GETARG_Bx, ISK, INDEXK}
use Rattle.instructions.specs.OpCodes.{ascii, among, is_jump}
use Rattle.instructions.specs.OpCodes.{OP_LOADK, OP_GETUPVAL, OP_GETGLOBAL, OP_GETTABLE, OP_SETGLOBAL, OP_SETUPVAL, OP_SETTABLE, OP_SELF, OP_ADD, OP_SUB, OP_MUL, OP_DIV, OP_MOD, OP_POW, OP_EQ, OP_LT, OP_LE, OP_SETLIST, OP_CLOSURE, OP_VARARG}

-- a function by its number in preorder, for its address
abbrev pub address : ℕ → List ℕ
address n = ascii "#" ++ decimal n

abbrev pub comment : List ℕ → List ℕ
comment t = ascii "\t; " ++ t

abbrev pub when : Bool → List ℕ → List ℕ
when b t = cond b t []

-- the opcodes with two operands that may be constants
abbrev pub operand_ops : List ℕ
operand_ops = OP_SETTABLE ∷ OP_ADD ∷ OP_SUB ∷ OP_MUL ∷ OP_DIV ∷ OP_MOD ∷ OP_POW ∷ OP_EQ ∷ OP_LT ∷ OP_LE ∷ []

abbrev pub upvalue_text : Option (List ℕ) → List ℕ
upvalue_text none = ascii "-"
upvalue_text (some name) = name

-- the constant of an operand, - for a register
abbrev pub operand_constant : List Constant → ℕ → List ℕ
operand_constant constants x = cond (ISK x) (format_constant constants (INDEXK x)) (ascii "-")

-- where a jump goes: sbx + pc + 2
abbrev pub jump_target : ℕ → ℕ → List ℕ
jump_target pc i = difference (GETARG_Bx i + pc + 2) MAXARG_sBx

-- SETLIST: C, or the word behind the instruction, where there is one
abbrev pub extra_text : Option ℕ → List ℕ
extra_text none = []
extra_text (some w) = comment (decimal w)

abbrev pub format_set_list : List ℕ → ℕ → ℕ → List ℕ
format_set_list code pc c = cond (eqb c 0) (extra_text (item code (pc + 1))) (comment (decimal c))

-- the comment of instruction i at pc by its opcode, in the function p with the functions fs in it and with this number
unfoldable pub format_comment : ℕ → Parts → Functions → ℕ → ℕ → ℕ → List ℕ
format_comment op p fs number pc i =
    cond (eqb op OP_LOADK) (comment (format_constant p.constants (GETARG_Bx i)))
    (cond (among op (OP_GETUPVAL ∷ OP_SETUPVAL ∷ [])) (comment (upvalue_text (item p.debug.upvalues (GETARG_B i))))
    (cond (among op (OP_GETGLOBAL ∷ OP_SETGLOBAL ∷ [])) (comment (format_constant_raw p.constants (GETARG_Bx i)))
    (cond (among op (OP_GETTABLE ∷ OP_SELF ∷ [])) (when (ISK (GETARG_C i)) (comment (format_constant p.constants (INDEXK (GETARG_C i)))))
    (cond (among op operand_ops)
    (when (ISK (GETARG_B i) || ISK (GETARG_C i)) (comment (operand_constant p.constants (GETARG_B i) ++ ascii " " ++ operand_constant p.constants (GETARG_C i))))
    (cond (is_jump op) (comment (ascii "to " ++ jump_target pc i))
    (cond (eqb op OP_CLOSURE) (when (ltb (GETARG_Bx i) (count fs)) (comment (address (child_number number fs (GETARG_Bx i)))))
    (cond (eqb op OP_SETLIST) (format_set_list p.code pc (GETARG_C i))
    (cond (eqb op OP_VARARG) (comment (ascii "is_vararg"))
    []))))))))
