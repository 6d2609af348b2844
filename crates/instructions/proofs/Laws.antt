-- Laws of the definitions. A made instruction holds the fields it was made of, and an instruction's own fields make it again:
-- both from one law of a field, over its position and size.
use mathlib.Core.Path.{◌≡◌, refl, ap, ◌∙◌}
use mathlib.Core.Bool.{Bool, true, false, cond}
use Prim.Native.Nat.{ℕ, suc, ◌+◌, ◌-◌, ◌*◌, ◌/◌, ◌%◌, ◌^◌, ◌≤◌, ◌<◌}
use native.Mathlib.Nat.{mod-lt, mod-eq_of_lt, one-mul, add_comm, add_right_comm}
use native.Mathlib.Omega.{arith}
use lib.Pow.{pow_pos, shl_exact, pow-lt, mod-pow-add, high, low}
use lib.IntN.{ℤ, pos, negsuc, neg_ℤ, ◌-ℤ◌}
use lib.Dec.{ltb, leb→le}
use lib.Signed.{◌≤ℤ◌}
use mir.Syntax.{w32}
use mir.Val.{of_z}
use borrow.Author.Tests.{lt-ltb, le-ltb, ltb-true, ltb-false}
use Rattle.instructions.specs.Fields.{SIZE_OP, SIZE_A, SIZE_B, SIZE_C, SIZE_Bx, POS_OP, POS_A, POS_B, POS_C, POS_Bx, MAXARG_Bx, MAXARG_sBx}
use Rattle.instructions.specs.Fields.{field, placed, GET_OPCODE, GETARG_A, GETARG_B, GETARG_C, GETARG_Bx, GETARG_sBx, CREATE_ABC, CREATE_ABx, CREATE_AsBx}
use Rattle.instructions.specs.OpCodes.{NUM_OPCODES, or_move}

-- ==== what an instruction is made of, it holds

-- 1 << k
pub one_shifted : (k : ℕ) → k < 32 → (1 * 2 ^ k) % 2 ^ 32 ≡ 2 ^ k
one_shifted k h = rw one-mul (mod-eq_of_lt (pow-lt h))

-- what is below 1 << size, shifted, stays below 2 ^ 32
pub placed_is : (from size x : ℕ) → size < 32 → size + from ≤ 32 → x % ((1 * 2 ^ size) % 2 ^ 32) * 2 ^ from % 2 ^ 32 ≡ placed from size x
placed_is from size x h k = rw (one_shifted size h) (shl_exact size from 32 (mod-lt x (pow_pos size)) k)

-- a field is what stands there, whatever stands above and below
read : (from size x above below : ℕ) {i : ℕ} → i ≡ (above * 2 ^ size + x % 2 ^ size) * 2 ^ from + below → below < 2 ^ from → field from size i ≡ x % 2 ^ size
read from size x above below e h =
    rw (e, high (above * 2 ^ size + x % 2 ^ size) from h) (low above size (mod-lt x (pow_pos size)))

pub record HoldsABC (o a b c i : ℕ) : Type 0 where
  pub opcode : GET_OPCODE i ≡ o % 2 ^ SIZE_OP
  pub arg_a : GETARG_A i ≡ a % 2 ^ SIZE_A
  pub arg_b : GETARG_B i ≡ b % 2 ^ SIZE_B
  pub arg_c : GETARG_C i ≡ c % 2 ^ SIZE_C
  pub word : i < 2 ^ 32

pub abc_holds : (o a b c : ℕ) → HoldsABC o a b c (CREATE_ABC o a b c)
abc_holds o a b c =
    record {
      opcode = read POS_OP SIZE_OP o (a % 256 + c % 512 * 256 + b % 512 * 131072) 0 (omega arith) (omega arith);
      arg_a = read POS_A SIZE_A a (c % 512 + b % 512 * 512) (o % 64) (omega arith) (omega arith);
      arg_b = read POS_B SIZE_B b 0 (o % 64 + a % 256 * 64 + c % 512 * 16384) (omega arith) (omega arith);
      arg_c = read POS_C SIZE_C c (b % 512) (o % 64 + a % 256 * 64) (omega arith) (omega arith);
      word = omega arith;
    }

pub record HoldsABx (o a bx i : ℕ) : Type 0 where
  pub opcode : GET_OPCODE i ≡ o % 2 ^ SIZE_OP
  pub arg_a : GETARG_A i ≡ a % 2 ^ SIZE_A
  pub arg_bx : GETARG_Bx i ≡ bx % 2 ^ SIZE_Bx
  pub word : i < 2 ^ 32

pub a_bx_holds : (o a bx : ℕ) → HoldsABx o a bx (CREATE_ABx o a bx)
a_bx_holds o a bx =
    record {
      opcode = read POS_OP SIZE_OP o (a % 256 + bx % 262144 * 256) 0 (omega arith) (omega arith);
      arg_a = read POS_A SIZE_A a (bx % 262144) (o % 64) (omega arith) (omega arith);
      arg_bx = read POS_Bx SIZE_Bx bx 0 (o % 64 + a % 256 * 64) (omega arith) (omega arith);
      word = omega arith;
    }

-- ==== what an instruction holds makes it again

-- a field on top of what stands below it
joined : (from size i : ℕ) {s : ℕ} → s ≡ i % 2 ^ from → s + placed from size (field from size i) ≡ i % 2 ^ (size + from)
joined from size i {s} e =
    rw (mod-eq_of_lt (mod-lt (i / 2 ^ from) (pow_pos size)), mod-pow-add i size from, ← e) (add_comm s _)

-- the opcode and A, with which each format begins
below_c : (i : ℕ) → placed POS_OP SIZE_OP (GET_OPCODE i) + placed POS_A SIZE_A (GETARG_A i) ≡ i % 2 ^ POS_C
below_c i = joined POS_A SIZE_A i (omega arith)

pub abc_own : (i : ℕ) → i < 2 ^ 32 → CREATE_ABC (GET_OPCODE i) (GETARG_A i) (GETARG_B i) (GETARG_C i) ≡ i
abc_own i h = add_right_comm _ _ _ ∙ joined POS_B SIZE_B i (joined POS_C SIZE_C i (below_c i)) ∙ mod-eq_of_lt h

pub a_bx_own : (i : ℕ) → i < 2 ^ 32 → CREATE_ABx (GET_OPCODE i) (GETARG_A i) (GETARG_Bx i) ≡ i
a_bx_own i h = joined POS_Bx SIZE_Bx i (below_c i) ∙ mod-eq_of_lt h

-- ==== sBx

-- sBx by the side of MAXARG-sBx on which Bx is
pub sbx_forward : (i : ℕ) → MAXARG_sBx ≤ GETARG_Bx i → GETARG_sBx i ≡ pos (GETARG_Bx i - MAXARG_sBx)
sbx_forward i h = rw (le-ltb (GETARG_Bx i) MAXARG_sBx h)

pub sbx_backward : (i : ℕ) → GETARG_Bx i < MAXARG_sBx → GETARG_sBx i ≡ negsuc (MAXARG_sBx - suc (GETARG_Bx i))
sbx_backward i h = rw (lt-ltb (GETARG_Bx i) MAXARG_sBx h)

-- in range, -131071 to 131072, it is held whole
pub a_sbx_holds : (o a : ℕ) (b : ℤ) → neg_ℤ (pos MAXARG_sBx) ≤ℤ b → b ≤ℤ pos (MAXARG_Bx - MAXARG_sBx) → GETARG_sBx (CREATE_AsBx o a b) ≡ b
a_sbx_holds o a (pos n) least most =
    let bound : n ≤ 131072 = leb→le _ _ most.le in
    let e : GETARG_Bx (CREATE_AsBx o a (pos n)) ≡ n + MAXARG_sBx = (a_bx_holds o a _).arg_bx ∙ mod-eq_of_lt (omega arith) in
    sbx_forward (CREATE_AsBx o a (pos n)) (omega (arith, e)) ∙ ap pos (omega (arith, e))
a_sbx_holds o a (negsuc n) least most =
    let bound : n ≤ 131070 = leb→le _ _ least.le in
    let e : GETARG_Bx (CREATE_AsBx o a (negsuc n)) ≡ MAXARG_sBx - suc n = (a_bx_holds o a _).arg_bx ∙ omega arith in
    sbx_backward (CREATE_AsBx o a (negsuc n)) (omega (arith, e)) ∙ ap negsuc (omega (arith, e))

-- Bx back from sBx
excess : (bx : ℕ) → bx < 2 ^ SIZE_Bx → (of_z w32 (pos bx -ℤ pos MAXARG_sBx) + MAXARG_sBx) % 2 ^ SIZE_Bx ≡ bx % 2 ^ SIZE_Bx
excess bx h = by (ltb bx MAXARG_sBx) refl
  where
    by : (t : Bool) → ltb bx MAXARG_sBx ≡ t → (of_z w32 (cond t (negsuc (MAXARG_sBx - suc bx)) (pos (bx - MAXARG_sBx))) + MAXARG_sBx) % 2 ^ SIZE_Bx ≡ bx % 2 ^ SIZE_Bx
    by true e = omega (arith, ltb-true)
    by false e = omega (arith, ltb-false)

pub a_sbx_own : (i : ℕ) → i < 2 ^ 32 → CREATE_AsBx (GET_OPCODE i) (GETARG_A i) (GETARG_sBx i) ≡ i
a_sbx_own i h = rw (excess (GETARG_Bx i) (mod-lt (i / 2 ^ POS_Bx) (pow_pos SIZE_Bx))) (a_bx_own i h)

-- ==== opcodes

pub opcode_known : (n : ℕ) → or_move n < NUM_OPCODES
opcode_known n = by (ltb n NUM_OPCODES) refl
  where
    by : (t : Bool) → ltb n NUM_OPCODES ≡ t → cond t n 0 < NUM_OPCODES
    by true e = omega (arith, ltb-true)
    by false e = omega arith
