-- The tests of one instruction, and the walk from one instruction to the next.
use Rattle.lent.proofs.Prelude.{ℕ, zero, suc, ◌+◌, ◌-◌, ◌≤◌, ◌<◌, ◌≡◌, sym, ap, ◌∙◌, List, true, false, cond, and-false, true≢false, arith, dec_lt, length, get_or, lt-ltb, le-ltb}
use Rattle.format.specs.Tree.{Function, Functions}
use Rattle.format.specs.Valid.{ValidAll}
use Rattle.format.specs.Store.{children_piece}
use Rattle.instructions.specs.Fields.{MAXARG_sBx, GETARG_Bx}
use Rattle.instructions.specs.OpCodes.{opcode}
use Rattle.proto.specs.Walk.{StandsAt, children}
use Rattle.proto.specs.declared.child.Children.{Children}
use Rattle.symbexec.specs.Operands.{Behind}
use Rattle.symbexec.specs.SymbExec.{biased, followed, operands, next_pc, after, writes, last_write}

-- ---- one instruction

module _ (op bx lastpc reg pc : ℕ) where
  -- a followed jump goes forward
  pub goes_forward : followed op bx lastpc reg pc ≡ true → pc + MAXARG_sBx < biased pc bx
  unfolding followed
  goes_forward h = elim (dec_lt (pc + MAXARG_sBx) (biased pc bx)) [
    | yes k ↦ k
    | no k ↦ absurd (true≢false (sym h ∙ simp (le-ltb (pc + MAXARG_sBx) (biased pc bx) (omega arith), and-false)))
  ]

  module _ (skipped : ℕ) {r : ℕ} where
    pub next_jump : followed op bx lastpc reg pc ≡ true → r ≡ biased pc bx - MAXARG_sBx → (r ≡ next_pc op bx skipped lastpc reg pc) × (pc < r)
    unfolding next_pc
    next_jump h e = (rw h e, omega (arith, goes_forward h))

    pub next_on : followed op bx lastpc reg pc ≡ false → r ≡ pc + 1 + skipped → (r ≡ next_pc op bx skipped lastpc reg pc) × (pc < r)
    unfolding next_pc
    next_on h e = (rw h e, omega arith)

-- ---- the walk

-- the search from pc on gives what the whole gives, with enough steps left
pub record SearchLeft (l : List ℕ) (fs : List Function) (lastpc reg last pc : ℕ) : Type 0 where
  pub left : ℕ
  pub enough : lastpc ≤ left + pc
  pub same : last_write l fs lastpc reg left pc last ≡ last_write l fs lastpc reg lastpc 0 (length l - 1)

module _ {l : List ℕ} {fs : List Function} {lastpc reg last pc : ℕ} where
  left_turn : pc < lastpc → {i last' pc' : ℕ} → i ≡ get_or l pc 0 → last' ≡ cond (writes i reg) pc last → pc' ≡ after fs lastpc reg pc i → pc < pc' → SearchLeft l fs lastpc reg last pc → SearchLeft l fs lastpc reg last' pc'
  unfolding last_write
  left_turn k {i} {last'} {pc'} e f g m x =
      (elim x.left as (λ n. lastpc ≤ n + pc → last_write l fs lastpc reg n pc last ≡ last_write l fs lastpc reg lastpc 0 (length l - 1) → SearchLeft l fs lastpc reg last' pc') [
        | zero ↦ λ h s. absurd (omega arith)
        | suc n ↦ λ h s. record { left = n; enough = omega arith; same = rw (f, g, e) (rw (lt-ltb pc lastpc k) at s) }
      ]) x.enough x.same

  left_end : lastpc ≤ pc → SearchLeft l fs lastpc reg last pc → last ≡ last_write l fs lastpc reg lastpc 0 (length l - 1)
  unfolding last_write
  left_end k x =
      (elim x.left as (λ n. last_write l fs lastpc reg n pc last ≡ last_write l fs lastpc reg lastpc 0 (length l - 1) → last ≡ last_write l fs lastpc reg lastpc 0 (length l - 1)) [
        | zero ↦ λ s. s
        | suc n ↦ λ s. rw (le-ltb pc lastpc k) at s
      ]) x.same

-- so for the functions that stand there, whichever they are; those looked up are these
pub record Traced (c : Children) (l : List ℕ) (lastpc reg last pc : ℕ) (of : Children) : Type 0 where
  pub same : of ≡ c
  pub traced : (text : List ℕ) (fs : Functions) → StandsAt c.words.now text c.list (children_piece fs) → ValidAll fs c.allowance → SearchLeft l (children fs) lastpc reg last pc

module _ {c : Children} {l : List ℕ} {lastpc reg : ℕ} where
  pub trace_start : {last : ℕ} {of : Children} → last ≡ length l - 1 → of ≡ c → Traced c l lastpc reg last 0 of
  trace_start f d = record { same = d; traced = λ text fs h v. record { left = lastpc; enough = omega arith; same = rw f } }

  pub trace_turn : {i last last' pc pc' n : ℕ} {of of' : Children} → pc < lastpc → i ≡ get_or l pc 0 → last' ≡ cond (writes i reg) pc last → of' ≡ of → Behind of (λ fs. operands fs i) n
      → (pc' ≡ next_pc (opcode i) (GETARG_Bx i) n lastpc reg pc) × (pc < pc') → Traced c l lastpc reg last pc of → Traced c l lastpc reg last' pc' of'
  trace_turn {i} {pc = pc} k e f d g m x =
      record {
        same = d ∙ x.same;
        traced = λ text fs h v. left_turn k e f (m.0 ∙ ap (λ (n : ℕ). next_pc (opcode i) (GETARG_Bx i) n lastpc reg pc) ((rw x.same at g).many text fs h v)) m.1 (x.traced text fs h v);
      }

  pub trace_end : {last pc : ℕ} {of : Children} → lastpc ≤ pc → Traced c l lastpc reg last pc of
      → (text : List ℕ) (fs : Functions) → StandsAt c.words.now text c.list (children_piece fs) → ValidAll fs c.allowance → last ≡ last_write l (children fs) lastpc reg lastpc 0 (length l - 1)
  trace_end k x text fs h v = left_end k (x.traced text fs h v)
