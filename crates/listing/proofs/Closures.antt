-- The number of the function that an instruction makes a closure of.
use Rattle.std.specs.Prelude.{Some, None}
use Rattle.lent.proofs.Prelude.{ℕ, ◌≤◌, ◌<◌, ◌≡◌, ap, arith}
use Rattle.format.specs.Tree.{count}
use Rattle.instructions.specs.Fields.{GETARG_Bx}
use Rattle.instructions.specs.OpCodes.{opcode, OP_CLOSURE}
use Rattle.proto.specs.declared.child.Children.{Children}
use Rattle.proto.specs.declared.walk.Next.{Next}
use Rattle.proto.specs.Children.{counted, ChildAt}
use Rattle.proto.proofs.Sublists.{here_get}
use Rattle.proto.proofs.Children.{child_stands}
use Rattle.listing.specs.Closures.{ClosureChild}

module _ {c : Children} {i : ℕ} where
  -- it is no CLOSURE
  pub closure_none : {op : ℕ} → op ≡ opcode i → (op ≡ OP_CLOSURE → ⊥) → ClosureChild c i None
  closure_none e n = record { is = λ text fs x v small. record { is = λ o l. absurd (n (rw e o)) } }

  module _ {bx : ℕ} (f : bx ≡ GETARG_Bx i) where
    -- there is no such function
    pub closure_past : counted c ≤ bx → ClosureChild c i None
    closure_past h = record { is = λ text fs x v small. record { is = λ o l. absurd (omega (arith, here_get (count fs) _ x.stands.in_words)) } }

    -- n is where it begins
    pub closure_found : {n : Next} → (bx < counted c) × ChildAt c bx n → ClosureChild c i (Some n.number)
    closure_found h = record { is = λ text fs x v small. record { is = λ o l. ap Some (rw (← f) ((child_stands fs x v h.0 h.1).numbered small)) } }
