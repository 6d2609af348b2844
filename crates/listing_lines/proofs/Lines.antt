-- The length of an opcode's name.
use Rattle.lent.proofs.Prelude.{ℕ, zero, suc, ◌≡◌, refl, Bool, true, false, ◌&&◌, List, [], ◌∷◌, arith, length, get_or, eqb, eqb-true}
use Rattle.digits.specs.Room.{Width}
use Rattle.instructions.specs.OpCodes.{Row, blank, opcodes, or_move, op_name, padded}

-- ---- a padded name is 9 bytes long

-- by a test of every row
nine : List Row → Bool
nine [] = true
nine (r ∷ rows) = eqb 9 (length (padded r.name)) && nine rows

nine_at : (rows : List Row) (k : ℕ) → nine rows ≡ true → 9 ≡ length (padded (get_or rows k blank).name)
unfolding nine
nine_at [] k h = refl
nine_at (r ∷ rows) k h = by (eqb 9 (length (padded r.name))) refl h k (nine_at rows) where
  by : (b : Bool) → eqb 9 (length (padded r.name)) ≡ b → (b && nine rows) ≡ true → (j : ℕ) → ((j : ℕ) → nine rows ≡ true → 9 ≡ length (padded (get_or rows j blank).name)) → 9 ≡ length (padded (get_or (r ∷ rows) j blank).name)
  by true e g zero f = eqb-true 9 (length (padded r.name)) e
  by true e g (suc j) f = f j g
  by false e g j f = absurd (let z : ◌≡◌ {A = ℕ} 0 1 = cc in omega arith)

name_length : (op : ℕ) → 9 ≡ length (padded (op_name op))
unfolding opcodes nine
name_length op = nine_at opcodes (or_move op) refl

pub name_width : (op : ℕ) → Width (padded (op_name op)) 9 9
name_width op = record { is = name_length op; upto = omega arith }
