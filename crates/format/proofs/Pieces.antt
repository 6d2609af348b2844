-- Pieces with the same words and the same text.
use Rattle.lent.proofs.Prelude.{ℕ, ◌≡◌, append_assoc, add_assoc, length-append}
use Rattle.format.specs.Store.{Piece, ◌⊕◌}

pub record Same (p q : Piece) : Type 0 where
  pub words : (to : ℕ) → p.words to ≡ q.words to
  pub text : p.text ≡ q.text

pub same_assoc : (p q r : Piece) → Same ((p ⊕ q) ⊕ r) (p ⊕ q ⊕ r)
same_assoc p q r = record { words = λ to. simp (append_assoc, length-append, add_assoc); text = simp append_assoc }
