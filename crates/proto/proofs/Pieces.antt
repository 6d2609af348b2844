-- Pieces that stand in a store one behind the other, and their lengths.
use Rattle.lent.proofs.Prelude.{ℕ, ◌+◌, ◌*◌, ◌≡◌, refl, sym, ◌∙◌, List, [], ◌∷◌, append_assoc, arith, add_assoc, mul-zero, mul-suc, length, length-append}
use Rattle.format.specs.Tree.{Source, Parts, Function, Functions}
use Rattle.format.specs.Store.{Piece, word, ◌⊕◌, pieces, list, ints, source_piece, constant_piece, debug_piece, packed, function_piece, children_piece}
pub use Rattle.format.proofs.Pieces.{Same, same_assoc}
use Rattle.format.proofs.Stored.{here_left, here_right}
use Rattle.proto.specs.Walk.{Stands, to_lines}
use Rattle.proto.proofs.Sublists.{here_join}

-- ---- two pieces that read the same

pub same_refl : {p : Piece} → Same p p
same_refl = record { words = λ to. refl; text = refl }

pub same_is : {p q : Piece} → p ≡ q → Same p q
same_is e = rw e same_refl

pub same_sym : {p q : Piece} → Same p q → Same q p
same_sym s = record { words = λ to. sym (s.words to); text = sym s.text }

pub same_trans : {p q r : Piece} → Same p q → Same q r → Same p r
same_trans s t = record { words = λ to. s.words to ∙ t.words to; text = s.text ∙ t.text }

pub same_behind : (p : Piece) {q r : Piece} → Same q r → Same (p ⊕ q) (p ⊕ r)
same_behind p s = record { words = λ to. rw (s.words (to + length p.text)); text = rw s.text }

regroup : (s a b c code ks fs d : Piece) → Same (s ⊕ a ⊕ b ⊕ c ⊕ code ⊕ ks ⊕ fs ⊕ d) (((((s ⊕ a ⊕ b ⊕ c) ⊕ code) ⊕ ks) ⊕ fs) ⊕ d)
regroup s a b c code ks fs d = record { words = λ to. simp (append_assoc, length-append, add_assoc); text = simp append_assoc }

-- a function is what it is up to its debug lists, and these
pub function_debug : (p : Parts) (fs : Functions) → Same (function_piece (Function.function p fs)) (to_lines p fs ⊕ debug_piece p.debug)
unfolding function_piece
function_debug p fs =
    regroup (source_piece p.source) (word p.line_defined) (word p.last_line_defined) (word (packed p)) (ints p.code) (list constant_piece p.constants) (children_piece fs) (debug_piece p.debug)

-- ---- one behind the other

module _ {words text : List ℕ} {at to : ℕ} where
  pub stands_same : {p q : Piece} → Same p q → Stands words text at to p → Stands words text at to q
  stands_same s h = record { in_words = rw (s.words to) at h.in_words; in_text = rw s.text at h.in_text }

  pub stands_left : (p q : Piece) → Stands words text at to (p ⊕ q) → Stands words text at to p
  stands_left p q h =
      record { in_words = here_left (p.words to) (q.words (to + length p.text)) h.in_words; in_text = here_left p.text q.text h.in_text }

  pub stands_right : (p q : Piece) → Stands words text at to (p ⊕ q) → Stands words text (at + length (p.words to)) (to + length p.text) q
  stands_right p q h =
      record { in_words = here_right (p.words to) (q.words (to + length p.text)) h.in_words; in_text = here_right p.text q.text h.in_text }

  pub stands_join : (p q : Piece) → Stands words text at to p → Stands words text (at + length (p.words to)) (to + length p.text) q → Stands words text at to (p ⊕ q)
  stands_join p q h k = record { in_words = here_join (p.words to) _ h.in_words k.in_words; in_text = here_join p.text _ h.in_text k.in_text }

-- ---- how many words

pub source_words : (s : Source) (to : ℕ) → length ((source_piece s).words to) ≡ 3
source_words Source.inherited to = refl
source_words (Source.own s) to = refl

pub pieces_words : {A : Type 0} (piece : A → Piece) (k : ℕ) → ((a : A) (to : ℕ) → length ((piece a).words to) ≡ k) → (l : List A) (to : ℕ) → length ((pieces piece l).words to) ≡ k * length l
unfolding pieces
pieces_words piece k e [] to = sym (mul-zero k)
pieces_words piece k e (a ∷ l) to =
    length-append ((piece a).words to) _ ∙ rw (e a to, pieces_words piece k e l (to + length (piece a).text), mul-suc k (length l)) (omega arith)
