-- How many words a piece has does not depend on where its text stands.
use Rattle.lent.proofs.Prelude.{ℕ, ◌+◌, ◌≡◌, refl, sym, ap, ◌∙◌, List, [], ◌∷◌, length, length-append}
use Rattle.format.specs.Tree.{Debug, Parts, Function, Functions, count}
use Rattle.format.specs.Store.{Piece, plain, ◌⊕◌, pieces, list, source_piece, debug_piece, packed, function_piece, function_pieces}
use Rattle.format.specs.declared.StoredItem.{Ghosts}
use Rattle.format.specs.contracts.ConstantsStoredItem.TheImpl.{ghosts as Constants}
use Rattle.format.specs.contracts.LocalsStoredItem.TheImpl.{ghosts as Locals}
use Rattle.format.specs.contracts.NamesStoredItem.TheImpl.{ghosts as Names}
use Rattle.proto.specs.Walk.{to_functions, to_lines, to_locals}
use Rattle.proto.proofs.Pieces.{Same, source_words, function_debug}

pub record Steady (p : Piece) : Type 0 where
  pub steady : (a b : ℕ) → length (p.words a) ≡ length (p.words b)

infixr 5 ◌⊞◌
◌⊞◌ : {p q : Piece} → Steady p → Steady q → Steady (p ⊕ q)
◌⊞◌ {p} {q} s t =
    record { steady = λ a b. length-append (p.words a) _ ∙ rw (s.steady a b, t.steady (a + length p.text) (b + length p.text)) (sym (length-append (p.words b) _)) }

same_steady : {p q : Piece} → Same p q → Steady q → Steady p
same_steady e s = record { steady = λ a b. ap length (e.words a) ∙ s.steady a b ∙ sym (ap length (e.words b)) }

plain_steady : (l : List ℕ) → Steady (plain l)
plain_steady l = record { steady = λ a b. refl }

list_steady : {Self : Type 0} (T : Ghosts Self) (l : List T.Value) → Steady (list T.piece l)
unfolding pieces
list_steady T l = plain_steady (length l ∷ []) ⊞ go l
  where
    go : (l : List T.Value) → Steady (pieces T.piece l)
    go [] = plain_steady []
    go (v ∷ l) = record { steady = λ a b. T.size v a ∙ sym (T.size v b) } ⊞ go l

to_functions_law : (p : Parts) (fs : Functions) → Steady (to_functions p fs)
to_functions_law p fs =
    let source : Steady (source_piece p.source) = record { steady = λ a b. source_words p.source a ∙ sym (source_words p.source b) } in
    let head = source ⊞ plain_steady (p.line_defined ∷ []) ⊞ plain_steady (p.last_line_defined ∷ []) ⊞ plain_steady (packed p ∷ []) in
    (head ⊞ plain_steady (length p.code ∷ p.code)) ⊞ list_steady Constants p.constants

debug_steady : (d : Debug) → Steady (debug_piece d)
debug_steady d =
    plain_steady (length d.lines ∷ d.lines) ⊞ list_steady Locals d.locals ⊞ list_steady Names d.upvalues

-- the functions in a function, after their count
counted : (p : Parts) (fs : Functions) → Steady (function_pieces fs) → Steady (to_lines p fs)
counted p fs s = to_functions_law p fs ⊞ plain_steady (count fs ∷ []) ⊞ s

mutual
  unfolding function_pieces

  pub function_steady : (f : Function) → Steady (function_piece f)
  function_steady (Function.function p fs) = same_steady (function_debug p fs) (counted p fs (functions_steady fs) ⊞ debug_steady p.debug)

  functions_steady : (fs : Functions) → Steady (function_pieces fs)
  functions_steady Functions.none = plain_steady []
  functions_steady (Functions.more f fs) = function_steady f ⊞ functions_steady fs

pub locals_steady : (p : Parts) (fs : Functions) → Steady (to_locals p fs)
locals_steady p fs = counted p fs (functions_steady fs) ⊞ plain_steady (length p.debug.lines ∷ p.debug.lines)
