-- Where the pieces of a tree stand in a store, and which place is behind them.
use Rattle.std.specs.Prelude.{ℕ, zero, suc, ◌+◌, ◌*◌, ◌≤◌, ◌<◌, min, ◌≡◌, List, [], ◌∷◌, length, get_or, Option as Answer, Some, None}
use Rattle.std.proofs.Math.Option.{Option, none, some}
use Rattle.lent.specs.Memory.{far}
use Rattle.format.specs.declared.Span.{Span}
use Rattle.format.specs.Tree.{Source, Parts, Function, Functions, count}
use Rattle.format.specs.Store.{Piece, word, ◌⊕◌, list, ints, source_piece, constant_piece, local_piece, packed, function_pieces, children_piece}
use Rattle.format.specs.Stored.{Here}
use Rattle.format.specs.Valid.{ValidAll}
use Rattle.proto.specs.declared.walk.Next.{Next}

-- the piece stands in the words at a place, its text at a place of the text
pub record Stands (words text : List ℕ) (at to : ℕ) (p : Piece) : Type 0 where
  pub in_words : Here words at (p.words to)
  pub in_text : Here text to p.text

-- and its text somewhere
pub record StandsAt (words text : List ℕ) (at : ℕ) (p : Piece) : Type 0 where
  pub to : ℕ
  pub stands : Stands words text at to p

-- where a source stands whose text is at a place: none where it is inherited
abbrev pub own_place : ℕ → Source → Answer Span
own_place to Source.inherited = None
own_place to (Source.own s) = Some (record { start = to; len = length s })

-- item i of a list
unfoldable pub item : {A : Type 0} → List A → ℕ → Option A
item [] i = none
item (a ∷ l) zero = some a
item (a ∷ l) (suc i) = item l i

-- where n words stand, r is behind them
pub record Skips (words : List ℕ) (n at r : ℕ) : Type 0 where
  pub skips : (l : List ℕ) → length l ≡ n → Here words at l → r ≡ at + n

-- where a count stands, and as many items of k words, r is behind them
pub record SkipsItems (words : List ℕ) (k at r : ℕ) : Type 0 where
  pub skips : (n : ℕ) (l : List ℕ) → length l ≡ k * n → Here words at (n ∷ l) → r ≡ at + (1 + k * n)

-- item i of the list at a place, whose items have k words, begins at r, and with none there are no more than i
abbrev pub NthAt : List ℕ → ℕ → ℕ → ℕ → Answer ℕ → Type 0
NthAt words list k i None = get_or words list 0 ≤ i
NthAt words list k i (Some r) = (i < get_or words list 0) × Skips words (1 + k * i) list r

-- where the piece stands, r is behind it
pub record Past (words : List ℕ) (p : Piece) (at r : ℕ) : Type 0 where
  pub past : (to : ℕ) → Here words at (p.words to) → r ≡ at + length (p.words to)

-- how many functions a tree has
unfoldable mutual
  pub total : Function → ℕ
  total (Function.function p fs) = suc (total_all fs)

  pub total_all : Functions → ℕ
  total_all Functions.none = 0
  total_all (Functions.more f fs) = total f + total_all fs

-- in those before item i
unfoldable pub total_before : Functions → ℕ → ℕ
total_before Functions.none i = 0
total_before (Functions.more f fs) zero = 0
total_before (Functions.more f fs) (suc i) = total f + total_before fs i

-- where the piece stands, which holds n functions, r is behind it; numbers stop at the farthest
pub record Passes (words : List ℕ) (p : Piece) (n : ℕ) (s r : Next) : Type 0 where
  pub passes : (to : ℕ) → Here words s.at (p.words to) → (r.at ≡ s.at + length (p.words to)) × (s.number ≤ far → r.number ≡ min (s.number + n) far)

-- r is behind n functions, whichever they are, that begin at s
pub record PassesAll (words : List ℕ) (allowance n : ℕ) (s r : Next) : Type 0 where
  pub all : (fs : Functions) → ValidAll fs allowance → count fs ≡ n → Passes words (function_pieces fs) (total_all fs) s r

-- ---- a function up to each of its lists

abbrev pub to_code : Parts → Functions → Piece
to_code p fs = source_piece p.source ⊕ word p.line_defined ⊕ word p.last_line_defined ⊕ word (packed p)

abbrev pub to_constants : Parts → Functions → Piece
to_constants p fs = to_code p fs ⊕ ints p.code

abbrev pub to_functions : Parts → Functions → Piece
to_functions p fs = to_constants p fs ⊕ list constant_piece p.constants

-- the functions in a function, as a list
unfoldable pub children : Functions → List Function
children Functions.none = []
children (Functions.more f fs) = f ∷ children fs

abbrev pub to_lines : Parts → Functions → Piece
to_lines p fs = to_functions p fs ⊕ children_piece fs

abbrev pub to_locals : Parts → Functions → Piece
to_locals p fs = to_lines p fs ⊕ ints p.debug.lines

abbrev pub to_upvalues : Parts → Functions → Piece
to_upvalues p fs = to_locals p fs ⊕ list local_piece p.debug.locals
