-- A tree in lent memory: its words and its text (the scope's layout).
use Rattle.std.specs.Prelude.{ℕ, ◌+◌, ◌*◌, List, [], ◌∷◌, ◌++◌, cond, length}
use Rattle.format.specs.Tree.{Constant, Source, Local, Debug, Parts, Function, Functions, count}

-- a part of a store: text, and words, which name the place where their text stands
pub record Piece : Type 0 where
  pub words : ℕ → List ℕ
  pub text : List ℕ

-- words that name no text
abbrev pub plain : List ℕ → Piece
plain l = record { words = λ at. l; text = [] }

abbrev pub word : ℕ → Piece
word w = plain (w ∷ [])

infixr 5 ◌⊕◌
abbrev pub ◌⊕◌ : Piece → Piece → Piece
p ⊕ q = record { words = λ at. p.words at ++ q.words (at + length p.text); text = p.text ++ q.text }

-- a string's place and length
abbrev pub string : List ℕ → Piece
string s = record { words = λ at. at ∷ length s ∷ []; text = s }

-- pieces one after the other, and a list after its count
unfoldable pub pieces : {A : Type 0} → (A → Piece) → List A → Piece
pieces piece [] = plain []
pieces piece (a ∷ l) = piece a ⊕ pieces piece l

abbrev pub list : {A : Type 0} → (A → Piece) → List A → Piece
list piece l = word (length l) ⊕ pieces piece l

-- words after their count
abbrev pub ints : List ℕ → Piece
ints l = plain (length l ∷ l)

abbrev pub source_piece : Source → Piece
source_piece Source.inherited = plain (0 ∷ 0 ∷ 0 ∷ [])
source_piece (Source.own s) = word 1 ⊕ string s

abbrev pub constant_piece : Constant → Piece
constant_piece Constant.nil = plain (0 ∷ 0 ∷ 0 ∷ [])
constant_piece (Constant.bool b) = plain (1 ∷ cond b 1 0 ∷ 0 ∷ [])
constant_piece (Constant.num high low) = plain (3 ∷ high ∷ low ∷ [])
constant_piece (Constant.str s) = word 4 ⊕ string s

abbrev pub local_piece : Local → Piece
local_piece v = string v.name ⊕ word v.start ⊕ word v.end

abbrev pub debug_piece : Debug → Piece
debug_piece d = ints d.lines ⊕ list local_piece d.locals ⊕ list string d.upvalues

-- four bytes in a word, the most significant first
abbrev pub packed : Parts → ℕ
packed p = ((p.num_upvalues * 256 + p.num_params) * 256 + p.is_vararg) * 256 + p.max_stack_size

-- a function's record, in which its children stand as this piece
abbrev pub record_piece : Parts → Piece → Piece
record_piece p children =
    source_piece p.source
    ⊕ word p.line_defined
    ⊕ word p.last_line_defined
    ⊕ word (packed p)
    ⊕ ints p.code
    ⊕ list constant_piece p.constants
    ⊕ children
    ⊕ debug_piece p.debug

unfoldable mutual
  pub function_piece : Function → Piece
  function_piece (Function.function p fs) = record_piece p (word (count fs) ⊕ function_pieces fs)

  pub function_pieces : Functions → Piece
  function_pieces Functions.none = plain []
  function_pieces (Functions.more f fs) = function_piece f ⊕ function_pieces fs

-- the functions in a function, after their count
abbrev pub children_piece : Functions → Piece
children_piece fs = word (count fs) ⊕ function_pieces fs

-- the store of a tree
abbrev pub words_of : Function → List ℕ
words_of f = (function_piece f).words 0

abbrev pub text_of : Function → List ℕ
text_of f = (function_piece f).text
