-- Where the lists of a function stand.
use Rattle.std.specs.Prelude.{ℕ, suc, ◌≡◌, List, Option, None, Some, get_or}
use Rattle.format.specs.Tree.{Parts, Functions}
use Rattle.format.specs.Store.{Piece, list, ints, string, constant_piece, local_piece, children_piece}
use Rattle.format.specs.Valid.{ValidAll}
use Rattle.proto.specs.Walk.{StandsAt, Past, Passes, total_all, to_code, to_constants, to_functions, to_lines, to_locals, to_upvalues}
use Rattle.proto.specs.declared.lists.Lists.{Lists}
use Rattle.proto.specs.declared.lists.Kept.{Kept}
use Rattle.proto.specs.declared.store.Store.{Store}
use Rattle.proto.specs.declared.walk.Next.{Next}

-- the piece stands at a place of the store
abbrev pub StandsIn : Store → ℕ → Piece → Type 0
StandsIn s at p = StandsAt s.words.now s.text.now at p

-- the lists of a function stand at their places, with this text, be it the store's or another
pub record ListsOver (text : List ℕ) (l : Lists) (p : Parts) (fs : Functions) : Type 0 where
  pub code : StandsAt l.store.words.now text l.code (ints p.code)
  pub constants : StandsAt l.store.words.now text l.constants (list constant_piece p.constants)
  pub functions : StandsAt l.store.words.now text l.functions (children_piece fs)
  pub lines : StandsAt l.store.words.now text l.lines (ints p.debug.lines)
  pub locals : StandsAt l.store.words.now text l.locals (list local_piece p.debug.locals)
  pub upvalues : StandsAt l.store.words.now text l.upvalues (list string p.debug.upvalues)

-- with the store's
abbrev pub ListsAt : Lists → Parts → Functions → Type 0
ListsAt l p fs = ListsOver l.store.text.now l p fs

-- where a function stands at a place, these are the places of its lists
pub record ListsFound (at : ℕ) (p : Parts) (fs : Functions) (l : Lists) : Type 0 where
  pub code : Past l.store.words.now (to_code p fs) at l.code
  pub constants : Past l.store.words.now (to_constants p fs) at l.constants
  pub functions : Past l.store.words.now (to_functions p fs) at l.functions
  pub lines : Past l.store.words.now (to_lines p fs) at l.lines
  pub locals : Past l.store.words.now (to_locals p fs) at l.locals
  pub upvalues : Past l.store.words.now (to_upvalues p fs) at l.upvalues

-- ---- the lines, behind the functions

-- the lines of the function at a place, in which so many functions are nested at most, stand at r
pub record LinesAt (words : List ℕ) (allowance at r : ℕ) : Type 0 where
  pub past : (p : Parts) (fs : Functions) → ValidAll fs allowance → Past words (to_lines p fs) at r

-- what is kept, for each allowance, is the place of a function and that of its lines
pub record LinesKept (words : List ℕ) (all : List (Option Kept)) : Type 0 where
  pub kept : (k : ℕ) (x : Kept) → get_or all k None ≡ Some x → LinesAt words k x.begin x.lines

-- what a walk through the functions in a function finds
abbrev pub WalksToLines : List ℕ → ℕ → Next → Next → Type 0
WalksToLines words allowance s r = (p : Parts) (fs : Functions) → ValidAll fs allowance → Passes words (to_lines p fs) (suc (total_all fs)) s r
