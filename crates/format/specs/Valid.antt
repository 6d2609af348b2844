-- A well-formed tree, the store that holds it, and when two stores hold one tree.
use Rattle.std.specs.Prelude.{ℕ, zero, suc, ◌≤◌, ◌≡◌, List, true, length}
use Rattle.lent.specs.Memory.{Every, Byte, Word, Bytes}
use Rattle.utf8.specs.Utf8.{is_utf8}
use Rattle.format.specs.Tree.{Constant, Source, Local, Debug, Parts, Function, Functions, count, fill}
use Rattle.format.specs.Read.{limit}
use Rattle.format.specs.Store.{words_of, text_of}

-- the most functions nested, the root being 1
abbrev pub depth : ℕ
depth = 200

-- the most words, and the most text bytes
abbrev pub most : ℕ
most = 16777216

abbrev pub Name : List ℕ → Type 0
Name s = is_utf8 s ≡ true

abbrev pub ValidSource : Source → Type 0
ValidSource Source.inherited = Unit {0}
ValidSource (Source.own s) = Name s

abbrev pub ValidConstant : Constant → Type 0
ValidConstant Constant.nil = Unit {0}
ValidConstant (Constant.bool b) = Unit {0}
ValidConstant (Constant.num high low) = Word high × Word low
ValidConstant (Constant.str s) = Bytes s

pub record ValidLocal (v : Local) : Type 0 where
  pub name : Name v.name
  pub start : Word v.start
  pub end : Word v.end

-- a list of well-formed items, no longer than the limit
pub record ValidList {A : Type 0} (P : A → Type 0) (l : List A) : Type 0 where
  pub items : Every P l
  pub short : length l ≤ limit

pub record ValidDebug (d : Debug) : Type 0 where
  pub lines : ValidList Word d.lines
  pub locals : ValidList ValidLocal d.locals
  pub upvalues : ValidList Name d.upvalues

pub record ValidParts (p : Parts) : Type 0 where
  pub source : ValidSource p.source
  pub line_defined : Word p.line_defined
  pub last_line_defined : Word p.last_line_defined
  pub num_upvalues : Byte p.num_upvalues
  pub num_params : Byte p.num_params
  pub is_vararg : Byte p.is_vararg
  pub max_stack_size : Byte p.max_stack_size
  pub code : ValidList Word p.code
  pub constants : ValidList ValidConstant p.constants
  pub debug : ValidDebug p.debug

-- well formed, with at most so many functions nested
unfoldable mutual
  pub Valid : Function → ℕ → Type 0
  Valid (Function.function p fs) zero = ⊥
  Valid (Function.function p fs) (suc allowance) = ValidParts p × (count fs ≤ limit) × ValidAll fs allowance

  pub ValidAll : Functions → ℕ → Type 0
  ValidAll Functions.none allowance = Unit {0}
  ValidAll (Functions.more f fs) allowance = Valid f allowance × ValidAll fs allowance

-- the store is well formed and holds the tree
pub record Holds (words text : List ℕ) (f : Function) : Type 0 where
  pub valid : Valid f depth
  pub words_are : words_of f ≡ words
  pub text_is : text_of f ≡ text
  pub words_fit : length words ≤ most
  pub text_fits : length text ≤ most

-- two stores, each under its chunk name, hold one tree: with inherited sources filled in, their trees are the same
pub record HoldOne (words text name words' text' name' : List ℕ) : Type 0 where
  pub tree : Function
  pub tree' : Function
  pub holds : Holds words text tree
  pub holds' : Holds words' text' tree'
  pub one : fill tree name ≡ fill tree' name'
