-- A Lua 5.1 function prototype as a tree (lobject.h, Proto; in the Rust, proto.rs).
use Rattle.std.specs.Prelude.{ℕ, suc, List, [], ◌∷◌, ◌++◌, Bool, cond}

-- a number is its bits, the high half first
pub data Constant : Type 0 where
  nil : Constant
  bool : Bool → Constant
  num : ℕ → ℕ → Constant
  str : List ℕ → Constant

-- a string that may be absent (NULL), as the source that a function takes from the one around it
pub data Source : Type 0 where
  inherited : Source
  own : List ℕ → Source

-- LocVar
pub record Local : Type 0 where
  pub name : List ℕ
  pub start : ℕ
  pub end : ℕ

-- what strip leaves out
pub record Debug : Type 0 where
  pub lines : List ℕ
  pub locals : List Local
  pub upvalues : List (List ℕ)

abbrev pub no_debug : Debug
no_debug = record { lines = []; locals = []; upvalues = [] }

-- a function without the functions in it
pub record Parts : Type 0 where
  pub source : Source
  pub line_defined : ℕ
  pub last_line_defined : ℕ
  pub num_upvalues : ℕ
  pub num_params : ℕ
  pub is_vararg : ℕ
  pub max_stack_size : ℕ
  pub code : List ℕ
  pub constants : List Constant
  pub debug : Debug

mutual
  pub data Function : Type 0 where
    function : Parts → Functions → Function

  pub data Functions : Type 0 where
    none : Functions
    more : Function → Functions → Functions

-- how many functions
unfoldable pub count : Functions → ℕ
count Functions.none = 0
count (Functions.more f fs) = suc (count fs)

-- a function without those in it
abbrev pub parts_of : Function → Parts
parts_of (Function.function p fs) = p

-- the functions of a tree in preorder: a function, then those in it
unfoldable mutual
  pub preorder : Function → List Function
  preorder (Function.function p fs) = Function.function p fs ∷ preorder_all fs

  pub preorder_all : Functions → List Function
  preorder_all Functions.none = []
  preorder_all (Functions.more f fs) = preorder f ++ preorder_all fs

-- the parts with another source and other debug lists
abbrev pub with : Source → Debug → Parts → Parts
with s d p =
    record {
      source = s;
      line_defined = p.line_defined;
      last_line_defined = p.last_line_defined;
      num_upvalues = p.num_upvalues;
      num_params = p.num_params;
      is_vararg = p.is_vararg;
      max_stack_size = p.max_stack_size;
      code = p.code;
      constants = p.constants;
      debug = d;
    }

-- a source, where an inherited one stands for outer
abbrev pub filled : List ℕ → Source → List ℕ
filled outer Source.inherited = outer
filled outer (Source.own s) = s

-- inherited sources filled in, down from the one that the root's stands for
unfoldable mutual
  pub fill : Function → List ℕ → Function
  fill (Function.function p fs) outer = Function.function (with (Source.own (filled outer p.source)) p.debug p) (fill_all fs (filled outer p.source))

  pub fill_all : Functions → List ℕ → Functions
  fill_all Functions.none outer = Functions.none
  fill_all (Functions.more f fs) outer = Functions.more (fill f outer) (fill_all fs outer)

-- the root's source, an inherited one standing for the chunk name
abbrev pub root_source : Function → List ℕ → List ℕ
root_source (Function.function p fs) name = filled name p.source

-- strip empties the debug lists
abbrev pub kept : Bool → Debug → Debug
kept strip d = cond strip no_debug d

unfoldable mutual
  pub stripped : Function → Bool → Function
  stripped (Function.function p fs) strip = Function.function (with p.source (kept strip p.debug) p) (stripped_all fs strip)

  pub stripped_all : Functions → Bool → Functions
  stripped_all Functions.none strip = Functions.none
  stripped_all (Functions.more f fs) strip = Functions.more (stripped f strip) (stripped_all fs strip)
