-- Reading a chunk, from lundump.c, in its order: LoadBlock, LoadChar, LoadInt, LoadNumber, LoadString, LoadCode, LoadConstants, LoadDebug, LoadFunction,
-- LoadHeader. What reads a string size is told its width. The header's comparisons, and the refusals' numbers in their order, are the Rust's and the scope's.
use Rattle.std.specs.Prelude.{ℕ, zero, suc, ◌+◌, ◌*◌, List, [], ◌∷◌, Bool, true, false, cond, not, ◌&&◌, length, take, drop, leb, eqb}
use Rattle.format.specs.Tree.{Constant, Source, Local, Debug, Function, Functions, filled}

-- what a step of reading gives: a value with the bytes left, or a refusal
pub data Read (A : Type 0) : Type 0 where
  got : A → List ℕ → Read A
  refused : ℕ → Read A

abbrev pub Reader : Type 0 → Type 0
Reader A = List ℕ → Read A

abbrev pub and_then : {A B : Type 0} → Read A → (A → Reader B) → Read B
and_then (got a bs) f = f a bs
and_then (refused n) f = refused n

infixl 10 ◌>>=◌
abbrev pub ◌>>=◌ : {A B : Type 0} → Reader A → (A → Reader B) → Reader B
◌>>=◌ r f bs = and_then (r bs) f

abbrev pub return : {A : Type 0} → A → Reader A
return a bs = got a bs

abbrev pub refuse : {A : Type 0} → ℕ → Reader A
refuse n bs = refused n

-- n bytes as they stand
abbrev pub load_block : ℕ → Reader (List ℕ)
load_block n bs = elim (leb n (length bs)) [ true ↦ got (take n bs) (drop n bs) | false ↦ refused 2 ]

abbrev pub load_byte : Reader ℕ
load_byte [] = refused 2
load_byte (b ∷ bs) = got b bs

-- the number that bytes stand for, low byte first
unfoldable pub little_endian : List ℕ → ℕ
little_endian [] = 0
little_endian (b ∷ bs) = b + 256 * little_endian bs

-- a number of so many bytes
abbrev pub load_number : ℕ → Reader ℕ
load_number width = do
  b ← load_block width
  return (little_endian b)

abbrev pub load_int : Reader ℕ
load_int = load_number 4

-- how many bytes a size takes: four where size_4 is told, else eight
abbrev pub width_of : Bool → ℕ
width_of size4 = cond size4 4 8

unfoldable pub load_size : Bool → Reader ℕ
load_size size4 = load_number (width_of size4)

-- a string of this size: none where it is 0, else its bytes, the last one skipped
abbrev pub string_of : ℕ → Reader Source
string_of zero = return Source.inherited
string_of (suc n) = do
  s ← load_block n
  z ← load_byte
  return (Source.own s)

abbrev pub load_string : Bool → Reader Source
load_string size4 = load_size size4 >>= string_of

-- a string constant or a name, empty where there is none
abbrev pub load_text : Bool → Reader (List ℕ)
load_text size4 = do
  s ← load_string size4
  return (filled [] s)

-- the most items of a list
abbrev pub limit : ℕ
limit = 65535

-- a list's count
abbrev pub count_of : ℕ → Reader ℕ
count_of n = cond (leb n limit) (return n) (refuse 6)

abbrev pub load_count : Reader ℕ
load_count = load_int >>= count_of

-- n items, one after the other
unfoldable pub many : {A : Type 0} → Reader A → ℕ → Reader (List A)
many r zero = return []
many r (suc n) = do
  a ← r
  rest ← many r n
  return (a ∷ rest)

abbrev pub load_list : {A : Type 0} → Reader A → Reader (List A)
load_list r = load_count >>= many r

abbrev pub load_code : Reader (List ℕ)
load_code = load_list load_int

abbrev pub load_boolean : Reader Constant
load_boolean = do
  b ← load_byte
  return (Constant.bool (not (eqb b 0)))

-- a lua_Number, by its bits
abbrev pub load_num : Reader Constant
load_num = do
  low ← load_int
  high ← load_int
  return (Constant.num high low)

abbrev pub load_str : Bool → Reader Constant
load_str size4 = do
  s ← load_text size4
  return (Constant.str s)

-- a constant of this tag: LUA_TNIL, LUA_TBOOLEAN, LUA_TNUMBER, LUA_TSTRING
abbrev pub constant_of : Bool → ℕ → Reader Constant
constant_of size4 tag =
    cond (eqb tag 0) (return Constant.nil)
    (cond (eqb tag 1) load_boolean
    (cond (eqb tag 3) load_num
    (cond (eqb tag 4) (load_str size4) (refuse 5))))

abbrev pub load_constant : Bool → Reader Constant
load_constant size4 = load_byte >>= constant_of size4

-- n functions, one after the other
unfoldable pub many_functions : Reader Function → ℕ → Reader Functions
many_functions r zero = return Functions.none
many_functions r (suc n) = do
  f ← r
  fs ← many_functions r n
  return (Functions.more f fs)

-- the constants, then the functions inside, each read by child
pub record Constants : Type 0 where
  pub constants : List Constant
  pub functions : Functions

unfoldable pub load_constants : Bool → Reader Function → Reader Constants
load_constants size4 child = do
  ks ← load_list (load_constant size4)
  fs ← load_count >>= many_functions child
  return (record { constants = ks; functions = fs })

abbrev pub load_local : Bool → Reader Local
load_local size4 = do
  n ← load_text size4
  s ← load_int
  e ← load_int
  return (record { name = n; start = s; end = e })

unfoldable pub load_debug : Bool → Reader Debug
load_debug size4 = do
  li ← load_list load_int
  lo ← load_list (load_local size4)
  up ← load_list (load_text size4)
  return (record { lines = li; locals = lo; upvalues = up })

-- a function, with so many functions nested at most
unfoldable pub load_function : Bool → ℕ → Reader Function
load_function size4 zero = refuse 7
load_function size4 (suc allowance) = do
  src ← load_string size4
  ld ← load_int
  lld ← load_int
  nu ← load_byte
  np ← load_byte
  va ← load_byte
  ms ← load_byte
  code ← load_code
  ks ← load_constants size4 (load_function size4 allowance)
  de ← load_debug size4
  return (Function.function (record { source = src; line_defined = ld; last_line_defined = lld; num_upvalues = nu; num_params = np; is_vararg = va; max_stack_size = ms; code = code; constants = ks.constants; debug = de }) ks.functions)

-- whether two lists of numbers are the same
unfoldable pub same : List ℕ → List ℕ → Bool
same [] [] = true
same [] (b ∷ t) = false
same (a ∷ s) [] = false
same (a ∷ s) (b ∷ t) = eqb a b && same s t

-- LUA_SIGNATURE
abbrev pub signature : List ℕ
signature = 0x1b ∷ 0x4c ∷ 0x75 ∷ 0x61 ∷ []

-- version, format, endianness, and the sizes of int, size_t, Instruction and lua_Number; 0: numbers are floats (luaU_header)
abbrev pub format : Bool → List ℕ
format size4 = 0x51 ∷ 0 ∷ 1 ∷ 4 ∷ width_of size4 ∷ 4 ∷ 8 ∷ 0 ∷ []

-- these bytes, or refusal n
abbrev pub load_exactly : List ℕ → ℕ → Reader (List ℕ)
load_exactly bytes n = do
  s ← load_block (length bytes)
  cond (same s bytes) (return s) (refuse n)

-- which of the two forms eight bytes have, whether it is that of sizes of four bytes; else refusal 4
abbrev pub format_of : List ℕ → Reader Bool
format_of s = cond (same s (format true)) (return true) (cond (same s (format false)) (return false) (refuse 4))

abbrev pub load_format : Reader Bool
load_format = load_block 8 >>= format_of

-- whether sizes take four bytes. As in the Rust's load_header four bytes are compared (3), then eight (4). LoadHeader of lundump.c reads all twelve and then compares them
unfoldable pub load_header : Reader Bool
load_header = do
  s ← load_exactly signature 3
  load_format
