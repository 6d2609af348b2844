-- Writing a chunk, from ldump.c, in its order: DumpInt, DumpNumber, DumpString, DumpCode, DumpConstants, DumpDebug, DumpFunction, DumpHeader.
-- What writes a string size is told its width. Where the Rust differs (an empty root source, sources kept by strip), the Rust decides.
use Rattle.std.specs.Prelude.{ℕ, zero, suc, ◌+◌, ◌/◌, ◌%◌, List, [], ◌∷◌, ◌++◌, Bool, cond, length}
use Rattle.format.specs.Tree.{Constant, Source, Local, Debug, Function, Functions, count, filled, kept}
use Rattle.format.specs.Read.{same, width_of, signature, format}

-- a number as so many bytes, low byte first
unfoldable pub dump_number : ℕ → ℕ → List ℕ
dump_number zero n = []
dump_number (suc width) n = n % 256 ∷ dump_number width (n / 256)

abbrev pub dump_int : ℕ → List ℕ
dump_int n = dump_number 4 n

abbrev pub dump_size : Bool → ℕ → List ℕ
dump_size size4 n = dump_number (width_of size4) n

-- its length and one, its bytes, a zero; none is size 0
abbrev pub dump_string : Bool → Source → List ℕ
dump_string size4 Source.inherited = dump_size size4 0
dump_string size4 (Source.own s) = dump_size size4 (length s + 1) ++ s ++ 0 ∷ []

abbrev pub dump_text : Bool → List ℕ → List ℕ
dump_text size4 s = dump_string size4 (Source.own s)

-- the items of a list, each written by e, one after the other
unfoldable pub each : {A : Type 0} → (A → List ℕ) → List A → List ℕ
each e [] = []
each e (a ∷ rest) = e a ++ each e rest

abbrev pub dump_list : {A : Type 0} → (A → List ℕ) → List A → List ℕ
dump_list e l = dump_int (length l) ++ each e l

abbrev pub dump_code : List ℕ → List ℕ
dump_code code = dump_list dump_int code

abbrev pub dump_constant : Bool → Constant → List ℕ
dump_constant size4 Constant.nil = 0 ∷ []
dump_constant size4 (Constant.bool b) = 1 ∷ cond b 1 0 ∷ []
dump_constant size4 (Constant.num high low) = 3 ∷ dump_int low ++ dump_int high
dump_constant size4 (Constant.str s) = 4 ∷ dump_text size4 s

-- the constants, then n functions inside, which take these bytes
abbrev pub dump_constants : Bool → List Constant → ℕ → List ℕ → List ℕ
dump_constants size4 constants n functions = dump_list (dump_constant size4) constants ++ dump_int n ++ functions

abbrev pub dump_local : Bool → Local → List ℕ
dump_local size4 v = dump_text size4 v.name ++ dump_int v.start ++ dump_int v.end

abbrev pub dump_debug : Bool → Debug → List ℕ
dump_debug size4 d = dump_list dump_int d.lines ++ dump_list (dump_local size4) d.locals ++ dump_list (dump_text size4) d.upvalues

-- a source as it is written: none where it is the one around it
abbrev pub elided : List ℕ → List ℕ → Source
elided around s = cond (same s around) Source.inherited (Source.own s)

-- a function: strip, the width of sizes, the source around it, and the source that an inherited one stands for (at the root these two differ)
unfoldable mutual
  pub dump_function : Function → Bool → Bool → List ℕ → List ℕ → List ℕ
  dump_function (Function.function p fs) strip size4 around outer =
      dump_string size4 (elided around (filled outer p.source))
      ++ dump_int p.line_defined
      ++ dump_int p.last_line_defined
      ++ (p.num_upvalues ∷ p.num_params ∷ p.is_vararg ∷ p.max_stack_size ∷ [])
      ++ dump_code p.code
      ++ dump_constants size4 p.constants (count fs) (dump_functions fs strip size4 (filled outer p.source))
      ++ dump_debug size4 (kept strip p.debug)

  pub dump_functions : Functions → Bool → Bool → List ℕ → List ℕ
  dump_functions Functions.none strip size4 source = []
  dump_functions (Functions.more f fs) strip size4 source = dump_function f strip size4 source source ++ dump_functions fs strip size4 source

abbrev pub dump_header : Bool → List ℕ
dump_header size4 = signature ++ format size4

-- the chunk of a tree, an inherited root source standing for name; the root's source is compared with the empty string
abbrev pub dump_chunk : Bool → Bool → List ℕ → Function → List ℕ
dump_chunk strip size4 name f = dump_header size4 ++ dump_function f strip size4 [] name
