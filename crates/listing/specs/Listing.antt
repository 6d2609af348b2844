-- The listing of a tree: PrintCode's loop of print.c; list_function_recursive and list_function of listing.rs; what list_function answers and leaves in lent memory.
use Rattle.std.specs.Prelude.{ℕ, ◌+◌, Bool, cond, List, [], ◌∷◌, ◌++◌}
use Rattle.instructions.specs.OpCodes.{ascii, next_is_c}
use Rattle.format.specs.Tree.{Parts, Function, Functions, filled}
use Rattle.format.specs.Dump.{WriteLeft, on_store}
use Rattle.proto.specs.Walk.{total}
use Rattle.listing_lines.specs.Line.{format_instruction}
use Rattle.listing_headers.specs.Header.{format_header}
use Rattle.listing_headers.specs.Tables.{format_constants, format_locals, format_upvalues}

-- ==== a function

-- PrintCode's loop from pc on: the line of the instruction there; then pc moves on by one, and by two over a C in the next word (code[++pc])
unfoldable pub print_code : (ℕ → ℕ → List ℕ) → ℕ → List ℕ → List ℕ
print_code line pc [] = []
print_code line pc (i ∷ []) = line pc i
print_code line pc (i ∷ w ∷ code) = line pc i ++ cond (next_is_c i) (print_code line (pc + 2) code) (print_code line (pc + 1) (w ∷ code))

-- format_code, with that loop
abbrev pub format_code : Parts → Functions → ℕ → List ℕ
format_code p fs number = print_code (format_instruction p fs number) 0 p.code

-- what a full listing adds
abbrev pub format_lists : Bool → Parts → ℕ → List ℕ
format_lists full p number =
    cond full (format_constants p.constants number ++ format_locals p.debug.locals number ++ format_upvalues p.debug.upvalues number) []

-- ==== functions

-- a function without those in it
abbrev pub format_function : Parts → Functions → Bool → List ℕ → ℕ → List ℕ
format_function p fs full source number = format_header p fs source number ++ format_code p fs number ++ format_lists full p number

-- list_function_recursive: outer is the source that an inherited one stands for; numbers count functions in preorder
unfoldable mutual
  pub list_function_recursive : Function → Bool → List ℕ → ℕ → List ℕ
  list_function_recursive (Function.function p fs) full outer number =
      format_function p fs full (filled outer p.source) number ++ list_functions fs full (filled outer p.source) (number + 1)

  pub list_functions : Functions → Bool → List ℕ → ℕ → List ℕ
  list_functions Functions.none full source number = []
  list_functions (Functions.more f fs) full source number = ascii "\n" ++ list_function_recursive f full source number ++ list_functions fs full source (number + total f)

-- the listing of a tree, an inherited root source standing for name; the root is number 1
abbrev pub list_function : Function → Bool → List ℕ → List ℕ
list_function f full name = list_function_recursive f full name 1

-- ==== the call

-- list_function(words, text, name, full, out): refused by 1, 10, 11; else the listing, then what stood there
unfoldable pub listed : List ℕ → List ℕ → List ℕ → Bool → List ℕ → WriteLeft
listed words text name full out = on_store (λ f. list_function f full name) words text name out
