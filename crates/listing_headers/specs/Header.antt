-- The header of a function in a listing: display_source and format_header of listing.rs, in its order.
use Rattle.std.specs.Prelude.{ℕ, ◌*◌, ◌/◌, ◌%◌, cond, List, [], ◌∷◌, ◌++◌, length, ◌==◌}
use Prim.Native.String.{String}
use Rattle.digits.specs.Digits.{decimal}
use Rattle.instructions.specs.OpCodes.{ascii}
use Rattle.format.specs.Tree.{Parts, Functions, count}
use Rattle.listing_comments.specs.Comment.{address}

-- display_source: without a leading @
abbrev pub display_source : List ℕ → List ℕ
display_source [] = []
display_source (c ∷ s) = cond (c == 64) s (c ∷ s)

-- s but for one
abbrev pub plural : ℕ → List ℕ
plural n = cond (n == 1) [] (ascii "s")

-- n of what a noun names
abbrev pub amount : ℕ → String → List ℕ
amount n noun = decimal n ++ (ascii noun ++ plural n)

-- behind other amounts
abbrev pub and_amount : ℕ → String → List ℕ
and_amount n noun = ascii ", " ++ amount n noun

-- + where is_vararg has the bit worth 2
abbrev pub vararg : ℕ → List ℕ
vararg v = cond (v / 2 % 2 == 1) (ascii "+") []

-- main is defined at line 0
abbrev pub kind_of : ℕ → List ℕ
kind_of line_defined = cond (line_defined == 0) (ascii "main") (ascii "function")

-- source, defined lines
abbrev pub source_lines : List ℕ → ℕ → ℕ → List ℕ
source_lines source start end = ascii " <" ++ display_source source ++ ascii ":" ++ decimal start ++ ascii "," ++ decimal end ++ ascii ">"

-- code words, bytes, number
abbrev pub code_size : ℕ → ℕ → List ℕ
code_size n number = ascii " (" ++ amount n " instruction" ++ ascii ", " ++ decimal (n * 4) ++ ascii " bytes at " ++ address number ++ ascii ")\n"

-- params, with + for vararg
abbrev pub format_params : ℕ → ℕ → List ℕ
format_params n v = decimal n ++ vararg v ++ (ascii " param" ++ plural n)

-- line one
unfoldable pub header_kind : Parts → List ℕ → ℕ → List ℕ
header_kind p source number = kind_of p.line_defined ++ source_lines source p.line_defined p.last_line_defined ++ code_size (length p.code) number

-- line two: six counts
unfoldable pub header_counts : Parts → Functions → List ℕ
header_counts p fs =
    format_params p.num_params p.is_vararg
    ++ and_amount p.max_stack_size " slot"
    ++ and_amount p.num_upvalues " upvalue"
    ++ and_amount (length p.debug.locals) " local"
    ++ and_amount (length p.constants) " constant"
    ++ and_amount (count fs) " function"
    ++ ascii "\n"

-- format_header
abbrev pub format_header : Parts → Functions → List ℕ → ℕ → List ℕ
format_header p fs source number = header_kind p source number ++ header_counts p fs
