-- The lists of a full listing: format_constants, format_locals and format_upvalues of listing.rs, in its order.
use Rattle.std.specs.Prelude.{ℕ, suc, false, ◌+◌, ◌%◌, ◌^◌, List, [], ◌∷◌, ◌++◌, length}
use Rattle.std.proofs.Math.Option.{some}
use Rattle.digits.specs.Digits.{decimal}
use Rattle.instructions.specs.OpCodes.{ascii}
use Rattle.format.specs.Tree.{Constant, Local}
use Rattle.listing_operands.specs.Operands.{constant_text}
use Rattle.listing_comments.specs.Comment.{address}
use Rattle.listing_lines.specs.Line.{index}

-- the items of a list from index i on, each written by e with its index
unfoldable pub enumerated : {A : Type 0} → (ℕ → A → List ℕ) → ℕ → List A → List ℕ
enumerated e i [] = []
enumerated e i (a ∷ l) = e i a ++ enumerated e (suc i) l

-- what a list holds, how many, and whose it is
abbrev pub title : List ℕ → ℕ → ℕ → List ℕ
title what n number = what ++ ascii " (" ++ decimal n ++ ascii ") for " ++ address number ++ ascii ":\n"

-- a list, each item with its line
abbrev pub format_list : {A : Type 0} → List ℕ → (ℕ → A → List ℕ) → List A → ℕ → List ℕ
format_list what line l number = title what (length l) number ++ enumerated line 0 l

abbrev pub format_constant_at : ℕ → Constant → List ℕ
format_constant_at i k = index (i + 1) ++ constant_text false (some k) ++ ascii "\n"

-- format_constants
abbrev pub format_constants : List Constant → ℕ → List ℕ
format_constants constants number = format_list (ascii "constants") format_constant_at constants number

-- a pc raised by one, which wraps
abbrev pub raised : ℕ → ℕ
raised pc = (pc + 1) % 2 ^ 32

abbrev pub tabbed : ℕ → List ℕ
tabbed n = ascii "\t" ++ decimal n

abbrev pub format_local_at : ℕ → Local → List ℕ
format_local_at i v = index i ++ v.name ++ tabbed (raised v.start) ++ tabbed (raised v.end) ++ ascii "\n"

-- format_locals
abbrev pub format_locals : List Local → ℕ → List ℕ
format_locals locals number = format_list (ascii "locals") format_local_at locals number

abbrev pub format_upvalue_at : ℕ → List ℕ → List ℕ
format_upvalue_at i name = index i ++ name ++ ascii "\n"

-- format_upvalues
abbrev pub format_upvalues : List (List ℕ) → ℕ → List ℕ
format_upvalues upvalues number = format_list (ascii "upvalues") format_upvalue_at upvalues number
