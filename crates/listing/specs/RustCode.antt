-- The Rust's format_code (listing.rs), which has a line for every word of the code, and the lines of it that are left out.
use Rattle.std.specs.Prelude.{ℕ, zero, suc, Bool, true, not, ◌&&◌, List, ◌≡◌, get_or}
use Rattle.instructions.specs.OpCodes.{next_is_c}
use Rattle.format.specs.Tree.{Parts, Functions}
use Rattle.listing_comments.specs.Comment.{when}
use Rattle.listing_lines.specs.Line.{format_instruction}
use Rattle.listing_headers.specs.Tables.{enumerated}
use Rattle.listing.specs.Listing.{format_code}

-- format_code: a line for every word in the Rust; here for those words that has is true of
abbrev pub rust_code : (ℕ → Bool) → Parts → Functions → ℕ → List ℕ
rust_code has p fs number = enumerated (λ pc i. when (has pc) (format_instruction p fs number pc i)) 0 p.code

-- a word has no line where it is the C of an instruction that has one
unfoldable pub has_line : List ℕ → ℕ → Bool
has_line code zero = true
has_line code (suc pc) = not (has_line code pc && next_is_c (get_or code pc 0))

-- the code's listing is the Rust's with those lines left out
abbrev pub LinesLeftOut : Type 0
LinesLeftOut = (p : Parts) (fs : Functions) (number : ℕ) → format_code p fs number ≡ rust_code (has_line p.code) p fs number
