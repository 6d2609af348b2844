-- The line of an instruction: the body of format_code's loop in listing.rs.
use Rattle.std.specs.Prelude.{ℕ, ◌+◌, List, ◌++◌}
use Rattle.std.proofs.Math.Option.{Option, none, some}
use Rattle.digits.specs.Digits.{decimal}
use Rattle.format.specs.Tree.{Parts, Functions}
use Rattle.listing_comments.specs.Comment.{format_comment}
use Rattle.listing_operands.specs.Operands.{format_operands}
use Rattle.proto.specs.Walk.{item}
use Rattle.instructions.specs.OpCodes.{ascii, opcode, op_name, padded}

-- ==== parts of a line

-- an index between tabs
abbrev pub index : ℕ → List ℕ
index n = ascii "\t" ++ decimal n ++ ascii "\t"

-- the line of an instruction, where it has one
abbrev pub format_line : Option ℕ → List ℕ
format_line none = ascii "[-]"
format_line (some l) = ascii "[" ++ decimal l ++ ascii "]"

-- ==== the line

-- what stands in front of the comment: index n, line, opcode padded to 9, operands
abbrev pub start_of : Option ℕ → ℕ → ℕ → ℕ → List ℕ
start_of line op n i = index n ++ format_line line ++ ascii "\t" ++ padded (op_name op) ++ ascii "\t" ++ format_operands op i

-- the index counts from 1
abbrev pub format_start : Option ℕ → ℕ → ℕ → ℕ → List ℕ
format_start line op pc i = start_of line op (pc + 1) i

unfoldable pub format_instruction : Parts → Functions → ℕ → ℕ → ℕ → List ℕ
format_instruction p fs number pc i = format_start (item p.debug.lines pc) (opcode i) pc i ++ format_comment (opcode i) p fs number pc i ++ ascii "\n"
