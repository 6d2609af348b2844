-- Listings by evaluation: the sample's, plain and full, and a tree with each kind of line.
use Rattle.lent.proofs.Prelude.{ℕ, ◌≡◌, refl, Bool, true, false, List, [], ◌∷◌, ◌++◌, dec_le, dec_lt, ℕ_discrete, replicate}
use Rattle.lent.specs.Memory.{Every}
use Rattle.utf8.specs.Utf8.{repair_up_to, utf8_up_to, first_step, whole, begun, matched}
use Rattle.digits.specs.Digits.{digits, places_within, letter_in, escape, escaped}
use Rattle.instructions.specs.OpCodes.{ascii, opcodes, is_jump}
use Rattle.format.specs.Tree.{count}
use Rattle.format.specs.Read.{many, many_functions}
use Rattle.format.specs.Store.{function_piece, pieces}
use Rattle.format.specs.Valid.{Valid}
use Rattle.format.specs.Stored.{tree_of, stored_function, both?, as?, true?, every?, same?, valid?}
use Rattle.proto.specs.Walk.{item, total, total_before}
use Rattle.listing_operands.specs.Operands.{format_operands}
use Rattle.listing_comments.specs.Comment.{format_comment}
use Rattle.listing_lines.specs.Line.{format_instruction}
use Rattle.listing_headers.specs.Header.{header_kind, header_counts}
use Rattle.listing_headers.specs.Tables.{enumerated}
use Rattle.listing.specs.Listing.{print_code, list_function_recursive, listed}

-- the refusal and the length, then what stands in the output, of which so many bytes are lent
abbrev listing : List ℕ → List ℕ → Bool → ℕ → List ℕ
listing words text full out = let d = listed words text [] full (replicate out 7) in d.answer.refusal ∷ d.answer.len ∷ d.out

-- the scope's sample
abbrev sample_words : List ℕ
sample_words = 1 ∷ 0 ∷ 2 ∷ 0 ∷ 0 ∷ 0x0202 ∷ 1 ∷ 0x0080001e ∷ 0 ∷ 0 ∷ 1 ∷ 1 ∷ 0 ∷ 0 ∷ []

abbrev sample_text : List ℕ
sample_text = 0x40 ∷ 0x61 ∷ []

-- the scope's three lines
abbrev sample_listing : List ℕ
sample_listing = ascii "main <a:0,0> (1 instruction, 4 bytes at #1)\n0+ params, 2 slots, 0 upvalues, 0 locals, 0 constants, 0 functions\n\t1\t[1]\tRETURN   \t0 1\n"

-- a tree of two functions: line 0 and missing lines, a SETLIST with its C in the next word, a CLOSURE, a global, a jump back, a start that wraps
abbrev family_words : List ℕ
family_words = 1 ∷ 0 ∷ 2 ∷ 0 ∷ 0 ∷ 65793 ∷ 5 ∷ 5 ∷ 100 ∷ 8388706 ∷ 7 ∷ 2147434518 ∷ 3 ∷ 4 ∷ 2 ∷ 1 ∷ 3 ∷ 1074266112 ∷ 0 ∷ 1 ∷ 1 ∷ 0 ∷ 1 ∷ 0 ∷ 0 ∷ 0 ∷ 3 ∷ 4 ∷ 2 ∷ 1 ∷ 8388638 ∷ 0 ∷ 0 ∷ 0 ∷ 0 ∷ 0 ∷ 2 ∷ 0 ∷ 2 ∷ 1 ∷ 3 ∷ 1 ∷ 4294967295 ∷ 5 ∷ 1 ∷ 4 ∷ 1 ∷ []

abbrev family_text : List ℕ
family_text = ascii "@apxu"

abbrev family_listing : List ℕ
family_listing =
    ascii "main <a:0,0> (5 instructions, 20 bytes at #1)\n1 param, 1 slot, 0 upvalues, 1 local, 3 constants, 1 function\n\t1\t[0]\tGETGLOBAL\t0 -1\t; p\n\t2\t[2]\tCLOSURE  \t1 0\t; #2\n\t3\t[-]\tSETLIST  \t1 1 0\t; 7\n\t5\t[-]\tJMP      \t-2\t; to 4\n"
    ++ ascii "constants (3) for #1:\n\t1\t\"p\"\n\t2\t0x4008000000000000\n\t3\ttrue\nlocals (1) for #1:\n\t0\tx\t0\t6\nupvalues (1) for #1:\n\t0\tu\n"
    ++ ascii "\nfunction <a:3,4> (1 instruction, 4 bytes at #2)\n0 params, 2 slots, 0 upvalues, 0 locals, 0 constants, 0 functions\n\t1\t[-]\tRETURN   \t0 1\nconstants (0) for #2:\nlocals (0) for #2:\nupvalues (0) for #2:\n"

-- three times SETLIST with C 0: the second is the first's C, behind the third is no word
abbrev setlist_words : List ℕ
setlist_words = 0 ∷ 0 ∷ 0 ∷ 0 ∷ 0 ∷ 0x0202 ∷ 3 ∷ 0x00800022 ∷ 0x00800022 ∷ 0x00800022 ∷ 0 ∷ 0 ∷ 0 ∷ 0 ∷ 0 ∷ []

abbrev setlist_listing : List ℕ
setlist_listing = ascii "main <:0,0> (3 instructions, 12 bytes at #1)\n0+ params, 2 slots, 0 upvalues, 0 locals, 0 constants, 0 functions\n\t1\t[-]\tSETLIST  \t0 1 0\t; 8388642\n\t3\t[-]\tSETLIST  \t0 1 0\n"

-- ==== the statement

abbrev Listed : Type 0
Listed =
    (listing sample_words sample_text false 133 ≡ 0 ∷ 132 ∷ (sample_listing ++ 7 ∷ []))
    × (listing sample_words sample_text true 131 ≡ 11 ∷ 0 ∷ replicate 131 7)
    × (listing [] [] true 9 ≡ 10 ∷ 0 ∷ replicate 9 7)
    × (listing family_words family_text true 525 ≡ 0 ∷ 525 ∷ family_listing)
    × (listing setlist_words [] false 168 ≡ 0 ∷ 168 ∷ setlist_listing)

pub samples_listed : Listed
unfolding listed tree_of stored_function both? as? true? every? same? valid? dec_le dec_lt ℕ_discrete Every Valid many many_functions function_piece pieces count item total total_before repair_up_to utf8_up_to first_step whole begun matched digits places_within letter_in escape escaped opcodes is_jump format_operands format_comment format_instruction print_code enumerated header_kind header_counts list_function_recursive
samples_listed = (refl, refl, refl, refl, refl)
