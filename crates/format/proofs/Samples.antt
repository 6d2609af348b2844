-- The definitions evaluated on the scope's sample and on a tree of three levels, so that the theorems speak of something.
use Rattle.lent.proofs.Prelude.{ℕ, ◌≡◌, refl, Bool, true, false, some, List, [], ◌∷◌, ◌++◌, map, dec_le, dec_lt, ℕ_discrete, leb}
use Rattle.lent.specs.Memory.{Every}
use Rattle.utf8.specs.Utf8.{utf8_up_to, repair_up_to, first_step, whole, begun, matched}
use Rattle.format.specs.Tree.{Constant, Source, Debug, Function, Functions, count, parts_of, preorder, fill, no_debug}
use Rattle.format.specs.Read.{got, refused, count_of, load_size, load_function, load_constants, load_debug, load_header, many, many_functions, little_endian, same}
use Rattle.format.specs.Write.{dump_number, each, dump_function, dump_chunk}
use Rattle.format.specs.Store.{function_piece, pieces}
use Rattle.format.specs.Valid.{depth, most, Valid}
use Rattle.format.specs.Stored.{stored_function, both?, as?, true?, every?, same?, valid?, tree_of}
use Rattle.format.specs.Undump.{Chunk, load_chunk, up_to_most, repaired}

-- ---- the sample

-- a header whose ninth byte is w
abbrev headed : ℕ → List ℕ → List ℕ
headed w rest = 0x1b ∷ 0x4c ∷ 0x75 ∷ 0x61 ∷ 0x51 ∷ 0 ∷ 1 ∷ 4 ∷ w ∷ 4 ∷ 8 ∷ 0 ∷ rest

-- behind its first size
after_size : List ℕ
after_size =
    0x40 ∷ 0x61 ∷ 0
    ∷ 0 ∷ 0 ∷ 0 ∷ 0 ∷ 0 ∷ 0 ∷ 0 ∷ 0
    ∷ 0 ∷ 0 ∷ 2 ∷ 2
    ∷ 1 ∷ 0 ∷ 0 ∷ 0 ∷ 0x1e ∷ 0 ∷ 0x80 ∷ 0
    ∷ 0 ∷ 0 ∷ 0 ∷ 0
    ∷ 0 ∷ 0 ∷ 0 ∷ 0
    ∷ 1 ∷ 0 ∷ 0 ∷ 0 ∷ 1 ∷ 0 ∷ 0 ∷ 0
    ∷ 0 ∷ 0 ∷ 0 ∷ 0
    ∷ 0 ∷ 0 ∷ 0 ∷ 0
    ∷ []

abbrev sample : Bool → List ℕ
sample true = headed 4 (3 ∷ 0 ∷ 0 ∷ 0 ∷ after_size)
sample false = headed 8 (3 ∷ 0 ∷ 0 ∷ 0 ∷ 0 ∷ 0 ∷ 0 ∷ 0 ∷ after_size)

-- a function with this source, vararg flag, code, constants and debug lists, and these functions in it
abbrev made : Source → ℕ → List ℕ → List Constant → Debug → Functions → Function
made s vararg code ks d fs =
    Function.function
    (record { source = s; line_defined = 0; last_line_defined = 0; num_upvalues = 0; num_params = 0; is_vararg = vararg; max_stack_size = 2; code = code; constants = ks; debug = d })
    fs

abbrev sample_tree : Function
sample_tree = made (Source.own (0x40 ∷ 0x61 ∷ [])) 2 (0x0080001e ∷ []) [] (record { lines = 1 ∷ []; locals = []; upvalues = [] }) Functions.none

-- a chunk that was read
abbrev chunk_of : Bool → Function → Chunk
chunk_of size4 f = record { size4 = size4; root = f }

sample_read : (load_chunk (sample true) ≡ got (chunk_of true sample_tree) []) × (load_chunk (sample false) ≡ got (chunk_of false sample_tree) [])
unfolding after_size load_chunk load_header same load_size load_function load_constants load_debug many many_functions little_endian repaired repair_up_to first_step whole begun matched
sample_read = (refl, refl)

sample_dumped : (dump_chunk false true [] sample_tree ≡ sample true) × (dump_chunk false false [] sample_tree ≡ sample false)
unfolding after_size dump_function dump_number each count same
sample_dumped = (refl, refl)

-- no third width; and fewer than eight bytes are too few, whatever they are
width_refused : (load_chunk (headed 5 after_size) ≡ refused 4) × (load_chunk (0x1b ∷ 0x4c ∷ 0x75 ∷ 0x61 ∷ 0x51 ∷ 0 ∷ 1 ∷ 4 ∷ 5 ∷ 4 ∷ 8 ∷ []) ≡ refused 2)
unfolding after_size load_chunk load_header same
width_refused = (refl, refl)

abbrev sample_words : List ℕ
sample_words = 1 ∷ 0 ∷ 2 ∷ 0 ∷ 0 ∷ 0x0202 ∷ 1 ∷ 0x0080001e ∷ 0 ∷ 0 ∷ 1 ∷ 1 ∷ 0 ∷ 0 ∷ []

sample_stored : tree_of sample_words (0x40 ∷ 0x61 ∷ []) ≡ some sample_tree
unfolding tree_of stored_function many many_functions both? as? true? every? same? valid? dec_le dec_lt ℕ_discrete function_piece pieces count Every Valid utf8_up_to first_step whole begun matched
sample_stored = refl

-- ---- sources: a function with this source and these functions in it, and a constant of each kind

abbrev sourced : Source → Debug → Functions → Function
sourced s d fs = made s 0 [] (Constant.nil ∷ Constant.bool true ∷ Constant.num 0x80000000 0 ∷ Constant.str (0xff ∷ []) ∷ []) d fs

abbrev one : Function → Functions
one f = Functions.more f Functions.none

abbrev named : Debug
named = record { lines = 7 ∷ []; locals = record { name = 0x78 ∷ []; start = 0; end = 0xffffffff } ∷ []; upvalues = (0x79 ∷ []) ∷ [] }

abbrev a : List ℕ
a = 0x40 ∷ 0x61 ∷ []

abbrev b : List ℕ
b = 0x40 ∷ 0x62 ∷ []

-- a root of the name a; in it one that has its source, with one of its own that is the same and one that is not; and one with an empty source
abbrev family : Source → Function
family root =
    sourced root named
    (Functions.more (sourced Source.inherited named (Functions.more (sourced (Source.own a) named Functions.none) (one (sourced (Source.own b) named Functions.none))))
    (one (sourced (Source.own []) named (one (sourced (Source.own a) named Functions.none)))))

-- what is read where it was written: a child's source is left out where it is its parent's, and not where it is the root's
abbrev written : Debug → Function
written d =
    sourced (Source.own a) d
    (Functions.more (sourced Source.inherited d (Functions.more (sourced Source.inherited d Functions.none) (one (sourced (Source.own b) d Functions.none))))
    (one (sourced (Source.own []) d (one (sourced (Source.own a) d Functions.none)))))

family_written : (load_chunk (dump_chunk false false [] (family (Source.own a)) ++ 0xff ∷ []) ≡ got (chunk_of false (written named)) (0xff ∷ []))
    × (load_chunk (dump_chunk false true a (family Source.inherited)) ≡ got (chunk_of true (written named)) [])
    × (load_chunk (dump_chunk true false a (family Source.inherited)) ≡ got (chunk_of false (written no_debug)) [])
unfolding load_chunk load_header same load_size load_function load_constants load_debug many many_functions little_endian repaired repair_up_to first_step whole begun matched dump_function dump_number each count
family_written = (refl, refl, refl)

-- each function of it in preorder, its source filled in
family_filled : map (λ f. (parts_of f).source) (preorder (fill (family Source.inherited) a))
    ≡ Source.own a ∷ Source.own a ∷ Source.own a ∷ Source.own b ∷ Source.own [] ∷ Source.own a ∷ []
unfolding fill preorder
family_filled = refl

-- ---- names: sources, local and upvalue names are repaired in every function, constants stay as they are

abbrev names : List ℕ → Debug
names s = record { lines = 7 ∷ []; locals = record { name = s; start = 0; end = 1 } ∷ []; upvalues = s ∷ [] }

abbrev two_named : List ℕ → Function
two_named s = sourced (Source.own s) (names s) (one (sourced (Source.own s) (names s) Functions.none))

names_repaired : repaired (two_named (0x41 ∷ 0xff ∷ [])) ≡ two_named (0x41 ∷ 0xef ∷ 0xbf ∷ 0xbd ∷ [])
unfolding repaired repair_up_to first_step whole begun matched
names_repaired = refl

-- ---- the limits, each at its last number and one beyond

limits : (count_of 65535 [] ≡ got 65535 []) × (count_of 65536 [] ≡ refused 6) × (leb 200 depth ≡ true) × (leb 201 depth ≡ false) × (leb 16777216 most ≡ true) × (leb 16777217 most ≡ false)
limits = (refl, refl, refl, refl, refl, refl)

-- what measure answers at the limit, and of all beyond it
most_measured : (up_to_most 16777216 ≡ 16777216) × (up_to_most 16777217 ≡ 16777217) × (up_to_most 16777218 ≡ 16777217)
most_measured = (refl, refl, refl)
