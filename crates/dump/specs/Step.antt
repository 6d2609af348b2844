-- What a step of the writer does: past a piece of the store, with its bytes written.
use Rattle.std.specs.Prelude.{ℕ, ◌+◌, ◌≡◌, List, [], ◌∷◌, ◌++◌, Bool, cond, Option, None, Some, length}
use Rattle.std.specs.Borrow.{Bor}
use Rattle.lent.specs.Memory.{Puts}
use Rattle.format.specs.Tree.{Constant, Source, Parts, Functions, count, kept}
use Rattle.format.specs.Store.{Piece, word, ◌⊕◌, list, ints, constant_piece, children_piece, debug_piece, packed}
use Rattle.format.specs.Write.{dump_int, dump_code, dump_constants, dump_functions, dump_debug}
use Rattle.proto.specs.Walk.{Stands}
use Rattle.dump.specs.declared.list.Reached.{Reached}
use Rattle.dump.specs.declared.list.Dumper.{Dumper}

-- the place in the words, the bytes written so far, and the space
pub record Progress : Type 0 where
  pub at : ℕ
  pub len : ℕ
  pub out : List ℕ

-- the space as it is written: none where bytes are only counted
abbrev pub seen : Bool → List ℕ → List ℕ
seen stored out = cond stored out []

abbrev pub progress : Reached → List ℕ → Progress
progress s out = record { at = s.at; len = s.len; out = out }

-- from s to r: where the piece stands in the store, r is behind it, and the bytes are written
pub record Dumps (d : Dumper) (p : Piece) (bytes : List ℕ) (s r : Progress) : Type 0 where
  pub dumps : (to : ℕ) → Stands d.store.words.now d.store.text.now s.at to p → (r.at ≡ s.at + length (p.words to)) × Puts bytes s.len s.out r.len r.out

-- ---- pieces

-- the constants of a function, and the functions in it
abbrev pub constants_piece : List Constant → Functions → Piece
constants_piece constants fs = list constant_piece constants ⊕ children_piece fs

-- what stands behind the source of a function
abbrev pub parts_piece : Parts → Functions → Piece
parts_piece p fs =
    word p.line_defined
    ⊕ word p.last_line_defined
    ⊕ word (packed p)
    ⊕ ints p.code
    ⊕ list constant_piece p.constants
    ⊕ children_piece fs
    ⊕ debug_piece p.debug

-- ---- what is written of them

-- a source, or none
abbrev pub as_source : Option (Bor (List ℕ)) → Source
as_source None = Source.inherited
as_source (Some s) = Source.own s.now

-- what stands behind the source: strip, the width of sizes, and the source
abbrev pub dump_parts : Bool → Bool → List ℕ → Parts → Functions → List ℕ
dump_parts strip size4 source p fs =
    dump_int p.line_defined
    ++ dump_int p.last_line_defined
    ++ (p.num_upvalues ∷ p.num_params ∷ p.is_vararg ∷ p.max_stack_size ∷ [])
    ++ dump_code p.code
    ++ dump_constants size4 p.constants (count fs) (dump_functions fs strip size4 source)
    ++ dump_debug size4 (kept strip p.debug)
