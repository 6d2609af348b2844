-- What a function's parts and the functions inside it are read and stored as, names repaired.
use Rattle.std.specs.Prelude.{ℕ, ◌+◌, ◌*◌, List, map}
use Rattle.utf8.specs.Utf8.{repair}
use Rattle.format.specs.Tree.{Local, Debug, Function}
use Rattle.format.specs.Read.{Reader, ◌>>=◌, return, load_byte, Constants}
use Rattle.format.specs.Store.{Piece, ◌⊕◌, word, string, list, constant_piece, local_piece, debug_piece, function_piece, children_piece}
use Rattle.format.specs.Undump.{repaired_local, repaired_debug, repaired, repaired_all}

-- num_upvalues, num_params, is_vararg and max_stack_size: four bytes, which stand in one word
pub record Limits : Type 0 where
  pub nu : ℕ
  pub np : ℕ
  pub va : ℕ
  pub ms : ℕ

abbrev pub load_limits : Reader Limits
load_limits = do
  nu ← load_byte
  np ← load_byte
  va ← load_byte
  ms ← load_byte
  return (record { nu = nu; np = np; va = va; ms = ms })

abbrev pub limits_piece : Limits → Piece
limits_piece l = word (((l.nu * 256 + l.np) * 256 + l.va) * 256 + l.ms)

abbrev pub repaired_local_piece : Local → Piece
repaired_local_piece v = local_piece (repaired_local v)

abbrev pub repaired_locals : List Local → Piece
repaired_locals l = list local_piece (map repaired_local l)

abbrev pub repaired_names : List (List ℕ) → Piece
repaired_names l = list string (map repair l)

abbrev pub repaired_debug_piece : Debug → Piece
repaired_debug_piece d = debug_piece (repaired_debug d)

abbrev pub repaired_constants : Constants → Piece
repaired_constants c = list constant_piece c.constants ⊕ children_piece (repaired_all c.functions)

abbrev pub repaired_function : Function → Piece
repaired_function f = function_piece (repaired f)
