-- get_local_name_in: the lookup of get_local_name in a lent slice of records.
use Rattle.std.specs.Prelude.{ℕ, ◌+◌, ◌*◌, List, cond, length, eqb, leb, Result, Ok, Err}
use Rattle.format.specs.Tree.{Local, Function, parts_of}
use Rattle.format.specs.Refusal.{number}
use Rattle.format.specs.declared.Refusal.{Refusal}
use Rattle.format.specs.declared.Span.{Span}
use Rattle.proto.specs.Walk.{to_locals}
use Rattle.proto.specs.Places.{on_place}
use Rattle.debug_info.specs.Names.{active_local, get_local_name}
use Rattle.debug_info.specs.Calls.{NameLeft, name_refused, named}
use Rattle.debug_info.specs.declared.answer.Named.{Named}
use Rattle.local_records.specs.Records.{records_filled}
use Rattle.local_records.specs.declared.record.LocalRecord.{LocalRecord}

abbrev pub locals_of : Function → List Local
locals_of f = (parts_of f).debug.locals

-- where the locals of a function that begins at a place stand in the words, behind their count
abbrev pub locals_at : ℕ → Function → ℕ
locals_at place (Function.function p fs) = place + length ((to_locals p fs).words 0) + 1

-- an answer, with what then stands in lent memory
pub record LookupLeft : Type 0 where
  pub answer : Named
  pub records : List LocalRecord
  pub out : List ℕ

abbrev pub lookup_left : Named → List LocalRecord → List ℕ → LookupLeft
lookup_left r records out = record { answer = r; records = records; out = out }

-- what get_local_name leaves; the records are filled where it does not refuse
abbrev pub with_records : List LocalRecord → List LocalRecord → NameLeft → LookupLeft
with_records before after w = lookup_left w.answer (cond (eqb w.answer.refusal 0) after before) w.out

-- get_local_name_in(records, words, text, place, local_number, pc, out): refused by 10, 12, 8 where the records are fewer than the locals, 11
unfoldable pub local_named_in : List LocalRecord → List ℕ → List ℕ → ℕ → ℕ → ℕ → List ℕ → LookupLeft
local_named_in records words text place n pc out =
    on_place (λ r. with_records records records (name_refused out r))
    (λ x. cond (leb (length (locals_of x.function)) (length records))
    (with_records records (records_filled records words (locals_at place x.function) (length (locals_of x.function))) (named (get_local_name (locals_of x.function) n pc) out))
    (with_records records records (name_refused out 8))) words text place

-- ---- before the records are filled

-- an answer, with a refusal as its number
abbrev pub numbered : {A : Type 0} → Result A Refusal → Result A ℕ
numbered (Ok a) = Ok a
numbered (Err e) = Err (number e)

abbrev pub no_locals : ℕ → Result Span ℕ
no_locals r = Err r

-- the refusal for so many records and so much space, or where the words of the locals stand
unfoldable pub locals_for : List ℕ → List ℕ → ℕ → ℕ → ℕ → ℕ → ℕ → Result Span ℕ
locals_for words text place n pc records space =
    on_place no_locals
    (λ x. cond (leb (length (locals_of x.function)) records)
    (cond (leb (length (active_local (locals_of x.function) n pc).name) space) (Ok (record { start = locals_at place x.function; len = 4 * length (locals_of x.function) })) (no_locals 11))
    (no_locals 8)) words text place
