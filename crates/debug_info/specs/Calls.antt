-- What the naming calls answer, and what they leave in lent memory.
use Rattle.std.specs.Prelude.{ℕ, List, cond, length, eqb, leb, Option, Some, None, Result, Ok, Err}
use Rattle.format.specs.Tree.{Function, parts_of}
use Rattle.format.specs.Dump.{WriteLeft, write_refused, written}
use Rattle.format.specs.Refusal.{number}
use Rattle.format.specs.declared.Refusal.{Refusal}
use Rattle.proto.specs.Places.{on_place}
use Rattle.symbexec.specs.SymbExec.{symbexec}
use Rattle.debug_info.specs.Names.{Object, get_local_name, kname, getobjname}
use Rattle.debug_info.specs.Kind.{number as kind_number}
use Rattle.debug_info.specs.declared.name.Kind.{Kind}
use Rattle.debug_info.specs.declared.answer.SymbExec.{SymbExec}
use Rattle.debug_info.specs.declared.answer.Named.{Named}

-- a call on a pc and a register of the function at a place: refused by 10, 12, 13, 14, in this order
abbrev pub on_register : {A : Type 0} → (ℕ → A) → (Function → A) → List ℕ → List ℕ → ℕ → ℕ → ℕ → A
on_register refuse answer words text place pc reg =
    on_place refuse
    (λ x. cond (leb pc (length (parts_of x.function).code)) (cond (leb reg 255) (answer x.function) (refuse 14)) (refuse 13)) words text place

-- its refusal, 0 where there is none
unfoldable pub register_refusal : List ℕ → List ℕ → ℕ → ℕ → ℕ → ℕ
register_refusal words text place pc reg = on_register (λ n. n) (λ f. 0) words text place pc reg

-- ---- symbexec(words, text, place, lastpc, reg)

abbrev pub no_instruction : ℕ → SymbExec
no_instruction n = record { refusal = n; instruction = 0 }

abbrev pub symbexec_result : Result ℕ Refusal → SymbExec
symbexec_result (Ok i) = record { refusal = 0; instruction = i }
symbexec_result (Err e) = no_instruction (number e)

unfoldable pub symbexec_answer : List ℕ → List ℕ → ℕ → ℕ → ℕ → SymbExec
symbexec_answer words text place lastpc reg = on_register no_instruction (λ f. record { refusal = 0; instruction = symbexec f lastpc reg }) words text place lastpc reg

-- ---- names

-- an answer, with what then stands in lent memory
pub record NameLeft : Type 0 where
  pub answer : Named
  pub out : List ℕ

abbrev pub name_left : Named → List ℕ → NameLeft
name_left r out = record { answer = r; out = out }

-- what is answered for a name's kind and length, where there is one
abbrev pub named_result : Result (Option (Kind × ℕ)) Refusal → Named
named_result (Ok None) = record { refusal = 0; kind = 0; len = 0 }
named_result (Ok (Some n)) = record { refusal = 0; kind = kind_number n.0; len = n.1 }
named_result (Err e) = record { refusal = number e; kind = 0; len = 0 }

abbrev pub name_refused : List ℕ → ℕ → NameLeft
name_refused out n = record { answer = record { refusal = n; kind = 0; len = 0 }; out = out }

-- by what writing the name leaves: 11 where it is too long
abbrev pub named_by : ℕ → WriteLeft → NameLeft
named_by kind w =
    cond (eqb w.answer.refusal 0) (record { answer = record { refusal = 0; kind = kind; len = w.answer.len }; out = w.out }) (name_refused w.out w.answer.refusal)

abbrev pub named : Object → List ℕ → NameLeft
named o out = named_by o.kind (written o.name out)

-- get_local_name(words, text, place, local_number, pc, out)
unfoldable pub local_named : List ℕ → List ℕ → ℕ → ℕ → ℕ → List ℕ → NameLeft
local_named words text place n pc out = on_place (name_refused out) (λ x. named (get_local_name (parts_of x.function).debug.locals n pc) out) words text place

-- kname(words, text, place, c, out)
unfoldable pub knamed : List ℕ → List ℕ → ℕ → ℕ → List ℕ → WriteLeft
knamed words text place c out = on_place (λ n. write_refused n out) (λ x. written (kname (parts_of x.function).constants c) out) words text place

-- getobjname(words, text, place, pc, stackpos, out)
unfoldable pub object_named : List ℕ → List ℕ → ℕ → ℕ → ℕ → List ℕ → NameLeft
object_named words text place pc stackpos out = on_register (name_refused out) (λ f. named (getobjname f pc stackpos) out) words text place pc stackpos
