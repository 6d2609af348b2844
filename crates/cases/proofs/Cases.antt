-- The scope's cases, proved together: each definition, evaluated, gives what the scope says.
use Rattle.lent.proofs.Prelude.{◌≡◌, refl, map, dec_le, dec_lt, ℕ_discrete}
use Rattle.lent.specs.Memory.{Every}
use Rattle.utf8.specs.Utf8.{repair_up_to, utf8_up_to, first_step, whole, begun, matched}
use Rattle.instructions.specs.OpCodes.{opcodes, is_jump}
use Rattle.format.specs.Tree.{count}
use Rattle.format.specs.Read.{load_size, load_header, load_function, load_constants, load_debug, many, many_functions, little_endian, same}
use Rattle.format.specs.Write.{dump_function, dump_number, each}
use Rattle.format.specs.Store.{function_piece, pieces}
use Rattle.format.specs.Valid.{Valid}
use Rattle.format.specs.Stored.{tree_of, stored_function, both?, as?, true?, every?, same?, valid?}
use Rattle.format.specs.Undump.{measured, undumped, stored, load_chunk, repaired}
use Rattle.format.specs.Dump.{dumped}
use Rattle.proto.specs.Walk.{item, children}
use Rattle.proto.specs.Places.{placed, begins_at}
use Rattle.symbexec.specs.SymbExec.{symbexec, last_write, writes, sets_a, also_writes, operands, followed, next_pc}
use Rattle.debug_info.specs.Names.{get_local_name, active_local, searched, wrote, moves_up}
use Rattle.debug_info.specs.Calls.{symbexec_answer, local_named, object_named}
use Rattle.cases.specs.Cases.{Case, cases, reading, refusing, storing, writing, repairing, instructions, executing, naming, sample}

pub cases_hold : map (λ (c : Case). c.gives) cases ≡ map (λ (c : Case). c.says) cases
unfolding cases reading refusing storing writing repairing instructions executing naming sample measured undumped stored load_chunk load_header same load_size load_function load_constants load_debug many many_functions little_endian repaired repair_up_to utf8_up_to first_step whole begun matched function_piece pieces count dumped tree_of stored_function both? as? true? every? same? valid? dec_le dec_lt ℕ_discrete Every Valid dump_function dump_number each symbexec_answer local_named object_named placed begins_at item children symbexec last_write writes sets_a also_writes operands is_jump followed next_pc get_local_name active_local searched wrote moves_up opcodes
cases_hold = refl
