-- The walk begins at the first instruction, goes on by one, and is over at lastpc.
-- Tried by an attribute with these laws, all or some: each search gives up at a limit.
use Rattle.lent.proofs.Prelude.{rules}
use Rattle.symbexec.proofs.Steps.{trace_start, trace_turn, trace_end}
use Rattle.symbexec.proofs.last_write.Goals as goal

pub loop-pc-init : goal.loop-pc-init
loop-pc-init c = search (rules, trace_start)

pub loop-pc-preserved : goal.loop-pc-preserved
loop-pc-preserved c = search (rules, trace_turn)

pub returns : goal.returns
returns c = search (rules, trace_end)
