-- The loop's invariant: the locals from here on lead to what all of them do.
use Rattle.debug_info.proofs.Lists.{Searching}
use Rattle.debug_info.proofs.list.active_local.Given as goal

abbrev pub invariant-loop-i : goal.invariant-loop-i
invariant-loop-i l = Searching l.words l.locals l.pc l.n l.i l.remaining
