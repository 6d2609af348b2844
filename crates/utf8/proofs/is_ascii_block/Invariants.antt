-- The greatest byte so far says whether those so far are ASCII.
use Rattle.utf8.proofs.Ascii.{Greatest}
use Rattle.utf8.proofs.is_ascii_block.Given as goal

abbrev pub invariant-loop-i : goal.invariant-loop-i
invariant-loop-i l = Greatest l.bytes l.at l.i l.top
