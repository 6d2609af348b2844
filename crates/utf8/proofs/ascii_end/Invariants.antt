-- Behind the blocks, each byte below 0x80 goes on with the text so far.
use Rattle.utf8.specs.Text.{Text}
use Rattle.utf8.proofs.ascii_end.Given as goal

abbrev pub invariant-loop-i : goal.invariant-loop-i
invariant-loop-i l = Text l.bytes l.at l.i
