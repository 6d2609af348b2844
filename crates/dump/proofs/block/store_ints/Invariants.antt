-- i integers are stored so far.
use Rattle.lent.proofs.Prelude.{◌≡◌, take, sets}
use Rattle.format.specs.Write.{dump_int, each}
use Rattle.dump.proofs.block.store_ints.Given as goal

abbrev pub invariant-loop-i : goal.invariant-loop-i
invariant-loop-i l = l.to ≡ sets l.initial.to 0 (each dump_int (take l.i l.l))
