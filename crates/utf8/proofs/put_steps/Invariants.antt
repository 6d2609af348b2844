-- What is left to write is the repair of the bytes left: text as it is, then U+FFFD for an ill-formed step.
use Rattle.lent.proofs.Prelude.{◌-◌, ◌≤◌, length, drop}
use Rattle.lent.proofs.Writers.{WritesLeft}
use Rattle.utf8.specs.Utf8.{repair}
use Rattle.utf8.proofs.put_steps.Given as goal

abbrev pub invariant-loop-i : goal.invariant-loop-i
invariant-loop-i l = (l.i ≤ length l.bytes) × WritesLeft (repair (drop l.i l.bytes)) l.w (repair l.bytes) l.initial.w

abbrev pub decreases-loop-i : goal.decreases-loop-i
decreases-loop-i l = length l.bytes - l.i
