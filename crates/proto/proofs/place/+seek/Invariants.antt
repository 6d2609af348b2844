-- The loop's invariant: whatever the search answers for the other functions from here, it answers for all of them. The allowance falls.
use Rattle.lent.proofs.Prelude.{◌-◌}
use Rattle.format.proofs.Loops.{Loop}
use Rattle.proto.proofs.Places.{SearchAll}
use Rattle.proto.proofs.place.+seek.Given as goal

abbrev pub decreases-seek : goal.decreases-seek
decreases-seek l = l.allowance

abbrev pub invariant-loop : goal.invariant-loop
invariant-loop l = Loop (SearchAll l.words l.place l.source (l.allowance - 1)) l.n l.initial.next l.counter l.next
