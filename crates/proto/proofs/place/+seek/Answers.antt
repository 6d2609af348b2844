-- The loop's invariant: whatever the search answers for the other functions from here, it answers for all of them. The allowance falls.
-- Tried by an attribute: `returns-in_err-next` and `loop-preserved` stay open, the search gives up at a limit.
use Rattle.format.proofs.Loops.{loop_turn}
use Rattle.proto.proofs.Walks.{none_deep}
use Rattle.proto.proofs.Places.{search_more, search_here, search_inside, search_outside}
use Rattle.proto.proofs.place.+seek.Goals as goal

pub returns-then-allowance-eq0 : goal.returns-then-allowance-eq0
returns-then-allowance-eq0 t c f v = absurd (none_deep c.if-allowance-eq0.true f v)

pub returns-then-place-at : goal.returns-then-place-at
returns-then-place-at t c f v = search_here c.own_span-source.ensures c.if-place-at.true f

pub returns-in_err-next : goal.returns-in_err-next
returns-in_err-next t c = rw c.from_residual.ensures (search (search_inside, c.in_err-next.ensures))

pub loop-preserved : goal.loop-preserved
loop-preserved t c = loop_turn c.loop-test.true c.loop.invariant (search_more c.in_ok-next.ensures)

pub returns : goal.returns
returns t c = search search_outside
