-- The loop's invariant: whatever passes the other functions from here passes all of them from the start.
-- Tried by an attribute: `pass-returns` and `pass_all-returns` stay open.
use Rattle.lent.proofs.Prelude.{arith}
use Rattle.format.proofs.Loops.{loop_turn, loop_end}
use Rattle.proto.proofs.Walks.{all_none, all_more, none_deep, pass_inside, passes_lines}
use Rattle.proto.proofs.walk.+pass_pass_all.Goals as goal

pub pass-returns-then-allowance-eq0 : goal.pass-returns-then-allowance-eq0
pass-returns-then-allowance-eq0 t c f v = absurd (none_deep c.if-allowance-eq0.true f v)

pub pass-returns : goal.pass-returns
pass-returns t c = search (pass_inside, passes_lines)

pub pass_all-loop-preserved : goal.pass_all-loop-preserved
pass_all-loop-preserved t c = search (loop_turn, all_more)

pub pass_all-returns : goal.pass_all-returns
pass_all-returns t c = loop_end (omega arith) c.loop.invariant all_none
