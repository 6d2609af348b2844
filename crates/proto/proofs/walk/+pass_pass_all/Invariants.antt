-- The loop's invariant: whatever passes the other functions from here passes all of them from the start.
-- The measure is twice the allowance, and one more for pass_all, which calls pass at the same allowance.
use Rattle.lent.proofs.Prelude.{◌+◌}
use Rattle.proto.specs.Walk.{PassesAll}
use Rattle.format.proofs.Loops.{Loop}
use Rattle.proto.proofs.walk.+pass_pass_all.Given as goal

abbrev pub decreases-pass : goal.decreases-pass
decreases-pass l = l.allowance + l.allowance

abbrev pub decreases-pass_all : goal.decreases-pass_all
decreases-pass_all l = l.allowance + l.allowance + 1

abbrev pub invariant-pass_all-loop : goal.invariant-pass_all-loop
invariant-pass_all-loop l = Loop (PassesAll l.words l.allowance) l.n l.initial.r l.counter l.r
