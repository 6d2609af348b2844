-- What is left of the words is no more than all of them.
use Rattle.std.proofs.Common.{length, ◌≤◌}
use Rattle.test_records.proofs.store.Space.read.Given as goal

abbrev pub invariant-loop : goal.invariant-loop
invariant-loop g l = length l.words ≤ g.row.W
