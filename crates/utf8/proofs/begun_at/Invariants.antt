-- k bytes are in their ranges so far, and the range of the next is from low to high.
use Rattle.lent.proofs.Prelude.{◌≤◌, max}
use Rattle.utf8.specs.Utf8.{◌‥◌}
use Rattle.utf8.proofs.Rows.{Begun}
use Rattle.utf8.proofs.begun_at.Given as goal

abbrev pub invariant-loop-k : goal.invariant-loop-k
invariant-loop-k l = (l.k ≤ max l.n 1) × Begun l.bytes l.at l.n l.k (l.low ‥ l.high)
