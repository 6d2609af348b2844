-- The loop's invariant: the records from here on lead to what all of them do.
use Rattle.local_records.proofs.Records.{Searching}
use Rattle.local_records.proofs.find.Given as goal

abbrev pub invariant-loop-r : goal.invariant-loop-r
invariant-loop-r l = Searching l.records l.pc l.local_number l.r-index l.remaining
