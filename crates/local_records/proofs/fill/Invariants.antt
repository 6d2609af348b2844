-- The loop's invariant: so many records are filled.
use Rattle.lent.proofs.Prelude.{◌≡◌, length}
use Rattle.local_records.proofs.Records.{Filling}
use Rattle.local_records.proofs.fill.Given as goal

abbrev pub invariant-loop-i : goal.invariant-loop-i
invariant-loop-i l = (length l.records ≡ length l.initial.records) × Filling l.initial.records l.words l.i l.records
