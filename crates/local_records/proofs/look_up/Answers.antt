-- Refused before the records are filled, or they are filled, searched, and the name is written.
-- Tried by an attribute with this law: returns stays open.
use Rattle.local_records.proofs.Lookup.{in_answered}
use Rattle.local_records.proofs.look_up.Goals as goal

pub returns : goal.returns
returns c = in_answered _ _ _ _ _ _ _ _ (rw c.low-pc.ensures at c.in_ok-span.ensures) c.of.ensures _ c.as_chunks.ensures.front_len c.as_chunks.ensures.front c.fill.ensures (rw c.low-pc.ensures at c.find.ensures) c.write_known.ensures
