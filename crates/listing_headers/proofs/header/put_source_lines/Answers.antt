-- The parts one after the other, the source without its @. By an attribute it stays open, since of a text that computes grind sees no ++, and so it does by search
-- (rules, writes_then).
use Rattle.lent.proofs.Writers.{writes_then}
use Rattle.listing_headers.proofs.header.put_source_lines.Goals as goal

pub returns : goal.returns
returns c = rw (← c.display_source.ensures) (writes_then (writes_then (writes_then (writes_then (writes_then (writes_then c.put_bytes.ensures c.put_bytes-2.ensures) c.put_byte.ensures) c.put_u32.ensures) c.put_byte-2.ensures) c.put_u32-2.ensures) c.put_byte-3.ensures)
