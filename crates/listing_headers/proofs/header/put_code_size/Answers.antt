-- The parts one after the other. By an attribute it stays open, since of a text that computes grind sees no ++, and so it does by search (rules, writes_then).
use Rattle.lent.proofs.Writers.{writes_then}
use Rattle.listing_headers.proofs.header.put_code_size.Goals as goal

pub returns : goal.returns
returns c = rw c.from.ensures at (writes_then (writes_then (writes_then (writes_then (writes_then (writes_then c.put_bytes.ensures c.put_amount.ensures) c.put_bytes-2.ensures) c.put_decimal.ensures) c.put_bytes-3.ensures) c.put_address.ensures) c.put_bytes-4.ensures)
