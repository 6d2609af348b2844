-- What is read of the local that stands there is the local.
-- Tried by an attribute with these laws: it stays open.
use Rattle.lent.proofs.Writers.{writes_then}
use Rattle.listing_headers.proofs.list.LocalsItem.put_line.Goals as goal

pub returns : goal.returns
returns c =
    record {
      shows = λ v s.
          rw (← c.local_at-v.ensures _ v (record { to = s.to; stands = s.stands }))
          (writes_then (writes_then (writes_then (writes_then (rw c.from.ensures at c.put_index.ensures) (rw c.of.ensures at c.put_bytes.ensures)) c.put_raised.ensures) c.put_raised-2.ensures) c.put_byte.ensures);
    }
