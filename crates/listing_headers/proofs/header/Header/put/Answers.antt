-- Line one, then line two.
-- Tried by an attribute with these laws: it stays open.
use Rattle.lent.proofs.Writers.{writes_then}
use Rattle.listing_headers.proofs.header.Header.put.Goals as goal

pub returns : goal.returns
returns c = λ text p fs h. writes_then (c.put_kind.ensures text p fs h) (c.put_counts.ensures text p fs h)
