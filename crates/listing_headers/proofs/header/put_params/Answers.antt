-- The parts one after the other. By an attribute it stays open: of a text that computes grind sees no ++.
use Rattle.lent.proofs.Prelude.{rules}
use Rattle.lent.proofs.Writers.{writes_then}
use Rattle.listing_headers.proofs.header.put_params.Goals as goal

pub returns : goal.returns
returns c = search (rules, writes_then)
