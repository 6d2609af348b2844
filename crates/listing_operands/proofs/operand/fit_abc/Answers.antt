-- The parts one after the other.
-- Tried by an attribute with these laws: it stays open.
use Rattle.listing_operands.proofs.Fits.{fits_then}
use Rattle.listing_operands.proofs.operand.fit_abc.Goals as goal

pub returns : goal.returns
returns g c = rw (← c.a.ensures, ← c.b.ensures, ← c.c.ensures) (fits_then (fits_then c.fit_decimal-a.ensures c.fit_arg-b.ensures) c.fit_arg.ensures)
