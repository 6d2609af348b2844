-- The sign, then the number.
-- Tried by an attribute with these laws: it stays open.
use Rattle.listing_operands.proofs.Fits.{fits_then}
use Rattle.listing_operands.proofs.fit.fit_negative.Goals as goal

pub returns : goal.returns
returns g c = fits_then c.fit_byte-a.ensures c.fit_decimal.ensures
