-- The parts one after the other.
-- Tried by an attribute with these laws: it stays open.
use Rattle.listing_operands.proofs.Fits.{fits_then}
use Rattle.listing_lines.proofs.fit_start.Goals as goal

pub returns : goal.returns
returns g c =
    let index = fits_then (fits_then c.fit_byte-a.ensures c.fit_decimal-b.ensures) c.fit_byte-c.ensures in
    let name = fits_then (fits_then (fits_then index c.fit_line-d.ensures) c.fit_byte-e.ensures) c.fit_name-f.ensures in
    rw (← c.opcode-op.ensures) (fits_then (fits_then name c.fit_byte-g.ensures) c.fit_operands.ensures)
