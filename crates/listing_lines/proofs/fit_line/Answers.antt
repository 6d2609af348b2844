-- The line is known, or not.
-- Tried by an attribute with these laws: it stays open.
use Rattle.lent.proofs.Prelude.{arith}
use Rattle.listing_operands.proofs.Fits.{fits_then, fits_more}
use Rattle.listing_lines.proofs.fit_line.Goals as goal
use Rattle.listing_lines.proofs.fit_line.Goals.{in-Some, in-None}

pub returns : goal.returns
returns g c = elim c.match-line.branch [
  | in-Some w ↦ rw w.in-Some.is (fits_then (fits_then c.fit_byte-a.ensures w.fit_decimal-b.ensures) (rw (w.b-is, w.out-is) at c.fit_byte.ensures))
  | in-None w ↦ rw w.in-None.is (fits_more (omega arith) (fits_then (fits_then c.fit_byte-a.ensures w.fit_byte-b.ensures) (rw (w.b-is, w.out-is) at c.fit_byte.ensures)))
]
