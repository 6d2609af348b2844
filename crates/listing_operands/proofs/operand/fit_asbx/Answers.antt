-- JMP has no A, the others have.
-- Tried by an attribute with these laws: it stays open.
use Rattle.lent.proofs.Prelude.{ne_eqb}
use Rattle.listing_operands.proofs.Fits.{fits_then}
use Rattle.listing_operands.proofs.operand.fit_asbx.Goals as goal

pub returns : goal.returns
returns g c = rw (ne_eqb _ _ c.if-op-eq-OP_JMP.false, ← c.a.ensures, ← c.bx-bx.ensures) (fits_then (fits_then c.fit_decimal-a.ensures c.fit_byte-b.ensures) c.fit_difference-2.ensures)
