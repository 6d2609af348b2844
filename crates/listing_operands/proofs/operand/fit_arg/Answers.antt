-- A space, then the operand.
-- Tried by an attribute with these laws: it stays open.
use Rattle.lent.proofs.Prelude.{◌≡◌, false, rules}
use Rattle.listing_operands.specs.Operands.{is_n}
use Rattle.listing_operands.proofs.Fits.{fits_then}
use Rattle.listing_operands.proofs.operand.fit_arg.Goals as goal

pub returns : goal.returns
returns g c =
    let e : is_n c.args.mode ≡ false = search rules in
    rw e (fits_then c.fit_byte-a.ensures c.fit_rk.ensures)
