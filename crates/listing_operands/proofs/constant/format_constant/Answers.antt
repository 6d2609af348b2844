-- There is no such constant, or there is.
-- Tried by an attribute with this law: both goals stay open.
use Rattle.lent.proofs.Prelude.{none, some, not, eqb}
use Rattle.format.specs.Store.{constant_piece}
use Rattle.format.specs.Constants.{value_of}
use Rattle.listing_operands.specs.Operands.{constant_text}
use Rattle.listing_operands.proofs.ShownLists.{shows_of}
use Rattle.listing_operands.proofs.constant.format_constant.Goals as goal

pub returns-in-None : goal.returns-in-None
returns-in-None g c = shows_of constant_piece (constant_text (not (eqb g.row.RAW 0))) _ none (c.in-None.ensures _) c.put_bytes.ensures

pub returns-in-Some : goal.returns-in-Some
returns-in-Some g c = shows_of constant_piece (constant_text (not (eqb g.row.RAW 0))) _ (some (value_of _ c.in-Some.k)) (c.in-Some.ensures _) c.put_constant.ensures
