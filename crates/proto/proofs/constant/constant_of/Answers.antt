-- Past the count there is no constant, before it constant i stands there.
-- Tried by an attribute: both returns stay open, as grind finds no instance of a law that ends in an equation without the places.
use Rattle.format.specs.contracts.ConstantsStoredItem.TheImpl.{ghosts as Constants}
use Rattle.proto.proofs.Items.{nth_none, nth_some}
use Rattle.proto.proofs.constant.constant_of.Goals as goal

pub returns-in_err-nth_at : goal.returns-in_err-nth_at
returns-in_err-nth_at c t l s = rw c.from_residual.ensures (nth_none Constants l s c.in_err-nth_at.ensures)

pub returns : goal.returns
returns c t l s = nth_some Constants l s c.in_ok-nth_at.ensures (λ v x. c.constant_at.ensures.value v t x.to x.stands)
