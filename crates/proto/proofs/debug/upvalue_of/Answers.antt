-- Past the count there is no name, before it name i stands there. By an attribute both returns stay open, as those of constant_of do.
use Rattle.format.specs.contracts.NamesStoredItem.TheImpl.{ghosts as Names}
use Rattle.format.proofs.Stored.{here_part}
use Rattle.proto.proofs.Items.{nth_none, nth_some}
use Rattle.proto.proofs.debug.upvalue_of.Goals as goal

pub returns-in_err-nth_at : goal.returns-in_err-nth_at
returns-in_err-nth_at c t l s = rw c.from_residual.ensures (nth_none Names l s c.in_err-nth_at.ensures)

pub returns : goal.returns
returns c t l s = nth_some Names l s c.in_ok-nth_at.ensures (λ v x. rw (c.string_at.ensures v t x.to x.stands) (here_part v x.stands.in_text))
