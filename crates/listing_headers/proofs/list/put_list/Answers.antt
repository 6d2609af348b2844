-- Behind the last item the list is written. By an attribute with this law it stays open.
use Rattle.listing_headers.proofs.Enumerates.{list_end}
use Rattle.listing_headers.proofs.list.put_list.Goals as goal

pub returns : goal.returns
returns g c = list_end g.T.Item.noun c.args.number c.loop-i.invariant (rw c.noun.ensures at c.put_title.ensures) c.word_at-n.ensures c.loop-i-test.false
