-- What is left to write are the items from i on.
use Rattle.listing_headers.proofs.Enumerates.{EnumeratesList}
use Rattle.listing_headers.proofs.list.put_list.Given as goal

abbrev pub invariant-loop-i : goal.invariant-loop-i
invariant-loop-i g l = EnumeratesList l.store l.place g.T.Item.piece g.T.Item.line l.i l.w l.initial.w
