-- What is found is refused as the call is.
-- The refusal goes by the attribute. Tried for this goal: it stays open, as grind finds no instance of the law, which ends in an equation without the source found.
use Rattle.proto.proofs.Sources.{place_here}
use Rattle.proto.proofs.store.Store.has_function.Goals as goal

pub returns : goal.returns
returns c = search (place_here, c.in_ok-find.ensures)
