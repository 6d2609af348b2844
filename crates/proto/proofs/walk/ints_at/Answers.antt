-- The count stands first, and the items behind it.
-- Tried by an attribute: `returns` stays open, as grind finds no instance of a law that ends in an equation without the places.
use Rattle.proto.proofs.Items.{ints_here}
use Rattle.proto.proofs.walk.ints_at.Goals as goal

pub returns : goal.returns
returns c = search ints_here
