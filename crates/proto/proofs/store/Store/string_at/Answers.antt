-- There it stands in the text.
-- Tried by an attribute: `returns` stays open, as grind finds no instance of a law that ends in an equation without the places.
use Rattle.proto.proofs.Items.{string_here}
use Rattle.proto.proofs.store.Store.string_at.Goals as goal

pub returns : goal.returns
returns c s to h = string_here s (c.string_at.ensures s _ to h) c.of.ensures h
