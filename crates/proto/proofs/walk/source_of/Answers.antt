-- A function's source stands where it begins.
-- Tried by an attribute: `returns` stays open, as grind does not go from the function that stands there to its source.
use Rattle.proto.proofs.Items.{source_stands}
use Rattle.proto.proofs.walk.source_of.Goals as goal

pub returns : goal.returns
returns c p fs h = c.own_source.ensures p.source h.to (source_stands p fs h.stands)
