-- They are kept, or found by a walk.
-- Tried by an attribute: the goal stays open, as grind takes no premise that is a promise for every tree.
use Rattle.proto.proofs.ListPlaces.{walked}
use Rattle.proto.proofs.lists.Way.find_lines.Goals as goal

pub returns-in-None-clause-found : goal.returns-in-None-clause-found
returns-in-None-clause-found g c = walked c.walk_lines.ensures.walks
