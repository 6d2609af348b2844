-- Each list stands behind the one before it, and the lines where find_lines says.
-- Tried by an attribute: the clause stays open, as grind takes no premise that is a promise for every tree.
use Rattle.proto.proofs.ListPlaces.{lists_found}
use Rattle.proto.proofs.lists.Way.lists.Goals as goal

pub returns-clause-lists : goal.returns-clause-lists
returns-clause-lists g c = search lists_found
