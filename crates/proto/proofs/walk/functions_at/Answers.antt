-- The functions stand behind the constants.
-- Tried by an attribute: `returns` stays open, as grind takes no premise that is a promise for every tree, here of constants_at.
use Rattle.format.specs.contracts.ConstantsStoredItem.TheImpl.{ghosts as Constants}
use Rattle.proto.proofs.Walks.{past_then, past_list}
use Rattle.proto.proofs.walk.functions_at.Goals as goal

pub returns : goal.returns
returns c p fs = past_then (c.constants_at.ensures p fs) (past_list Constants p.constants c.after_list.ensures)
