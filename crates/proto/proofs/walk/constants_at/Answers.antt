-- The constants stand behind the code.
-- Tried by an attribute: `returns` stays open, as grind takes no premise that is a promise for every tree, here of code_at.
use Rattle.proto.proofs.Walks.{past_then, past_ints}
use Rattle.proto.proofs.walk.constants_at.Goals as goal

pub returns : goal.returns
returns c p fs = past_then (c.code_at.ensures p fs) (past_ints p.code c.after_list.ensures)
