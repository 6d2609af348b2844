-- The source stands where the search says, in the text or in the chunk name.
-- Tried by an attribute: the three goals stay open.
use Rattle.std.specs.Prelude.{Ok, Err}
use Rattle.lent.proofs.Prelude.{◌∙◌}
use Rattle.proto.proofs.Sources.{source_part_law}
use Rattle.proto.proofs.place.source.Goals as goal

pub returns-in-Ok-Text : goal.returns-in-Ok-Text
returns-in-Ok-Text c = c.between.ensures ∙ (rw c.in-Ok-Text.field-0-is at (source_part_law _ _ _ _ (Ok c.in-Ok-Text.field-0) c.in-Ok-Text.ensures)).is

pub returns-in-Ok-Name : goal.returns-in-Ok-Name
returns-in-Ok-Name c = c.between-in-Ok-Name.ensures ∙ (rw c.in-Ok-Name.field-0-is at (source_part_law _ _ _ _ (Ok c.in-Ok-Name.field-0) c.in-Ok-Name.ensures)).is

pub returns-in-Err : goal.returns-in-Err
returns-in-Err c = source_part_law _ _ _ _ (Err c.in-Err.field-0) c.in-Err.ensures
