-- No byte so far.
-- Tried by an attribute with this law: `loop-i-init` stays open.
use Rattle.utf8.proofs.Ascii.{greatest_none}
use Rattle.utf8.proofs.is_ascii_block.Goals as goal

pub loop-i-init : goal.loop-i-init
loop-i-init c = greatest_none
