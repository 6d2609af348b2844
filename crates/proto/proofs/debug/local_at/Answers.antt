-- A name, and behind it two words. By an attribute with this law it stays open.
use Rattle.proto.proofs.Items.{local_is}
use Rattle.proto.proofs.debug.local_at.Goals as goal

pub returns : goal.returns
returns c = search local_is
