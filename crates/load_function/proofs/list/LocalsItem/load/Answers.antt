-- A name and two integers, as the definition reads a local.
-- By an attribute, search does not close what is answered here.
use Rattle.load_function.proofs.Trees.{local_loaded}
use Rattle.load_function.proofs.list.LocalsItem.load.Goals as goal

pub returns : goal.returns
returns c = local_loaded c.in_ok-load_name.ensures c.in_ok-copy_int.ensures.loads c.copy_int-2.ensures.loads
