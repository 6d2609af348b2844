-- Three lists, one after the other.
-- By an attribute, search does not close what is answered here.
use Rattle.load_function.proofs.Trees.{debug_loaded}
use Rattle.load_function.proofs.load_debug.Goals as goal

pub returns : goal.returns
returns c = debug_loaded c.in_ok-load_ints.ensures.loads c.in_ok-load_list.ensures c.load_list-2.ensures
