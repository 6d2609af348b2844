-- 1, and a name behind it.
-- By an attribute, search does not close what is answered here.
use Rattle.load.proofs.Stores.{stores_then}
use Rattle.load.proofs.Loader.put_source.Goals as goal

pub returns : goal.returns
returns c = stores_then c.put.ensures.stores c.put_name.ensures
