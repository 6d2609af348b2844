-- After the count one test tells whether all integers are there; then they are stored in a row.
-- By an attribute, search does not close what is answered here.
use Rattle.load.proofs.Fours.{ints_refused, ints_loaded}
use Rattle.load.proofs.Loader.load_ints.Goals as goal

pub returns-in_err-load_block-clause-loads : goal.returns-in_err-load_block-clause-loads
returns-in_err-load_block-clause-loads c = ints_refused c.in_ok-n.ensures.loads c.in_err-load_block.ensures c.from_residual-in_err-load_block.ensures.1

pub returns-clause-loads : goal.returns-clause-loads
returns-clause-loads c = ints_loaded c.in_ok-n.ensures.loads c.in_ok-load_block.ensures c.advance-bytes.ensures.0 c.advance-bytes.ensures.1 c.put_ints.ensures.stores
