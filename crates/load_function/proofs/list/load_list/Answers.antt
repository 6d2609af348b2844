-- Reading the items that are left ends the whole list; a refusal ends it at once.
-- By an attribute, search does not close what is answered here.
use Rattle.lent.proofs.Prelude.{arith}
use Rattle.load.proofs.Steps.{refused_with}
use Rattle.load_function.proofs.Lists.{plain_items, loading_start, loading_turn, loading_refused, loading_end}
use Rattle.load_function.proofs.list.load_list.Goals as goal

pub loop-i-init : goal.loop-i-init
loop-i-init g c = loading_start (plain_items g.T.Item.reader g.T.Item.piece)

pub returns-in_err-load : goal.returns-in_err-load
returns-in_err-load g c = refused_with c.from_residual-in_err-load.ensures.1 (loading_refused (plain_items g.T.Item.reader g.T.Item.piece) c.in_ok-n.ensures.loads c.loop-i.invariant (omega arith) c.in_err-load.ensures)

pub loop-i-preserved : goal.loop-i-preserved
loop-i-preserved g c = loading_turn (plain_items g.T.Item.reader g.T.Item.piece) c.loop-i.invariant (omega arith) c.in_ok-load.ensures

pub returns : goal.returns
returns g c = loading_end c.in_ok-n.ensures.loads c.loop-i.invariant (omega arith)
