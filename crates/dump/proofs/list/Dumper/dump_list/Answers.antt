-- One item more, then those behind it.
-- `returns` goes by the attribute. Tried for this one, with these laws: it stays open.
use Rattle.format.proofs.Loops.{loop_turn}
use Rattle.dump.proofs.Lists.{all_more}
use Rattle.dump.proofs.list.Dumper.dump_list.Goals as goal

pub loop-preserved : goal.loop-preserved
loop-preserved g c = loop_turn c.loop-test.true c.loop.invariant (all_more (λ a k. c.dump_item-r.ensures a))
