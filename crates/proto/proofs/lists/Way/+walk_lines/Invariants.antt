-- There is no function in it, or the first is walked through and the others are passed. The allowance falls.
use Rattle.proto.proofs.lists.Way.+walk_lines.Given as goal

abbrev pub decreases-walk_lines : goal.decreases-walk_lines
decreases-walk_lines g l = l.allowance
