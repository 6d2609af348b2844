-- There is no function in it, or the first is walked through and the others are passed. The allowance falls.
-- Tried by an attribute: the five goals stay open.
use Rattle.lent.proofs.Prelude.{arith}
use Rattle.proto.proofs.Walks.{passes_lines}
use Rattle.proto.proofs.ListPlaces.{walked, all_zero, all_deep, all_first}
use Rattle.proto.proofs.lists.Way.+walk_lines.Goals as goal

pub keep-requires : goal.keep-requires
keep-requires g t c = (omega arith, walked {s = c.args.s} {r = c.first_in-first.result} (search (passes_lines, all_zero)))

pub keep-requires-2 : goal.keep-requires-2
keep-requires-2 g t c = (omega arith, rw c.walk_lines-inner.ensures.store (walked {s = c.args.s} {r = c.pass_all-r.result} (search (passes_lines, all_first))))

pub returns-then-n-eq0-clause-walks : goal.returns-then-n-eq0-clause-walks
returns-then-n-eq0-clause-walks g t c = search (passes_lines, all_zero)

pub returns-then-allowance-eq0-clause-walks : goal.returns-then-allowance-eq0-clause-walks
returns-then-allowance-eq0-clause-walks g t c = search (passes_lines, all_deep)

pub returns-clause-walks : goal.returns-clause-walks
returns-clause-walks g t c = search (passes_lines, all_first)
