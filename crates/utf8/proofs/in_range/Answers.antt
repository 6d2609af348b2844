-- Past the end no byte stands; before it the test is the range's. An attribute can't name le-leb.
use Rattle.lent.proofs.Prelude.{rules, le-leb}
use Rattle.utf8.proofs.Rows.{begins_none, begins_some}
use Rattle.utf8.proofs.in_range.Goals as goal

pub returns-then-at-bytes : goal.returns-then-at-bytes
returns-then-at-bytes c = search (rules, begins_some, le-leb)

pub returns-else-at-bytes : goal.returns-else-at-bytes
returns-else-at-bytes c = search (rules, begins_none)
