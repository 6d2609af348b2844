-- The records filled so far, one more by a turn. Named in an attribute, the same laws close neither goal.
use Rattle.lent.proofs.Prelude.{length-set, rules}
use Rattle.local_records.proofs.Records.{filling_more, filling_all}
use Rattle.local_records.proofs.fill.Goals as goal

pub loop-i-preserved : goal.loop-i-preserved
loop-i-preserved c = search (rules, length-set, filling_more)

pub returns : goal.returns
returns c = search (rules, filling_all)
