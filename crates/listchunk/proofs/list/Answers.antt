-- The refusal of reading is passed on. In list's attribute, where the law of the listing stands, search gives up on this one at a limit.
use Rattle.lent.proofs.Prelude.{rules}
use Rattle.listchunk.proofs.Listed.{chunk_refused}
use Rattle.listchunk.proofs.list.Goals as goal

pub returns-then-u-gt0 : goal.returns-then-u-gt0
returns-then-u-gt0 c = search (rules, chunk_refused)
