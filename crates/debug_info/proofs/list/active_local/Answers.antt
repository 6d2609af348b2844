-- By what a local tells: the search breaks, or it goes on behind it.
-- Tried by an attribute with these laws: all but returns-in-Break stay open.
use Rattle.debug_info.proofs.Lists.{ends_over, ends_found, goes_on}
use Rattle.debug_info.proofs.list.active_local.Goals as goal

pub returns-in-Break : goal.returns-in-Break
returns-in-Break c = search (ends_found, c.in-Break.ensures)

pub loop-i-preserved : goal.loop-i-preserved
loop-i-preserved c = search (goes_on, c.in-Continue.ensures)

pub returns : goal.returns
returns c = search ends_over
