-- The root stands at place 0, and a tree has no more functions than words, so that no number stops at the farthest.
-- Tried by an attribute with these laws: it stays open.
use Rattle.lent.proofs.Prelude.{rules}
use Rattle.listing.proofs.Calls.{root_writes, writes_end}
use Rattle.listing.proofs.list_root.Goals as goal

pub returns : goal.returns
returns c = λ f h. writes_end (root_writes (rw c.new.ensures at c.list.ensures.lists) f h) (search rules)
