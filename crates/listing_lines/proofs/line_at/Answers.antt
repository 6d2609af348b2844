-- It is got from the words that stand there.
-- Tried by an attribute with these laws: it stays open.
use Rattle.listing_operands.proofs.ShownLists.{got_copied}
use Rattle.listing_lines.proofs.line_at.Goals as goal

pub returns : goal.returns
returns c = λ l s. rw (c.copied.ensures, ← c.ints_at.ensures l _ s.to s.stands) (got_copied c.ints_at.result.now c.args.pc c.get.result c.get.ensures.lookup.0 c.get.ensures.lookup.1)
