-- The beginning of a comment, then the sum less MAXARG_sBx; nothing wraps at 64 bits.
-- Tried by an attribute with these laws: it stays open.
use Rattle.lent.proofs.Writers.{writes_then}
use Rattle.listing_comments.proofs.comment_jump.Goals as goal

pub returns : goal.returns
returns c = writes_then (writes_then c.put_comment.ensures c.put_bytes.ensures) (rw (← c.bx.ensures) (rw (c.from.ensures, c.from-2.ensures, c.from-3.ensures) at c.put_difference.ensures))
