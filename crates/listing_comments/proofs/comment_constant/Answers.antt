-- The beginning of a comment, then the constant.
-- Tried by an attribute with these laws: it stays open.
use Rattle.listing_operands.proofs.ShownLists.{shows_put, shows_then}
use Rattle.listing_comments.proofs.comment_constant.Goals as goal

pub returns : goal.returns
returns g c = shows_then (shows_put c.put_comment.ensures) c.format_constant.ensures
