-- The number is that of the function that stands at the index. By an attribute with this law it stays open.
use Rattle.instructions.specs.OpCodes.{is_jump}
use Rattle.listing_comments.specs.Comment.{format_comment}
use Rattle.listing_comments.proofs.Comments.{closure_shown}
use Rattle.listing_comments.proofs.format_comment.Goals as goal

pub returns-in-36 : goal.returns-in-36
unfolding format_comment is_jump
returns-in-36 c = λ p fs number l k. rw c.in-36.is (closure_shown fs number _ c.args.i.0 _ l.functions k c.in-36.is (rw c.bx-bx.ensures at c.comment_closure.ensures))
