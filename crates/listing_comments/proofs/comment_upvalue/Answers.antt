-- There is no such name, or it stands there.
-- Tried by an attribute with these laws: both stay open.
use Rattle.lent.proofs.Prelude.{none, some}
use Rattle.format.specs.Store.{string}
use Rattle.listing_comments.specs.Comment.{upvalue_text}
use Rattle.listing_operands.proofs.ShownLists.{shows_put, shows_then, shows_of}
use Rattle.listing_comments.proofs.comment_upvalue.Goals as goal

pub returns-in-None : goal.returns-in-None
returns-in-None c = shows_then (shows_put c.put_comment.ensures) (shows_of string upvalue_text _ none (λ l s. c.in-None.ensures _ l s) c.put_byte.ensures)

pub returns-in-Some : goal.returns-in-Some
returns-in-Some c = shows_then (shows_put c.put_comment.ensures) (shows_of string upvalue_text _ (some c.of.result.now) (λ l s. rw c.of.ensures (c.in-Some.ensures _ l s)) c.put_bytes.ensures)
