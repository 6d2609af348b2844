-- The parts one after the other, where b or c is a constant.
-- Tried by an attribute with these laws: it stays open.
use Rattle.std.proofs.Math.Bool.{or-true}
use Rattle.lent.proofs.Prelude.{sym, ◌∙◌}
use Rattle.listing_operands.proofs.ShownLists.{shows_put, shows_then, shows_is}
use Rattle.listing_comments.proofs.comment_operands.Goals as goal
use Rattle.listing_comments.proofs.comment_operands.Goals.{then-is_k-via-then-is_k, then-is_k-via-else-is_k+then-is_k-2}

pub returns-then-is_k : goal.returns-then-is_k
returns-then-is_k c =
    let both = shows_then (shows_put c.put_comment.ensures) (shows_then (shows_then c.operand_constant.ensures (shows_put c.put_byte.ensures)) c.operand_constant-then-is_k.ensures) in
    elim c.then-is_k.branch [
      | then-is_k-via-then-is_k w ↦ shows_is both (λ l. rw (sym c.is_k.ensures ∙ w.if-is_k.true))
      | then-is_k-via-else-is_k+then-is_k-2 w ↦ shows_is both (λ l. rw (sym w.is_k-else-is_k.ensures ∙ w.if-is_k-2.true, or-true _))
    ]
