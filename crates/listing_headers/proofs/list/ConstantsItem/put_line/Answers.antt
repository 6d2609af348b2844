-- The index, the constant that stands there, a newline.
-- Tried by an attribute with these laws: it stays open.
use Rattle.lent.proofs.Prelude.{some, false}
use Rattle.listing_operands.specs.Operands.{constant_text}
use Rattle.listing_operands.proofs.ShownLists.{shows_put, shows_then, constant_shown}
use Rattle.listing_headers.proofs.list.ConstantsItem.put_line.Goals as goal

pub returns : goal.returns
returns c = shows_then (shows_then (shows_put (rw c.from.ensures at c.put_index.ensures)) (constant_shown c.constant_at.result (λ k. constant_text false (some k)) c.constant_at.ensures.value c.put_constant.ensures)) (shows_put c.put_byte.ensures)
