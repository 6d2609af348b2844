-- The index, the name that stands there, a newline.
-- Tried by an attribute with these laws: it stays open.
use Rattle.listing_operands.proofs.ShownLists.{shows_put, shows_then, string_shown}
use Rattle.listing_headers.proofs.list.NamesItem.put_line.Goals as goal

pub returns : goal.returns
returns c = shows_then (shows_then (shows_put (rw c.from.ensures at c.put_index.ensures)) (string_shown (λ s. s) c.string_at.ensures c.put_bytes.ensures)) (shows_put c.put_byte.ensures)
