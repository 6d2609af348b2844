-- Behind the source's three words stand three more, the last of which packs four bytes.
-- Tried by an attribute: `returns` stays open, as grind finds no instance of a law that ends in an equation without the places.
use Rattle.proto.proofs.Items.{head_here}
use Rattle.proto.proofs.head.head_at.Goals as goal

pub returns : goal.returns
returns c =
    rw (c.from.ensures, c.from-2.ensures, c.from-3.ensures, c.from-4.ensures)
    (head_here c.skip.ensures c.word_at-line_defined.ensures c.skip-2.ensures c.word_at-last_line_defined.ensures c.skip-3.ensures c.word_at-packed.ensures c.to_be_bytes.ensures)
