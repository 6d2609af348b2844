-- The parts one after the other, the list of lines standing where lists says.
-- Tried by an attribute with these laws: it stays open.
use Rattle.lent.proofs.Writers.{writes_then}
use Rattle.listing_lines.specs.Line.{format_instruction}
use Rattle.listing_lines.proofs.format_instruction.Goals as goal

pub returns : goal.returns
unfolding format_instruction
returns c = λ p fs number l k.
    let o = c.opcode.ensures in
    rw (← c.line_at-line.ensures p.debug.lines l.lines) (writes_then (writes_then c.format_start.ensures (rw o at (c.format_comment.ensures p fs number l (rw (← o) at k)))) c.put_byte.ensures)
