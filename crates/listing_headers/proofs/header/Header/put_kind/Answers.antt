-- The numbers are those of the head, and the count of the code stands before it.
-- Tried by an attribute with these laws: it stays open.
use Rattle.lent.proofs.Prelude.{ap, ◌∙◌}
use Rattle.lent.proofs.Writers.{writes_then}
use Rattle.proto.specs.declared.head.Head.{Head}
use Rattle.proto.proofs.Items.{ints_count}
use Rattle.listing_headers.specs.Header.{header_kind}
use Rattle.listing_headers.proofs.header.Header.put_kind.Goals as goal

pub returns : goal.returns
unfolding header_kind
returns c = λ text p fs h. rw (← ap (λ (x : Head). x.line_defined) h.head, ← ap (λ (x : Head). x.last_line_defined) h.head, ← (c.word_at.ensures ∙ ints_count p.code h.lists.code.stands)) (writes_then (writes_then c.put_kind_of.ensures c.put_source_lines.ensures) c.put_code_size.ensures)
