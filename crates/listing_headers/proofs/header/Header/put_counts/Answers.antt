-- Six counts, three of the head and three that stand before lists, then a newline. By an attribute with these laws it stays open.
use Rattle.lent.proofs.Prelude.{ap, ◌∙◌}
use Rattle.lent.proofs.Writers.{writes_then}
use Rattle.format.specs.Tree.{count}
use Rattle.format.specs.Store.{constant_piece, local_piece}
use Rattle.proto.specs.declared.head.Head.{Head}
use Rattle.proto.proofs.Sublists.{here_get}
use Rattle.proto.proofs.Items.{list_count}
use Rattle.listing_headers.specs.Header.{header_counts}
use Rattle.listing_headers.proofs.header.Header.put_counts.Goals as goal

pub returns : goal.returns
unfolding header_counts
returns c =
    λ text p fs h.
    let locals = c.word_at.ensures ∙ list_count local_piece p.debug.locals h.lists.locals.stands in
    let constants = c.word_at-2.ensures ∙ list_count constant_piece p.constants h.lists.constants.stands in
    let functions = c.word_at-3.ensures ∙ here_get (count fs) _ h.lists.functions.stands.in_words in
    rw (← ap (λ (x : Head). x.num_params) h.head, ← ap (λ (x : Head). x.is_vararg) h.head, ← ap (λ (x : Head). x.max_stack_size) h.head, ← ap (λ (x : Head). x.num_upvalues) h.head, ← locals, ← constants, ← functions)
    (writes_then (writes_then (writes_then (writes_then (writes_then (writes_then c.put_params.ensures c.put_and_amount.ensures) c.put_and_amount-2.ensures) c.put_and_amount-3.ensures) c.put_and_amount-4.ensures) c.put_and_amount-5.ensures) c.put_byte.ensures)
