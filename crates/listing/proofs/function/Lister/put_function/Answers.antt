-- The lists of the function stand where Way says.
-- Tried by an attribute with these laws: it stays open.
use Rattle.lent.proofs.Writers.{writes_then}
use Rattle.proto.proofs.ListPlaces.{lists_stand}
use Rattle.listing.proofs.function.Lister.put_function.Goals as goal

pub returns-clause-lists : goal.returns-clause-lists
returns-clause-lists c =
    λ p fs vp v s small.
    let l = lists_stand p fs c.lists-lists.ensures.store s (c.lists-lists.ensures.lists p fs v) in
    writes_then (writes_then (c.put.ensures _ p fs (record { head = c.head_at-head.ensures p fs c.args.self.now.way.store.text.now vp s; lists = l })) (c.format_code.ensures p fs l v small)) (c.put_lists.ensures p fs l)
