-- The lists one after the other, or nothing.
-- Tried by an attribute with these laws: it stays open.
use Rattle.lent.proofs.Writers.{writes_then}
use Rattle.listing.proofs.function.Lister.put_lists.Goals as goal

pub returns-then-self : goal.returns-then-self
returns-then-self c = λ p fs l. rw c.if-self.true (writes_then (writes_then (c.put_list.ensures.shows p.constants l.constants) (c.put_list-then-self.ensures.shows p.debug.locals l.locals)) (c.put_list-then-self-2.ensures.shows p.debug.upvalues l.upvalues))
