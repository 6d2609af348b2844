-- Behind a first word other than 0 stand the place and the length of the source.
-- The other return goes by itself. Tried for this one by an attribute: it stays open, as grind finds no instance of a law that ends in an equation without the words.
use Rattle.proto.proofs.Places.{own_some}
use Rattle.proto.proofs.walk.own_at.Goals as goal

pub returns : goal.returns
returns c s to h = own_some s to h c.word_at.ensures c.if-word_at-eq0.false c.skip.ensures c.string_at.ensures
