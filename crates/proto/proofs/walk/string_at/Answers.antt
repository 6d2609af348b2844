-- The two words are the string's place and length.
-- Tried by an attribute: `returns` stays open, as grind finds no instance of a law that ends in an equation without the places.
use Rattle.proto.proofs.Items.{string_span}
use Rattle.proto.proofs.walk.string_at.Goals as goal

pub returns : goal.returns
returns c s t to h = string_span s t h c.word_at.ensures c.skip.ensures c.word_at-2.ensures
