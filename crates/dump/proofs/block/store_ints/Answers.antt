-- All are stored.
-- Tried by an attribute: `returns` stays open, as grind finds no instance of a law that ends in an equation without the space as it was.
use Rattle.lent.proofs.Prelude.{rules}
use Rattle.dump.proofs.Blocks.{ints_stored}
use Rattle.dump.proofs.block.store_ints.Goals as goal

pub returns : goal.returns
returns c = search (rules, ints_stored)
