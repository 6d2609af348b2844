-- The next four bytes are the next integer.
-- By an attribute, search does not close what is answered here.
use Rattle.lent.proofs.Prelude.{arith}
use Rattle.load.proofs.Fours.{fill_more}
use Rattle.load.proofs.ints.fill.Goals as goal

pub loop-i-preserved : goal.loop-i-preserved
loop-i-preserved c = fill_more _ _ _ _ (omega (arith, c.as_chunks.ensures.front_len)) c.as_chunks.ensures.front c.from_le_bytes.ensures c.loop-i.invariant
