-- The instruction at the pc that the search gives.
-- Tried by an attribute that unfolds symbexec: returns stays open, as the search gives up at a limit.
use Rattle.lent.proofs.Prelude.{◌∙◌}
use Rattle.symbexec.specs.SymbExec.{symbexec}
use Rattle.symbexec.proofs.symbexec_at.Goals as goal

pub returns : goal.returns
unfolding symbexec
returns c text p fs h v =
    let e = c.ints_at-code.ensures p.code text h.code.to h.code.stands in
    let x = c.children.ensures in
    c.word_at.ensures ∙ rw (c.last_write.ensures _ fs (rw (← x.words, ← x.places.0) at h.functions) (rw (← x.places.2) at v), e)
