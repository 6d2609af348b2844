-- By the mark, and then by the constant.
-- Tried by the attribute that unfolds kname alone: returns stays open, as the search gives up at a limit.
use Rattle.lent.proofs.Prelude.{sym, ◌∙◌}
use Rattle.debug_info.specs.Names.{kname}
use Rattle.debug_info.proofs.list.operand_name.Goals as goal

pub returns : goal.returns
unfolding kname
returns c text l h = rw (sym c.is_k.ensures ∙ c.if-not-is_k.false, ← c.index_k.ensures) (c.constant_name.ensures text ∙ rw (c.constant_of.ensures text l h))
