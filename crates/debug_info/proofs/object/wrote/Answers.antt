-- Each arm is a line of the definition.
-- Tried by the attribute that unfolds wrote alone: these four stay open.
use Rattle.lent.proofs.Prelude.{sym, ◌∙◌}
use Rattle.debug_info.specs.Names.{wrote}
use Rattle.debug_info.proofs.object.wrote.Goals as goal

pub returns-in-5 : goal.returns-in-5
unfolding wrote
returns-in-5 c text p fs h = rw (sym c.opcode.ensures ∙ c.in-5.is, ← c.bx.ensures) (c.global_of.ensures text ∙ rw (c.constant_of.ensures text p.constants h.constants))

pub returns-in-6 : goal.returns-in-6
unfolding wrote
returns-in-6 c text p fs h = rw (sym c.opcode.ensures ∙ c.in-6.is, ← c.c.ensures, ← c.operand_name.ensures text p.constants h.constants)

pub returns-in-4 : goal.returns-in-4
unfolding wrote
returns-in-4 c text p fs h = rw (sym c.opcode.ensures ∙ c.in-4.is, ← c.b.ensures, ← c.upvalue_name.ensures text p.debug.upvalues h.upvalues)

pub returns-in-11 : goal.returns-in-11
unfolding wrote
returns-in-11 c text p fs h = rw (sym c.opcode.ensures ∙ c.in-11.is, ← c.c-in-11.ensures, ← c.operand_name-in-11.ensures text p.constants h.constants)
