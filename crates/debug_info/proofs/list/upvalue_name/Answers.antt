-- As it is read, so it is named. By an attribute with ap both stay open.
use Rattle.lent.proofs.Prelude.{ap}
use Rattle.debug_info.specs.Names.{upvalue_name}
use Rattle.debug_info.proofs.list.upvalue_name.Goals as goal

pub returns-in-Some : goal.returns-in-Some
returns-in-Some c text l h = ap upvalue_name (c.in-Some.ensures text l h)

pub returns-in-None : goal.returns-in-None
returns-in-None c text l h = ap upvalue_name (c.in-None.ensures text l h)
