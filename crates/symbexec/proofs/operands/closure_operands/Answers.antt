-- Past the count there is no such function; before it, the head of the function found has its upvalues.
-- Tried by an attribute with these laws, the code by match, by let else and by map_or: both stay open.
use Rattle.symbexec.proofs.Upvalues.{behind_none, behind_child}
use Rattle.symbexec.proofs.operands.closure_operands.Goals as goal

pub returns-in-Some-clause-many : goal.returns-in-Some-clause-many
returns-in-Some-clause-many c = behind_child c.in-Some.ensures.found c.head_at.ensures

pub returns-in-None-clause-many : goal.returns-in-None-clause-many
returns-in-None-clause-many c = behind_none c.in-None.ensures.found
