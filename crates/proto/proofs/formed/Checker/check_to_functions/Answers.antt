-- What is wrong in the code is so behind the source and the numbers.
-- The other returns go by the attribute. Tried for this one: it stays open.
use Rattle.proto.proofs.Checks.{check_then, check_stop}
use Rattle.proto.proofs.formed.Checker.check_to_functions.Goals as goal

pub returns-in_err-code : goal.returns-in_err-code
returns-in_err-code c = rw c.from_residual-in_err-code.ensures (check_then c.in_ok-source.ensures (check_then c.in_ok-numbers.ensures (check_stop _ _ c.in_err-code.ensures)))
