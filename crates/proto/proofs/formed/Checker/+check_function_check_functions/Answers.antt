-- A function is its parts, one behind the other. The loop's invariant: whatever checks the other functions from here checks all of them from the start.
-- The measure is twice the allowance, and one more for check_functions, which calls check_function at the same allowance.
-- The other two goals of check_functions go by the attribute. Tried for these, with the laws that they cite: they stay open.
use Rattle.proto.proofs.Checks.{check_then, check_stop, items_end, item_wrong}
use Rattle.proto.proofs.Stores.{children_checked, function_checked, function_deep}
use Rattle.proto.proofs.formed.Checker.+check_function_check_functions.Goals as goal

pub check_function-returns-then-allowance-eq0 : goal.check_function-returns-then-allowance-eq0
check_function-returns-then-allowance-eq0 t c = function_deep c.if-allowance-eq0.true

pub check_function-returns-in_err-start : goal.check_function-returns-in_err-start
check_function-returns-in_err-start t c = rw c.from_residual.ensures (function_checked c.if-allowance-eq0.false (check_stop _ _ c.in_err-start.ensures))

pub check_function-returns-in_err-functions : goal.check_function-returns-in_err-functions
check_function-returns-in_err-functions t c = rw c.from_residual-in_err-functions.ensures (function_checked c.if-allowance-eq0.false (check_then c.in_ok-start.ensures (check_stop _ _ c.in_err-functions.ensures)))

pub check_function-returns : goal.check_function-returns
check_function-returns t c = function_checked c.if-allowance-eq0.false (check_then c.in_ok-start.ensures (check_then c.in_ok-functions.ensures c.check_debug.ensures))

pub check_functions-returns-in_err-p : goal.check_functions-returns-in_err-p
check_functions-returns-in_err-p t c = rw c.from_residual-in_err-p.ensures (children_checked (item_wrong c.in_ok-n.ensures.0 c.in_ok-n.ensures.1 c.loop.invariant c.loop-test.true c.in_err-p.ensures))

pub check_functions-returns : goal.check_functions-returns
check_functions-returns t c = children_checked (items_end c.in_ok-n.ensures.0 c.in_ok-n.ensures.1 c.loop.invariant c.loop-test.false)
