-- A function is its parts, one behind the other. The loop's invariant: whatever checks the other functions from here checks all of them from the start.
-- The measure is twice the allowance, and one more for check_functions, which calls check_function at the same allowance.
use Rattle.lent.proofs.Prelude.{◌+◌}
use Rattle.format.specs.Store.{function_piece}
use Rattle.format.specs.Valid.{Valid}
use Rattle.format.proofs.Loops.{Loop}
use Rattle.proto.proofs.Checks.{CheckAll}
use Rattle.proto.proofs.formed.Checker.+check_function_check_functions.Given as goal

abbrev pub decreases-check_function : goal.decreases-check_function
decreases-check_function l = l.allowance + l.allowance

abbrev pub decreases-check_functions : goal.decreases-check_functions
decreases-check_functions l = l.allowance + l.allowance + 1

abbrev pub invariant-check_functions-loop : goal.invariant-check_functions-loop
invariant-check_functions-loop l = Loop (CheckAll l.self.store.words.now l.self.store.text.now (λ f. Valid f l.allowance) function_piece) l.n l.initial.p l.counter l.p
