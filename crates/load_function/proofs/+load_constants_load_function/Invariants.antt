-- A function's parts are read in the definition's order. The two call each other: load_function on a smaller allowance,
-- load_constants on the same, which counts as one more.
use Rattle.lent.proofs.Prelude.{◌+◌}
use Rattle.format.specs.Tree.{count}
use Rattle.format.specs.Read.{many_functions, load_function}
use Rattle.format.specs.Store.{function_pieces}
use Rattle.format.specs.Undump.{repaired_all}
use Rattle.load_function.proofs.Lists.{Loading}
use Rattle.load_function.proofs.+load_constants_load_function.Given as goal

abbrev pub decreases-load_constants : goal.decreases-load_constants
decreases-load_constants l = l.allowance + l.allowance + 1

abbrev pub decreases-load_function : goal.decreases-load_function
decreases-load_function l = l.allowance + l.allowance

abbrev pub invariant-load_constants-loop-i : goal.invariant-load_constants-loop-i
invariant-load_constants-loop-i l = Loading (λ w. many_functions (load_function w l.allowance)) (λ fs. count (repaired_all fs)) (λ fs. function_pieces (repaired_all fs)) l.n l.initial.s l._i l.s
