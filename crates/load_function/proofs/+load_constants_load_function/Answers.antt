-- A function's parts are read in the definition's order, and the functions inside it by a loop: reading those that are left ends
-- the whole list, and a refusal ends it at once. By an attribute, search closes a refusal at each other part of a function, but not at its code.
use Rattle.lent.proofs.Prelude.{ℕ, arith, suc, ◌-◌, ◌≡◌}
use Rattle.load.proofs.Steps.{refused_with}
use Rattle.load_function.proofs.Lists.{function_items, loading_start, loading_turn, loading_refused, loading_end}
use Rattle.load_function.proofs.Trees.{constants_loaded, code_refused, function_loaded}
use Rattle.load_function.proofs.+load_constants_load_function.Goals as goal

pub load_constants-loop-i-init : goal.load_constants-loop-i-init
load_constants-loop-i-init t c = loading_start (function_items _)

pub load_constants-returns-in_err-load_function : goal.load_constants-returns-in_err-load_function
load_constants-returns-in_err-load_function t c = refused_with c.from_residual-in_err-load_function.ensures.1 (constants_loaded _ c.in_ok-load_list.ensures
    (loading_refused (function_items _) c.in_ok-n.ensures.loads c.loop-i.invariant (omega arith) c.in_err-load_function.ensures))

pub load_constants-loop-i-preserved : goal.load_constants-loop-i-preserved
load_constants-loop-i-preserved t c = loading_turn (function_items _) c.loop-i.invariant (omega arith) c.in_ok-load_function.ensures

pub load_constants-returns : goal.load_constants-returns
load_constants-returns t c = constants_loaded _ c.in_ok-load_list.ensures (loading_end c.in_ok-n.ensures.loads c.loop-i.invariant (omega arith))

-- one more than the allowance that is passed on
above : {k : ℕ} → (k ≡ 0 → ⊥) → k ≡ suc (k - 1)
above h = omega (arith, h)

pub load_function-returns-in_err-load_code : goal.load_function-returns-in_err-load_code
load_function-returns-in_err-load_code t c = refused_with c.from_residual-in_err-load_code.ensures.1 (code_refused (above c.if-allowance-eq0.false) c.in_ok-load_source.ensures c.in_ok-copy_int.ensures.loads c.in_ok-copy_int-2.ensures.loads c.in_ok-load_limits.ensures c.in_err-load_code.ensures.loads)

pub load_function-returns : goal.load_function-returns
load_function-returns t c =
    function_loaded (above c.if-allowance-eq0.false) c.in_ok-load_source.ensures c.in_ok-copy_int.ensures.loads c.in_ok-copy_int-2.ensures.loads c.in_ok-load_limits.ensures c.in_ok-load_code.ensures.loads c.in_ok-load_constants.ensures c.load_debug.ensures
