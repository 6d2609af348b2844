-- Each turn stores the last digit of what is left. With store_last as the function's own law the search leaves this goal open.
use Rattle.lent.proofs.Prelude.{arith}
use Rattle.digits.proofs.Numbers.{store_last}
use Rattle.digits.proofs.store_digits.Goals as goal

pub loop-i-preserved : goal.loop-i-preserved
loop-i-preserved g c = let l = c.loop-i in
    store_last g.row.BASE l.left c.args.at l.i l.out (omega arith) (rw c.digit.ensures) l.invariant
