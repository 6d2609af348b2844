-- i items are copied so far.
use Rattle.lent.proofs.Prelude.{◌≡◌, take, sets}
use Rattle.lent.proofs.copy_each.Given as goal

abbrev pub invariant-loop-i : goal.invariant-loop-i
invariant-loop-i g l = l.to ≡ sets l.initial.to 0 (take l.i l.s)
