-- What is left to store gives what all gives. Each turn stores the last digit of what is left.
use Rattle.lent.proofs.Prelude.{◌≡◌, sets}
use Rattle.digits.specs.Digits.{digits}
use Rattle.digits.proofs.store_digits.Given as goal

abbrev pub invariant-loop-i : goal.invariant-loop-i
invariant-loop-i g l = sets l.out l.at (digits g.row.BASE l.i l.left) ≡ sets l.initial.out l.at (digits g.row.BASE l.k l.n)
