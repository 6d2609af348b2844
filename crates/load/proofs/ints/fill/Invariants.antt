-- i integers are stored so far; each turn stores the next.
use Rattle.lent.proofs.Prelude.{◌≡◌, sets}
use Rattle.load.specs.Loads.{fours}
use Rattle.load.proofs.ints.fill.Given as goal

abbrev pub invariant-loop-i : goal.invariant-loop-i
invariant-loop-i l = l.words ≡ sets l.initial.words 0 (fours l.bytes 0 l.i)
