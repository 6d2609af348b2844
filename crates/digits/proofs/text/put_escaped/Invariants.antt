-- What is left to write is the bytes that the iterator has left.
use Rattle.lent.proofs.Writers.{WritesLeft}
use Rattle.digits.specs.Digits.{escaped}
use Rattle.digits.proofs.text.put_escaped.Given as goal

abbrev pub invariant-loop-run : goal.invariant-loop-run
invariant-loop-run l = WritesLeft (escaped l.run-iterator.rest.now) l.w (escaped l.s) l.initial.w
