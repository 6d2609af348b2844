-- Reading the items that are left ends the whole list.
use Rattle.lent.proofs.Prelude.{length}
use Rattle.format.specs.Read.{many}
use Rattle.format.specs.Store.{pieces}
use Rattle.load_function.proofs.Lists.{Loading}
use Rattle.load_function.proofs.list.load_list.Given as goal

abbrev pub invariant-loop-i : goal.invariant-loop-i
invariant-loop-i g l = Loading (λ w. many (g.T.Item.reader w)) length (pieces g.T.Item.piece) l.n l.initial.s l._i l.s
