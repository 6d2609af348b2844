-- Whatever writes the other items from here writes all of them.
use Rattle.lent.proofs.Prelude.{not, eqb}
use Rattle.format.proofs.Loops.{Loop}
use Rattle.dump.specs.Step.{progress, seen}
use Rattle.dump.proofs.Lists.{Any, DumpsAll}
use Rattle.dump.proofs.list.Dumper.dump_list.Given as goal

abbrev pub invariant-loop : goal.invariant-loop
invariant-loop g l = Loop (DumpsAll l.self Any g.T.Item.piece (g.T.Item.bytes l.self.options.size_4)) l.n (progress l.initial.r (seen (not (eqb g.row.STORED 0)) l.initial.out)) l.counter (progress l.r (seen (not (eqb g.row.STORED 0)) l.out))
