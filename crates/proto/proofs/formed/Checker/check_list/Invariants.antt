-- The loop's invariant: whatever checks the other items from here checks the whole list from the start.
use Rattle.format.proofs.Loops.{Loop}
use Rattle.proto.proofs.Checks.{CheckAll}
use Rattle.proto.proofs.formed.Checker.check_list.Given as goal

abbrev pub invariant-loop : goal.invariant-loop
invariant-loop g l = Loop (CheckAll l.self.store.words.now l.self.store.text.now g.T.Item.valid g.T.Item.piece) l.n l.initial.p l.counter l.p
