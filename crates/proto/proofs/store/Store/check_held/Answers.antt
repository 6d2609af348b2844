-- One that is passed to its end holds the tree found.
-- The other two returns go by the attribute. Tried for this one: it stays open, the search gives up at a limit.
use Rattle.lent.proofs.Prelude.{refl, arith}
use Rattle.proto.proofs.Stores.{passed_0}
use Rattle.proto.proofs.store.Store.check_held.Goals as goal

pub returns-then-eq : goal.returns-then-eq
returns-then-eq c = passed_0 (rw c.new.ensures at c.check_function.ensures) _ (λ x y. refl) c.eq.ensures (omega (arith, c.if-max-gt-MOST.false, c.max.ensures)) (omega (arith, c.if-max-gt-MOST.false, c.max.ensures)) c.if-eq.true
