-- The loop's invariant: whatever lists the other functions from here lists all of them from the start, and the store and what is listed stay. The allowance falls.
use Rattle.lent.proofs.Prelude.{◌-◌, ◌≡◌}
use Rattle.format.proofs.Loops.{Loop}
use Rattle.listing.specs.Lister.{progress}
use Rattle.listing.proofs.Listers.{ListsAll}
use Rattle.listing.proofs.function.Lister.+list.Given as goal

abbrev pub decreases-list : goal.decreases-list
decreases-list l = l.allowance

abbrev pub invariant-loop-i : goal.invariant-loop-i
invariant-loop-i l =
    record {
      store : l.self.way.store ≡ l.fn.self.way.store;
      full : l.self.full ≡ l.fn.self.full;
      all : Loop (ListsAll l.words l.fn.self.way.store.text.now l.fn.self.full l.source (l.allowance - 1)) l.n (progress l.initial.r l.initial.w) l._i (progress l.r l.w);
    }
