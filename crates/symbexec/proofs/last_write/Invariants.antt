-- The loop's invariant: the search from pc on gives what the whole gives, and the functions stay the same.
use Rattle.lent.proofs.Prelude.{◌-◌}
use Rattle.symbexec.proofs.Steps.{Traced}
use Rattle.symbexec.proofs.last_write.Given as goal

abbrev pub invariant-loop-pc : goal.invariant-loop-pc
invariant-loop-pc l = Traced l.functions l.code l.sought.lastpc l.sought.reg l.last l.pc l.by_index.of

abbrev pub decreases-loop-pc : goal.decreases-loop-pc
decreases-loop-pc l = l.end - l.pc
