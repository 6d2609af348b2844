-- What is left to write are the lines from pc on; the functions that are looked up are those in this one.
use Rattle.lent.proofs.Prelude.{◌-◌}
use Rattle.listing.proofs.Codes.{Codes}
use Rattle.listing.proofs.code.format_code.Given as goal

abbrev pub invariant-loop-pc : goal.invariant-loop-pc
invariant-loop-pc l = Codes l.lists l.allowance l.number l.functions.of l.pc l.w l.initial.w

abbrev pub decreases-loop-pc : goal.decreases-loop-pc
decreases-loop-pc l = l.n - l.pc
