-- A call that writes all its bytes, or none.
use Rattle.std.specs.Prelude.{Option, ok_or}
use Rattle.lent.proofs.Prelude.{ℕ, ◌≡◌, List, arith}
use Rattle.lent.specs.Whole.{PutsWhole}
use Rattle.format.specs.Dump.{written, written_left}
use Rattle.format.specs.declared.Refusal.{Refusal}

-- where they do not fit, it is refused by 11
pub written_whole : {bytes out out' : List ℕ} {n : Option ℕ} → PutsWhole bytes out n out' → written_left (ok_or n Refusal.TooLittleOutput) out' ≡ written bytes out
written_whole w = grind (arith, w.counts, w.leaves)
