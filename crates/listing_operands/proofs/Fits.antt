-- Laws of texts that fit, stored or only counted.
use Rattle.lent.proofs.Prelude.{ℕ, ◌+◌, ◌≤◌, ◌<◌, ◌≡◌, ◌∙◌, Bool, false, List, ◌++◌, arith, length}
use Rattle.lent.specs.Memory.{far}
use Rattle.digits.proofs.Rooms.{fit_then, fit_within}
use Rattle.listing_operands.specs.Fit.{Fits}

-- from 0 on, what was counted is the length
pub counted_length : {items : List ℕ} {most n : ℕ} {out out' : List ℕ} → Fits false items most 0 out n out' → most < far → n ≡ length items
counted_length p h =
    let q = p.within.puts.puts (omega arith) (omega arith) in
    let u = p.within.upto in
    omega (arith, q.0)

module _ {s : Bool} {items : List ℕ} {most at : ℕ} {out : List ℕ} where
  pub fits_more : {m at' : ℕ} {out' : List ℕ} → m ≤ most → Fits s items m at out at' out' → Fits s items most at out at' out'
  fits_more h p = record { within = fit_within most h p.within; same = p.same; kept = p.kept }

-- one after the other; answers name the two, since in a function over STORED each call has a term of its own for it, which grind does not join
pub fits_then : {s : Bool} {a b : List ℕ} {m n at mid end : ℕ} {out out' out'' : List ℕ} → Fits s a m at out mid out' → Fits s b n mid out' end out'' → Fits s (a ++ b) (m + n) at out end out''
fits_then p q = record { within = fit_then p.within q.within; same = q.same ∙ p.same; kept = λ f. q.kept f ∙ p.kept f }
