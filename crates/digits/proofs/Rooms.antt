-- Laws of writing where there is room, and of how much is needed.
use Rattle.lent.proofs.Prelude.{ℕ, ◌+◌, ◌-◌, ◌*◌, ◌^◌, ◌≤◌, min, max, ◌<◌, ◌≡◌, sym, ◌∙◌, List, ◌++◌, arith, length, take, drop, sets, sets-eq, take_at}
use Rattle.lent.specs.Memory.{Puts, far}
use Rattle.lent.specs.Writer.{Writes}
use Rattle.lent.specs.declared.Writer.{Writer}
use Rattle.lent.proofs.Writes.{put_stored, put_lost, put_then, put_fits}
use Rattle.digits.specs.Digits.{digits, places, decimal}
use Rattle.digits.specs.Room.{PutsWithin, Width}
use Rattle.digits.proofs.Numbers.{places_is, places_most, length_digits}

pub fit_then : {a b : List ℕ} {m n at mid end : ℕ} {out out' out'' : List ℕ} → PutsWithin a m at out mid out' → PutsWithin b n mid out' end out'' → PutsWithin (a ++ b) (m + n) at out end out''
fit_then p q = let x = p.upto in let y = q.upto in record { puts = put_then p.puts q.puts; upto = omega arith }

-- a number's digits
pub fit_decimal : (n k : ℕ) {at : ℕ} {out out' : List ℕ} → Width (decimal n) 10 k → at + k ≤ length out → length out ≤ far → out' ≡ sets out at (digits 10 k n) → PutsWithin (decimal n) 10 at out (at + k) out'
fit_decimal n k w h l p =
    let u = w.upto in
    let e : k ≡ places n = w.is ∙ length_digits 10 (places n) n in
    record { puts = put_stored (omega (arith, w.is)) (rw (← e) p); upto = omega arith }

-- with more room than is needed
pub fit_within : {items : List ℕ} {m at at' : ℕ} (n : ℕ) {out out' : List ℕ} → m ≤ n → PutsWithin items m at out at' out' → PutsWithin items n at out at' out'
fit_within n h p = let x = p.upto in record { puts = p.puts; upto = omega arith }

-- what was written at the start of a buffer
pub written : {items out out' : List ℕ} {r : ℕ} → Puts items 0 out r out' → length items ≤ length out → length out ≤ far → (r ≡ length items) × (take r out' ≡ items)
written {items} {out} {out'} {r} p h k =
    let g : 0 + length items ≤ length out = omega arith in
    let f = put_fits p g k in
    let e : length items ≡ r = omega arith in
    (omega arith, rw f.1 (take_at items (drop (0 + length items) out) r e))

-- the same of what fits
pub fit_written : {items out out' : List ℕ} {m r : ℕ} → PutsWithin items m 0 out r out' → m ≤ length out → length out < far → take r out' ≡ items
fit_written p h k =
    let u = p.upto in
    let q = p.puts.puts (omega arith) (omega arith) in
    (written p.puts (omega arith) (omega arith)).1

-- what was stored at the start of a buffer
pub stored : (items out : List ℕ) (n : ℕ) → length items ≡ n → n ≤ length out → take n (sets out 0 items) ≡ items
stored items out n e h = rw (sets-eq items out 0 (omega arith)) (take_at items (drop (0 + length items) out) n e)

-- bytes that fit, so that no place stops
pub writes_room : {items : List ℕ} {w w' : Writer} → w'.out.ghost_name ≡ w.out.ghost_name → w'.at ≡ w.at + length items → w.at < length w.out.now → length items ≤ length w.out.now - w.at → w'.out.now ≡ sets w.out.now w.at items → Writes items w w'
writes_room n p h r q = record { same = n; puts = record { puts = λ i k. (omega arith, q) } }

-- digits past the end are only counted
pub digits_lost : (base k n : ℕ) {w w' : Writer} → w'.out.ghost_name ≡ w.out.ghost_name → w'.at ≡ min (w.at + k) far → length w.out.now ≤ w.at → w'.out.now ≡ w.out.now → Writes (digits base k n) w w'
digits_lost base k n s p h q = record { same = s; puts = put_lost (rw length_digits p) h q }

-- ---- how much is needed

pub width_decimal : (k n : ℕ) → k < 10 → n < 2 ^ 64 → 10 ^ k ≤ max n 1 → max n 1 < 10 * 10 ^ k → Width (decimal n) 10 (k + 1)
width_decimal k n u b l h = record { is = sym (length_digits 10 (places n) n ∙ places_is k n b l h); upto = omega arith }

-- a u32 has at most 10 digits
pub places_upto : (n : ℕ) → n < 2 ^ 32 → places n ≤ 10
places_upto n l = places_most 20 9 n (omega arith)

pub width_within : {items : List ℕ} {m r : ℕ} (n : ℕ) → m ≤ n → Width items m r → Width items n r
width_within n h p = let g = p.upto in record { is = p.is; upto = omega arith }
