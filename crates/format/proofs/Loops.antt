-- A loop over n items: whatever does the rest from here does the whole from the start.
use Rattle.lent.proofs.Prelude.{ℕ, suc, ◌+◌, ◌-◌, ◌≤◌, ◌<◌, ◌≡◌, arith}

-- All n s r: from s, n items lead to r. The loop began at s₀ and stands at s before item i
pub record Loop {S R : Type 0} (All : ℕ → S → R → Type 0) (n : ℕ) (s₀ : S) (i : ℕ) (s : S) : Type 0 where
  pub rest : (r : R) → All (n - i) s r → All n s₀ r

module _ {S R : Type 0} {All : ℕ → S → R → Type 0} {n : ℕ} where
  pub loop_start : {s : S} → Loop All n s 0 s
  loop_start = record { rest = λ r h. let e : n - 0 ≡ n = omega arith in rw e at h }

  pub loop_turn : {s₀ s m : S} {i : ℕ} → i < n → Loop All n s₀ i s → ((k : ℕ) (r : R) → All k m r → All (suc k) s r) → Loop All n s₀ (i + 1) m
  loop_turn {i = i} h l more = record { rest = λ r a. let e : n - i ≡ suc (n - (i + 1)) = omega arith in l.rest r (rw e (more (n - (i + 1)) r a)) }

  pub loop_end : {s₀ s : S} {r : R} {i : ℕ} → n ≤ i → Loop All n s₀ i s → All 0 s r → All n s₀ r
  loop_end {r = r} {i = i} h l none = let e : n - i ≡ 0 = omega arith in l.rest r (rw e none)

  -- the loop stops before an item
  pub loop_stop : {s₀ s : S} {r : R} {i : ℕ} → i < n → Loop All n s₀ i s → ((k : ℕ) → All (suc k) s r) → All n s₀ r
  loop_stop {r = r} {i = i} h l stop = let e : n - i ≡ suc (n - (i + 1)) = omega arith in l.rest r (rw e (stop (n - (i + 1))))
