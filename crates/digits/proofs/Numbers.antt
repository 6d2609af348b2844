-- Laws of digits: how many there are, and storing them from the last to the first.
use Rattle.lent.proofs.Prelude.{ℕ, zero, suc, ◌+◌, ◌-◌, ◌*◌, ◌/◌, ◌%◌, ◌^◌, ◌≤◌, ◌<◌, ◌≡◌, refl, ap, ◌∙◌, cond, max, List, [], ◌∷◌, Bool, true, false, arith, length, set, length-append, sets, set_comm, ltb, lt-ltb, le-ltb}
use Rattle.lent.proofs.Writes.{sets_append}
use Rattle.digits.specs.Digits.{digit, digits, places, places_within}

-- ---- how many digits a number has

-- it matters not up to how many are counted, if there are no more
within_any : (f g n : ℕ) → n < 10 ^ f → n < 10 ^ g → places_within f n ≡ places_within g n
unfolding places_within
within_any zero zero n h k = refl
within_any zero (suc g) n h k = rw (lt-ltb n 10 (omega arith))
within_any (suc f) zero n h k = rw (lt-ltb n 10 (omega arith))
within_any (suc f) (suc g) n h k = ap (λ p. cond (ltb n 10) 1 (suc p)) (within_any f g (n / 10) (omega arith) (omega arith))

pub places_one : (n : ℕ) → n < 10 → places n ≡ 1
unfolding places_within
places_one n h = rw (lt-ltb n 10 h)

pub places_more : (n : ℕ) → 10 ≤ n → n < 2 ^ 64 → places n ≡ suc (places (n / 10))
unfolding places_within
places_more n h k = rw (le-ltb n 10 h) (ap suc (within_any 19 20 (n / 10) (omega arith) (omega arith)))

-- a number from 10 ^ k on and below 10 ^ (k + 1) has k + 1 digits, and 0 has one
pub places_is : (k n : ℕ) → n < 2 ^ 64 → 10 ^ k ≤ max n 1 → max n 1 < 10 * 10 ^ k → places n ≡ k + 1
places_is zero n b l h = places_one n (omega arith)
places_is (suc k) n b l h = places_more n (omega arith) b ∙ ap suc (places_is k (n / 10) (omega arith) (omega arith) (omega arith)) ∙ omega arith

cond_most : (t : Bool) (m n : ℕ) → m ≤ n → cond t 1 (suc m) ≤ suc n
cond_most true m n h = omega arith
cond_most false m n h = omega arith

-- a number below 10 ^ (k + 1) has at most k + 1 digits
pub places_most : (f k n : ℕ) → n < 10 * 10 ^ k → places_within f n ≤ suc k
unfolding places_within
places_most zero k n h = omega arith
places_most (suc f) zero n h = rw (lt-ltb n 10 (omega arith)) (omega arith)
places_most (suc f) (suc k) n h = cond_most (ltb n 10) _ (suc k) (places_most f k (n / 10) (omega arith))

-- ---- storing digits

pub length_digits : (base k n : ℕ) → length (digits base k n) ≡ k
unfolding digits
length_digits base zero n = refl
length_digits base (suc k) n = length-append (digits base k (n / base)) (digit (n % base) ∷ []) ∙ rw (length_digits base k (n / base)) (omega arith)

-- a store behind a run of stores may come first
sets_set : (a l : List ℕ) (i j v : ℕ) → i + length a ≤ j → sets (set l j v) i a ≡ set (sets l i a) j v
sets_set [] l i j v h = refl
sets_set (x ∷ a) l i j v h = rw (← set_comm l i j x v (λ e. omega arith)) (sets_set a (set l i x) (suc i) j v (omega arith))

-- the last digit is stored, then those in front of it
last_digit : (base k n at : ℕ) (out : List ℕ) → sets (set out (at + k) (digit (n % base))) at (digits base k (n / base)) ≡ sets out at (digits base (suc k) n)
unfolding digits
last_digit base k n at out =
    let l : length (digits base k (n / base)) ≡ k = length_digits base k (n / base) in
    sets_set (digits base k (n / base)) out at (at + k) (digit (n % base)) (omega arith)
    ∙ rw l at (sets_append (digits base k (n / base)) out (digit (n % base) ∷ []) at)

-- a turn of storing: the last digit is stored
pub store_last : (base n at i : ℕ) (out : List ℕ) {out' all : List ℕ} → 0 < i → out' ≡ set out (at + (i - 1)) (digit (n % base)) → sets out at (digits base i n) ≡ all → sets out' at (digits base (i - 1) (n / base)) ≡ all
store_last base n at i out h e a =
    let j : i ≡ suc (i - 1) = omega arith in
    rw e (last_digit base (i - 1) n at out) ∙ rw j at a
