-- What stands first follows from the row of table 3-7 that the first byte leads, since no two rows share a lead byte (row_step_law);
-- bytes at places against the ranges of a row; and a lead byte's row, by a test that is computed for each byte.
use Rattle.lent.proofs.Prelude.{ℕ, zero, suc, ◌+◌, ◌-◌, ◌≤◌, ◌<◌, min, max, ◌≡◌, refl, sym, ◌∙◌, List, [], ◌∷◌, Bool, true, false, cond, ◌&&◌, false≢true, and-eq-true_iff, arith, length, drop, get_or, drop_of_length-le, leb, eqb, eqb-zero-suc, lt-leb, leb-true, eqb-true, ne_eqb, add_assoc, dec_le, drop-drop}
use Rattle.utf8.specs.Utf8.{Step, Range, ◌‥◌, Row, table3_7, within, matched, whole, begun, first_step}
use Rattle.utf8.specs.Rows.{row_of, second_range, ranges, begun_at, begins}
use Rattle.std.proofs.lemmas.List.{drop_more}

-- by a test: what holds of each result holds of the test's, where that result is known. std's cases_Bool gives the two results, and no P rewritten by them.
pub by_test : (P : Bool → Type 0) (b : Bool) → (b ≡ true → P true) → (b ≡ false → P false) → P b
by_test P true h k = h refl
by_test P false h k = k refl

-- how many bytes begin a row's sequence: the lead byte, and those behind it that lie in their ranges
abbrev pub taken : Row → List ℕ → ℕ
taken row bs = suc (matched (drop 1 row) bs)

-- the step of a lead byte, from its row and the bytes behind it
abbrev pub row_step : Row → List ℕ → Step
row_step row bs = record { len = taken row bs; well_formed = eqb (taken row bs) (length row) }

pub in_range : (b : ℕ) (r : Range) → within b r ≡ true → (r.low ≤ b) × (b ≤ r.high)
in_range b r e =
    let h = (and-eq-true_iff (leb r.low b) (leb b r.high)).0 e in
    (leb-true r.low b h.0, leb-true b r.high h.1)

-- ---- the rows' first ranges stand in order

abbrev Rising : ℕ → List Row → Type 0
Rising from [] = Unit {0}
Rising from ([] ∷ rows) = ⊥
Rising from ((r ∷ row) ∷ rows) = (from ≤ r.low) × (r.low ≤ r.high) × Rising (suc r.high) rows

rising : Rising 0 table3_7
rising = omega arith

-- no row begins with a byte below them all
below : (rows : List Row) (from b : ℕ) (bs : List ℕ) → Rising from rows → b < from → (whole rows (b ∷ bs) ≡ 0) × (begun rows (b ∷ bs) ≡ 0)
unfolding whole begun matched
below [] from b bs h k = (refl, refl)
below ([] ∷ rows) from b bs h k = absurd h
below ((r ∷ row) ∷ rows) from b bs h k =
    let i = below rows (suc r.high) b bs h.2 (omega arith) in
    let e = lt-leb r.low b (omega arith) in
    (rw (e, eqb-zero-suc (length row)) i.0, rw (e, i.1))

-- what whole and begun give, from the row that the byte leads
abbrev Found : Row → List ℕ → ℕ → ℕ → Type 0
Found row bs w n = (w ≡ cond (eqb (taken row bs) (length row)) (length row) 0) × (max 1 n ≡ taken row bs)

found : (rows : List Row) (from b : ℕ) (bs : List ℕ) → Rising from rows → Found (row_of rows b) bs (whole rows (b ∷ bs)) (begun rows (b ∷ bs))
unfolding row_of whole begun matched
found [] from b bs h = (refl, refl)
found ([] ∷ rows) from b bs h = absurd h
found ((r ∷ row) ∷ rows) from b bs h =
    by_test (λ t. Found (cond t (r ∷ row) (row_of rows b)) bs (cond (eqb (m t) (suc (length row))) (suc (length row)) (whole rows (b ∷ bs))) (max (m t) (begun rows (b ∷ bs))))
    (within b r)
    (λ e. let l = in_range b r e in let k = below rows (suc r.high) b bs h.2 (omega arith) in (rw k.0, rw k.1 (omega arith)))
    (λ e. let z : max 0 (begun rows (b ∷ bs)) ≡ begun rows (b ∷ bs) = omega arith in rw (eqb-zero-suc (length row), z) (found rows (suc r.high) b bs h.2))
  where
    m : Bool → ℕ
    m t = cond t (suc (matched row bs)) 0

-- ---- the first step

pub matched_le : (row : Row) (bs : List ℕ) → matched row bs ≤ length bs
unfolding matched
matched_le [] bs = omega arith
matched_le (r ∷ row) [] = omega arith
matched_le (r ∷ row) (b ∷ bs) =
    by_test (λ t. cond t (suc (matched row bs)) 0 ≤ suc (length bs)) (within b r) (λ e. omega (arith, matched_le row bs)) (λ e. omega arith)

-- the first step of l bytes, from whole and begun
abbrev step_from : ℕ → ℕ → ℕ → Step
step_from l w n = cond (eqb w 0) (record { len = min l (max 1 n); well_formed = false }) (record { len = w; well_formed = true })

step_found : (row : Row) (bs : List ℕ) (w n : ℕ) → Found row bs w n → step_from (suc (length bs)) w n ≡ row_step row bs
step_found row bs w n h =
    by_test (λ t. w ≡ cond t (length row) 0 → step_from (suc (length bs)) w n ≡ record { len = taken row bs; well_formed = t }) (eqb (taken row bs) (length row))
    (λ e p. let l = eqb-true (taken row bs) (length row) e in let q : w ≡ taken row bs = omega arith in rw (ne_eqb w 0 (omega arith), q))
    (λ e p. let q : min (suc (length bs)) (max 1 n) ≡ taken row bs = omega (arith, matched_le (drop 1 row) bs) in rw (p, q)) h.0

-- the first step is that of the row that the first byte leads
pub row_step_law : (b : ℕ) (bs : List ℕ) → first_step (b ∷ bs) ≡ row_step (row_of table3_7 b) bs
unfolding first_step
row_step_law b bs = step_found (row_of table3_7 b) bs (whole table3_7 (b ∷ bs)) (begun table3_7 (b ∷ bs)) (found table3_7 0 b bs rising)

-- ---- bytes at places against the ranges of a row

module _ (s : List ℕ) (at : ℕ) (r : Range) where
  pub begins_none : length s ≤ at → begins r (drop at s) ≡ false
  unfolding begins
  begins_none h = rw (drop_of_length-le s h)

  pub begins_some : at < length s → begins r (drop at s) ≡ within (get_or s at 0) r
  unfolding begins
  begins_some h = rw (drop_more s at 0 h)

  begins_within : begins r (drop at s) ≡ true → at < length s
  begins_within e = elim (dec_le (length s) at) [
    | yes h ↦ absurd (false≢true (sym (begins_none h) ∙ e))
    | no h ↦ omega arith
  ]

matched_begins : (r : Range) (row : Row) (bs : List ℕ) → matched (r ∷ row) bs ≡ cond (begins r bs) (suc (matched row (drop 1 bs))) 0
unfolding begins matched
matched_begins r row [] = refl
matched_begins r row (b ∷ bs) = refl

-- k bytes from a place on begin a sequence of n: they lie in their ranges, and the next has to lie in r
pub record Begun (s : List ℕ) (at n k : ℕ) (r : Range) : Type 0 where
  pub within : at + k ≤ length s
  pub bytes : begun_at s at n ≡ k + matched (ranges (n - k) r) (drop (at + k) s)

module _ {s : List ℕ} {at n k : ℕ} {r : Range} where
  pub begun_more : {t : Bool} → k < n → t ≡ begins r (drop (at + k) s) → t ≡ true → Begun s at n k r → Begun s at n (k + 1) (0x80 ‥ 0xbf)
  begun_more j e h l =
      let b : begins r (drop (at + k) s) ≡ true = sym e ∙ h in
      let i : n - k ≡ suc (n - (k + 1)) = omega arith in
      let m : matched (ranges (n - k) r) (drop (at + k) s) ≡ suc (matched (ranges (n - (k + 1)) (0x80 ‥ 0xbf)) (drop (at + (k + 1)) s)) =
      rw (i, matched_begins r (ranges (n - (k + 1)) (0x80 ‥ 0xbf)) (drop (at + k) s), b, drop-drop 1 (at + k) s, add_assoc at k 1) in
      let w = begins_within s (at + k) r b in
      record { within = omega arith; bytes = l.bytes ∙ rw m (omega arith) }

  pub begun_stop : {t : Bool} → k < n → t ≡ begins r (drop (at + k) s) → t ≡ false → Begun s at n k r → k ≡ begun_at s at n
  begun_stop j e h l =
      let i : n - k ≡ suc (n - (k + 1)) = omega arith in
      let m : matched (ranges (n - k) r) (drop (at + k) s) ≡ 0 = rw (i, matched_begins r (ranges (n - (k + 1)) (0x80 ‥ 0xbf)) (drop (at + k) s), sym e ∙ h) in
      sym (l.bytes ∙ rw m (omega arith))

  pub begun_done : n ≤ k → Begun s at n k r → k ≡ begun_at s at n
  unfolding matched
  begun_done h l = let i : n - k ≡ 0 = omega arith in sym (l.bytes ∙ rw i (omega arith))

-- ---- tests of rows

same : Row → Row → Bool
same [] [] = true
same [] (s ∷ q) = false
same (r ∷ p) [] = false
same (r ∷ p) (s ∷ q) = eqb r.low s.low && (eqb r.high s.high && same p q)

same_is : (p q : Row) → same p q ≡ true → p ≡ q
unfolding same
same_is [] [] e = refl
same_is [] (s ∷ q) e = absurd (false≢true e)
same_is (r ∷ p) [] e = absurd (false≢true e)
same_is (r ∷ p) (s ∷ q) e =
    let h = (and-eq-true_iff (eqb r.low s.low) (eqb r.high s.high && same p q)).0 e in
    let k = (and-eq-true_iff (eqb r.high s.high) (same p q)).0 h.1 in
    let low : r.low ≡ s.low = eqb-true r.low s.low h.0 in
    let high : r.high ≡ s.high = eqb-true r.high s.high k.0 in
    λ i. record { low = low i; high = high i } ∷ same_is p q k.1 i

-- whether a test passes at n numbers from one on
unfoldable passes : (ℕ → Bool) → ℕ → ℕ → Bool
passes f from zero = true
passes f from (suc n) = f from && passes f (suc from) n

passes_at : (f : ℕ → Bool) (from n b : ℕ) → passes f from n ≡ true → from ≤ b → b < from + n → f b ≡ true
unfolding passes
passes_at f from zero b e h k = absurd (omega arith)
passes_at f from (suc n) b e h k =
    let t = (and-eq-true_iff (f from) (passes f (suc from) n)).0 e in
    elim (dec_le (suc from) b) [
      | yes l ↦ passes_at f (suc from) n b t.1 l (omega arith)
      | no l ↦ let q : b ≡ from = omega arith in rw q t.0
    ]

-- ---- the rows of table 3-7

-- behind the lead byte are the ranges that the code has
lead_ranges : (b : ℕ) → b < 256 → ranges (length (row_of table3_7 b) - 1) (second_range b) ≡ drop 1 (row_of table3_7 b)
unfolding same passes row_of
lead_ranges b h =
    same_is (ranges (length (row_of table3_7 b) - 1) (second_range b)) (drop 1 (row_of table3_7 b))
    (passes_at (λ b. same (ranges (length (row_of table3_7 b) - 1) (second_range b)) (drop 1 (row_of table3_7 b))) 0 256 b refl (omega arith) (omega arith))

-- ---- the step at a place

-- m bytes begin the row, which has n
pub step_led : (s : List ℕ) (at n m : ℕ) {t : Bool} → at < length s → get_or s at 0 < 256 → n ≡ length (row_of table3_7 (get_or s at 0)) → m ≡ begun_at s at n
    → t ≡ eqb m n → record { len = m; well_formed = t } ≡ first_step (drop at s)
step_led s at n m h k e q w = rw (drop_more s at 0 h, row_step_law, w, q, e, lead_ranges (get_or s at 0) k)

pub step_none : (s : List ℕ) (at : ℕ) → length s ≤ at → record { len = 0; well_formed = false } ≡ first_step (drop at s)
unfolding first_step whole begun matched
step_none s at h = rw (drop_of_length-le s h)
