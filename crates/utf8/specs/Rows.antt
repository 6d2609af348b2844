-- The row of table 3-7 that a byte leads, and a lead byte's ranges as the code has them.
use Rattle.std.specs.Prelude.{ℕ, zero, suc, ◌+◌, ◌-◌, List, [], ◌∷◌, Bool, true, false, cond, drop, get_or, eqb, Result, Ok, Err}
use Rattle.utf8.specs.Utf8.{Range, ◌‥◌, Row, within, matched, Step}

-- the row whose first range holds the byte, no ranges where there is none
unfoldable pub row_of : List Row → ℕ → Row
row_of [] b = []
row_of ([] ∷ rows) b = row_of rows b
row_of ((r ∷ row) ∷ rows) b = cond (within b r) (r ∷ row) (row_of rows b)

-- the step that the code answers
abbrev pub step_of : Result ℕ ℕ → Step
step_of (Ok n) = record { len = n; well_formed = true }
step_of (Err n) = record { len = n; well_formed = false }

-- the least and the greatest second byte behind a lead byte
abbrev pub second_low : ℕ → ℕ
second_low b = cond (eqb b 0xe0) 0xa0 (cond (eqb b 0xf0) 0x90 0x80)

abbrev pub second_high : ℕ → ℕ
second_high b = cond (eqb b 0xed) 0x9f (cond (eqb b 0xf4) 0x8f 0xbf)

abbrev pub second_range : ℕ → Range
second_range b = second_low b ‥ second_high b

-- n ranges: one, and those of trailing bytes
abbrev pub ranges : ℕ → Range → Row
ranges zero r = []
ranges (suc n) r = r ∷ ranges n (0x80 ‥ 0xbf)

-- how many bytes at a place begin a sequence of n
abbrev pub begun_at : List ℕ → ℕ → ℕ → ℕ
begun_at s at n = suc (matched (ranges (n - 1) (second_range (get_or s at 0))) (drop (at + 1) s))

-- whether the first byte lies in a range
unfoldable pub begins : Range → List ℕ → Bool
begins r [] = false
begins r (b ∷ bs) = within b r
