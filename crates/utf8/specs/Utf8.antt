-- UTF-8, from the Unicode Standard, chapter 3: table 3-7, and U+FFFD Substitution of Maximal Subparts (section 3.9).
use Rattle.std.specs.Prelude.{ℕ, zero, suc, max, min, List, [], ◌∷◌, ◌++◌, Bool, true, false, cond, ◌&&◌, length, take, drop, leb, ltb, eqb}

-- the range of a byte, both ends in it
pub record Range : Type 0 where
  pub low : ℕ
  pub high : ℕ

infix 70 ◌‥◌
abbrev pub ◌‥◌ : ℕ → ℕ → Range
low ‥ high = record { low = low; high = high }

-- a row of table 3-7: the range of each byte of a sequence
abbrev pub Row : Type 0
Row = List Range

-- table 3-7, Well-Formed UTF-8 Byte Sequences
abbrev pub table3_7 : List Row
table3_7 =
    (0x00 ‥ 0x7f ∷ [])
    ∷ (0xc2 ‥ 0xdf ∷ 0x80 ‥ 0xbf ∷ [])
    ∷ (0xe0 ‥ 0xe0 ∷ 0xa0 ‥ 0xbf ∷ 0x80 ‥ 0xbf ∷ [])
    ∷ (0xe1 ‥ 0xec ∷ 0x80 ‥ 0xbf ∷ 0x80 ‥ 0xbf ∷ [])
    ∷ (0xed ‥ 0xed ∷ 0x80 ‥ 0x9f ∷ 0x80 ‥ 0xbf ∷ [])
    ∷ (0xee ‥ 0xef ∷ 0x80 ‥ 0xbf ∷ 0x80 ‥ 0xbf ∷ [])
    ∷ (0xf0 ‥ 0xf0 ∷ 0x90 ‥ 0xbf ∷ 0x80 ‥ 0xbf ∷ 0x80 ‥ 0xbf ∷ [])
    ∷ (0xf1 ‥ 0xf3 ∷ 0x80 ‥ 0xbf ∷ 0x80 ‥ 0xbf ∷ 0x80 ‥ 0xbf ∷ [])
    ∷ (0xf4 ‥ 0xf4 ∷ 0x80 ‥ 0x8f ∷ 0x80 ‥ 0xbf ∷ 0x80 ‥ 0xbf ∷ [])
    ∷ []

abbrev pub within : ℕ → Range → Bool
within b r = leb r.low b && leb b r.high

-- how many bytes at the front lie in the row's ranges, one after the other
unfoldable pub matched : Row → List ℕ → ℕ
matched [] bs = 0
matched (r ∷ row) [] = 0
matched (r ∷ row) (b ∷ bs) = cond (within b r) (suc (matched row bs)) 0

-- the length of the well-formed sequence at the front, 0 where there is none
unfoldable pub whole : List Row → List ℕ → ℕ
whole [] bs = 0
whole (row ∷ rows) bs = cond (eqb (matched row bs) (length row)) (length row) (whole rows bs)

-- the length of the longest front that begins a well-formed sequence
unfoldable pub begun : List Row → List ℕ → ℕ
begun [] bs = 0
begun (row ∷ rows) bs = max (matched row bs) (begun rows bs)

-- the maximal subpart of an ill-formed subsequence: the longest front that begins a well-formed sequence, or one byte
abbrev pub maximal_subpart : List ℕ → ℕ
maximal_subpart bs = min (length bs) (max 1 (begun table3_7 bs))

-- what stands first in some bytes: how many they are, and whether they are a well-formed sequence or a maximal subpart of an ill-formed one
pub record Step : Type 0 where
  pub len : ℕ
  pub well_formed : Bool

-- what stands first: a well-formed sequence, else a maximal subpart
unfoldable pub first_step : List ℕ → Step
first_step bs =
    cond (eqb (whole table3_7 bs) 0) (record { len = maximal_subpart bs; well_formed = false }) (record { len = whole table3_7 bs; well_formed = true })

-- U+FFFD
abbrev pub replacement : List ℕ
replacement = 0xef ∷ 0xbf ∷ 0xbd ∷ []

-- a step's bytes, those of a maximal subpart replaced
abbrev pub repaired_step : Step → List ℕ → List ℕ
repaired_step s bs = cond s.well_formed (take s.len bs) replacement

-- n bounds the steps
unfoldable pub repair_up_to : ℕ → List ℕ → List ℕ
repair_up_to zero bs = []
repair_up_to (suc n) [] = []
repair_up_to (suc n) (b ∷ bs) = repaired_step (first_step (b ∷ bs)) (b ∷ bs) ++ repair_up_to n (drop (first_step (b ∷ bs)).len (b ∷ bs))

-- each maximal subpart becomes U+FFFD
abbrev pub repair : List ℕ → List ℕ
repair bs = repair_up_to (length bs) bs

unfoldable pub utf8_up_to : ℕ → List ℕ → Bool
utf8_up_to zero bs = eqb (length bs) 0
utf8_up_to (suc n) [] = true
utf8_up_to (suc n) (b ∷ bs) = (first_step (b ∷ bs)).well_formed && utf8_up_to n (drop (first_step (b ∷ bs)).len (b ∷ bs))

-- well-formed: a series of well-formed sequences
abbrev pub is_utf8 : List ℕ → Bool
is_utf8 bs = utf8_up_to (length bs) bs

-- ASCII: each byte is below 0x80
unfoldable pub is_ascii : List ℕ → Bool
is_ascii [] = true
is_ascii (b ∷ bs) = ltb b 0x80 && is_ascii bs
