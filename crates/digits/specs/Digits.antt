-- Numbers and strings as text: Rust's {n}, {n:016x} and {n:03}, and listing.rs's format_string.
use Rattle.std.specs.Prelude.{ℕ, zero, suc, ◌+◌, ◌*◌, ◌/◌, ◌%◌, ◌^◌, Bool, cond, ◌&&◌, not, List, [], ◌∷◌, ◌++◌, leb, ltb, eqb, Option, Some, None}

-- ==== numbers

-- a digit below 16: 0 to 9, then a to f
abbrev pub digit : ℕ → ℕ
digit d = cond (ltb d 10) (48 + d) (87 + d)

-- the last k digits of n in a base, the most significant first
unfoldable pub digits : ℕ → ℕ → ℕ → List ℕ
digits base zero n = []
digits base (suc k) n = digits base k (n / base) ++ (digit (n % base) ∷ [])

-- how many digits n has in base 10, 0 having one; those after the first are counted up to most
unfoldable pub places_within : ℕ → ℕ → ℕ
places_within zero n = 1
places_within (suc most) n = cond (ltb n 10) 1 (suc (places_within most (n / 10)))

-- how many digits n has in base 10: a u64 has at most 20
abbrev pub places : ℕ → ℕ
places n = places_within 20 n

-- n in base 10, with no zero in front
abbrev pub decimal : ℕ → List ℕ
decimal n = digits 10 (places n) n

-- - n in base 10
abbrev pub negative : ℕ → List ℕ
negative n = 45 ∷ decimal n

-- k digits of n in base 16, lower case
abbrev pub hexadecimal : ℕ → ℕ → List ℕ
hexadecimal k n = digits 16 k n

-- the bits of a number constant: 0x and 16 digits
abbrev pub number_bits : ℕ → List ℕ
number_bits n = 48 ∷ 120 ∷ hexadecimal 16 n

-- those of one of which high and low are the halves
abbrev pub number : ℕ → ℕ → List ℕ
number high low = number_bits (high * 2 ^ 32 + low)

-- ==== strings

-- the bytes that are written as a letter, each with its letter: \" \\ \a \b \f \n \r \t \v
abbrev pub letters : List (ℕ × ℕ)
letters = (34, 34) ∷ (92, 92) ∷ (7, 97) ∷ (8, 98) ∷ (12, 102) ∷ (10, 110) ∷ (13, 114) ∷ (9, 116) ∷ (11, 118) ∷ []

-- the letter of a byte in a table, 0 where it has none
unfoldable pub letter_in : List (ℕ × ℕ) → ℕ → ℕ
letter_in [] b = 0
letter_in (row ∷ rows) b = cond (eqb b row.0) row.1 (letter_in rows b)

-- the letter of a byte, if it has one
abbrev pub letter : ℕ → Option ℕ
letter b = cond (ltb 0 (letter_in letters b)) (Some (letter_in letters b)) None

-- whether a byte is graphic ASCII or a space
abbrev pub is_print : ℕ → Bool
is_print b = leb 32 b && leb b 126

-- whether a byte is written as itself: graphic ASCII or a space, and no quote or backslash
abbrev pub is_plain : ℕ → Bool
is_plain b = not (eqb b 34) && not (eqb b 92) && is_print b

-- what format_string writes of a byte: its letter, the byte itself, or three digits in base 10
unfoldable pub escape : ℕ → List ℕ
escape b = cond (ltb 0 (letter_in letters b)) (92 ∷ letter_in letters b ∷ []) (cond (is_print b) (b ∷ []) (92 ∷ digits 10 3 b))

-- of bytes one after the other
unfoldable pub escaped : List ℕ → List ℕ
escaped [] = []
escaped (b ∷ s) = escape b ++ escaped s

-- format_string
abbrev pub quoted : List ℕ → List ℕ
quoted s = 34 ∷ escaped s ++ (34 ∷ [])
