-- Ends of ranges, by evaluation.
use Rattle.lent.proofs.Prelude.{◌≡◌, refl, List, [], ◌∷◌, map, ℕ}
use Prim.Native.Char.{code}
use Prim.Native.String.{String}
use Rattle.digits.specs.Digits.{digits, places_within, decimal, negative, hexadecimal, number, letter_in, escape, escaped, quoted}

-- the bytes of an ASCII text
abbrev ascii : String → List ℕ
ascii String.[] = []
ascii (String.◌∷◌ c s) = code c ∷ ascii s

pub decimals : map decimal (0 ∷ 9 ∷ 10 ∷ 99 ∷ 100 ∷ 255 ∷ 4294967295 ∷ 18446744073709551615 ∷ []) ≡ map ascii ("0" ∷ "9" ∷ "10" ∷ "99" ∷ "100" ∷ "255" ∷ "4294967295" ∷ "18446744073709551615" ∷ [])
unfolding digits places_within
decimals = refl

pub negatives : map negative (1 ∷ 10 ∷ 131071 ∷ []) ≡ map ascii ("-1" ∷ "-10" ∷ "-131071" ∷ [])
unfolding digits places_within
negatives = refl

pub hexadecimals : map (hexadecimal 4) (0 ∷ 9 ∷ 10 ∷ 0x00ff ∷ 0xabcd ∷ []) ≡ map ascii ("0000" ∷ "0009" ∷ "000a" ∷ "00ff" ∷ "abcd" ∷ [])
unfolding digits
hexadecimals = refl

-- 1.0, -0, and a NaN with bits in both halves
pub numbers : number 0x3ff00000 0 ∷ number 0x80000000 0 ∷ number 0x7ff80000 0xfedcba98 ∷ [] ≡ map ascii ("0x3ff0000000000000" ∷ "0x8000000000000000" ∷ "0x7ff80000fedcba98" ∷ [])
unfolding digits
numbers = refl

pub escapes : map escape (0 ∷ 6 ∷ 7 ∷ 8 ∷ 9 ∷ 10 ∷ 11 ∷ 12 ∷ 13 ∷ 14 ∷ 31 ∷ 32 ∷ 34 ∷ 92 ∷ 126 ∷ 127 ∷ 255 ∷ []) ≡ map ascii ("\\000" ∷ "\\006" ∷ "\\a" ∷ "\\b" ∷ "\\t" ∷ "\\n" ∷ "\\v" ∷ "\\f" ∷ "\\r" ∷ "\\014" ∷ "\\031" ∷ " " ∷ "\\\"" ∷ "\\\\" ∷ "~" ∷ "\\127" ∷ "\\255" ∷ [])
unfolding digits letter_in escape
escapes = refl

pub strings : map quoted ([] ∷ ascii "plain" ∷ (97 ∷ 10 ∷ 200 ∷ []) ∷ []) ≡ map ascii ("\"\"" ∷ "\"plain\"" ∷ "\"a\\n\\200\"" ∷ [])
unfolding digits letter_in escape escaped
strings = refl
