-- Repairs, evaluated: the examples of the Unicode Standard, tables 3-8 to 3-11.
use Rattle.lent.proofs.Prelude.{ℕ, ◌≡◌, refl, List, [], ◌∷◌, ◌++◌, map}
use Rattle.utf8.specs.Utf8.{matched, whole, begun, first_step, replacement, repair_up_to, repair}

-- U+FFFD, and bytes behind it
abbrev fffd : List ℕ → List ℕ
fffd s = replacement ++ s

-- bytes and their repair
abbrev cases : List (List ℕ × List ℕ)
cases =
    -- table 3-8, non-shortest forms
    (0xc0 ∷ 0xaf ∷ 0xe0 ∷ 0x80 ∷ 0xbf ∷ 0xf0 ∷ 0x81 ∷ 0x82 ∷ 0x41 ∷ [], fffd (fffd (fffd (fffd (fffd (fffd (fffd (fffd (0x41 ∷ [])))))))))
    -- table 3-9, surrogates
    ∷ (0xed ∷ 0xa0 ∷ 0x80 ∷ 0xed ∷ 0xbf ∷ 0xbf ∷ 0xed ∷ 0xaf ∷ 0x41 ∷ [], fffd (fffd (fffd (fffd (fffd (fffd (fffd (fffd (0x41 ∷ [])))))))))
    -- table 3-10, other ill-formed sequences
    ∷ (0xf4 ∷ 0x91 ∷ 0x92 ∷ 0x93 ∷ 0xff ∷ 0x41 ∷ 0x80 ∷ 0xbf ∷ 0x42 ∷ [], fffd (fffd (fffd (fffd (fffd (0x41 ∷ fffd (fffd (0x42 ∷ []))))))))
    -- table 3-11, truncated sequences
    ∷ (0xe1 ∷ 0x80 ∷ 0xe2 ∷ 0xf0 ∷ 0x91 ∷ 0x92 ∷ 0xf1 ∷ 0xbf ∷ 0x41 ∷ [], fffd (fffd (fffd (fffd (0x41 ∷ [])))))
    ∷ []

examples_hold : map (λ c. repair c.0) cases ≡ map (λ c. c.1) cases
unfolding repair_up_to first_step whole begun matched
examples_hold = refl
