-- Laws of quoted strings: bytes that are written as themselves, one after the other.
use Rattle.lent.proofs.Prelude.{not, not-false, length-append, ap, ◌&&◌, not-true, eqb, eqb-false, min, get_or-append, ℕ, suc, Bool, cond, ltb, ◌+◌, ◌≤◌, ◌<◌, ◌≡◌, refl, ◌∙◌, true, false, and-eq-true_iff, List, [], ◌∷◌, ◌++◌, append_assoc, arith, length, get_or, leb, leb-true, ne_eqb}
use Rattle.std.specs.Prelude.{Some, None}
use Rattle.std.specs.List.{IsFirstMatchOrLen}
use Rattle.lent.specs.Memory.{Every}
use Rattle.std.proofs.lemmas.List.{nil_from_length}
use Rattle.digits.specs.Digits.{digits, letters, letter_in, letter, is_print, is_plain, escape, escaped}

-- ---- one byte

-- a byte that is none of a table's has no letter in it
pub letter_none : (rows : List (ℕ × ℕ)) (b : ℕ) → Every (λ row. b ≡ row.0 → ⊥) rows → letter_in rows b ≡ 0
unfolding letter_in Every
letter_none [] b h = refl
letter_none (row ∷ rows) b h = rw (ne_eqb b row.0 h.0) (letter_none rows b h.1)

pub escape_letter : (b l : ℕ) → letter b ≡ Some l → escape b ≡ 92 ∷ l ∷ []
unfolding escape
escape_letter b l = by _ _ (ltb 0 (letter_in letters b))
  where
    by : (m : ℕ) (other : List ℕ) (t : Bool) → cond t (Some m) None ≡ Some l → cond t (92 ∷ m ∷ []) other ≡ 92 ∷ l ∷ []
    by m other true e = cc
    by m other false e = cc

-- a byte with no letter
escape_other : (b : ℕ) → letter b ≡ None → escape b ≡ cond (is_print b) (b ∷ []) (92 ∷ digits 10 3 b)
unfolding escape
escape_other b = by _ _ _ (ltb 0 (letter_in letters b))
  where
    by : (m : ℕ) (some other : List ℕ) (t : Bool) → cond t (Some m) None ≡ None → cond t some other ≡ other
    by m some other true e = cc
    by m some other false e = refl

module _ (b : ℕ) (none : letter b ≡ None) where
  pub escape_print : is_print b ≡ true → escape b ≡ b ∷ []
  escape_print h = escape_other b none ∙ rw h

  pub escape_digits : is_print b ≡ false → escape b ≡ 92 ∷ digits 10 3 b
  escape_digits h = escape_other b none ∙ rw h

-- a byte that has no letter because it is no quote, no backslash and no control byte
pub escape_plain : (b : ℕ) → is_plain b ≡ true → escape b ≡ b ∷ []
unfolding Every
escape_plain b h =
    let p = (and-eq-true_iff (not (eqb b 34) && not (eqb b 92)) (is_print b)).0 h in
    let q = (and-eq-true_iff (not (eqb b 34)) (not (eqb b 92))).0 p.0 in
    let l : 32 ≤ b = leb-true 32 b ((and-eq-true_iff (leb 32 b) (leb b 126)).0 p.1).0 in
    let m : b ≡ 34 → ⊥ = eqb-false b 34 (not-true _ q.0) in
    let n : b ≡ 92 → ⊥ = eqb-false b 92 (not-true _ q.1) in
    escape_print b (rw (letter_none letters b (omega arith))) p.1

-- ---- bytes one after the other

-- bytes that are written as themselves, then others
pub escaped_plain : (s more : List ℕ) → ((k : ℕ) → k < length s → is_plain (get_or s k 0) ≡ true) → escaped (s ++ more) ≡ s ++ escaped more
unfolding escaped
escaped_plain [] more h = refl
escaped_plain (b ∷ s) more h = rw (escape_plain b (h 0 (omega arith)), escaped_plain s more (λ k l. h (suc k) (omega arith)))

pub escaped_none : (s : List ℕ) → length s ≡ 0 → escaped s ≡ []
unfolding escaped
escaped_none s h = rw (nil_from_length s h)

-- a run of such bytes, and the byte behind it
pub escaped_run : (s rest plain : List ℕ) {run : List ℕ} (last i : ℕ) → s ≡ run ++ rest → run ≡ plain ++ (last ∷ []) → length run ≡ min (i + 1) (length s)
    → IsFirstMatchOrLen (λ b. not (is_plain b)) s i → escaped s ≡ plain ++ (escape last ++ escaped rest)
unfolding escaped
escaped_run s rest plain last i e r n f =
    let w : s ≡ plain ++ (last ∷ rest) = e ∙ rw (r, append_assoc) in
    let l : length plain ≤ i = omega (arith, n, ap length r, length-append plain (last ∷ [])) in
    rw w (escaped_plain plain (last ∷ rest) (λ k h. not-false _ (rw (w, get_or-append plain (last ∷ rest) 0 k h) at (f.0 k 0 (omega arith) (omega arith)))))
