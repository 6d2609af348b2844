-- Laws of text: repair leaves it alone (repair_utf8), what repair gives is text (utf8_repair), and text is made of bytes (utf8_bytes).
use Rattle.lent.proofs.Prelude.{ℕ, zero, suc, ◌≤◌, ◌<◌, min, ◌≡◌, refl, sym, ap, ◌∙◌, List, [], ◌∷◌, ◌++◌, append_assoc, append-nil, true, cond, ◌&&◌, false≢true, and-eq-true_iff, arith, le_refl, length, take, drop, length-drop, take-append-drop, length-take-le, drop_at, take_at, leb-zero, le-leb, eqb-true, eq-eqb}
use Rattle.lent.specs.Memory.{Every, Byte, Bytes}
use Rattle.lent.proofs.Lists.{every_append}
use Rattle.utf8.specs.Utf8.{Step, Row, table3_7, within, matched, whole, first_step, replacement, repaired_step, repair_up_to, repair, utf8_up_to, is_utf8}
use Rattle.utf8.specs.Rows.{row_of}
use Rattle.utf8.proofs.Rows.{step_none, by_test, row_step, in_range, matched_le, row_step_law}

-- ---- one step after the other

-- a step keeps within the bytes, and takes one where there is one
pub step_bounds : (bs : List ℕ) → (min 1 (length bs) ≤ (first_step bs).len) × ((first_step bs).len ≤ length bs)
step_bounds [] = rw (← step_none [] 0 (omega arith)) (omega arith)
step_bounds (b ∷ bs) = rw row_step_law (omega (arith, matched_le (drop 1 (row_of table3_7 b)) bs))

-- what is behind the first step
abbrev behind : List ℕ → List ℕ
behind s = drop (first_step s).len s

behind_le : (n b : ℕ) (bs : List ℕ) → length bs ≤ n → length (behind (b ∷ bs)) ≤ n
behind_le n b bs h = rw length-drop (omega (arith, step_bounds (b ∷ bs)))

pub by_steps : (P : List ℕ → Type 0) → P [] → ((b : ℕ) (bs : List ℕ) → P (behind (b ∷ bs)) → P (b ∷ bs)) → (s : List ℕ) → P s
by_steps P none more s = go (length s) s (le_refl _)
  where
    go : (n : ℕ) (s : List ℕ) → length s ≤ n → P s
    go zero [] h = none
    go zero (b ∷ bs) h = absurd (omega arith)
    go (suc n) [] h = none
    go (suc n) (b ∷ bs) h = more b bs (go n (behind (b ∷ bs)) (behind_le n b bs (omega arith)))

-- a function over the steps, with a bound that is large enough
module _ {A : Type 0} (f : ℕ → List ℕ → A) (last : A) (next : List ℕ → A → A) (at-end : (n : ℕ) → f n [] ≡ last) (at_step : (n b : ℕ) (bs : List ℕ) → f (suc n) (b ∷ bs) ≡ next (b ∷ bs) (f n (behind (b ∷ bs)))) where
  enough : (n m : ℕ) (s : List ℕ) → length s ≤ n → length s ≤ m → f n s ≡ f m s
  enough zero m [] h k = at-end zero ∙ sym (at-end m)
  enough zero m (b ∷ bs) h k = absurd (omega arith)
  enough (suc n) m [] h k = at-end (suc n) ∙ sym (at-end m)
  enough (suc n) zero (b ∷ bs) h k = absurd (omega arith)
  enough (suc n) (suc m) (b ∷ bs) h k =
      at_step n b bs
      ∙ ap (next (b ∷ bs)) (enough n m (behind (b ∷ bs)) (behind_le n b bs (omega arith)) (behind_le m b bs (omega arith)))
      ∙ sym (at_step m b bs)

  one_more : (b : ℕ) (bs : List ℕ) → f (length (b ∷ bs)) (b ∷ bs) ≡ next (b ∷ bs) (f (length (behind (b ∷ bs))) (behind (b ∷ bs)))
  one_more b bs =
      at_step (length bs) b bs
      ∙ ap (next (b ∷ bs)) (enough (length bs) (length (behind (b ∷ bs))) (behind (b ∷ bs)) (behind_le (length bs) b bs (le_refl _)) (le_refl _))

pub utf8_nil : is_utf8 [] ≡ true
unfolding utf8_up_to
utf8_nil = refl

pub utf8_cons : (b : ℕ) (bs : List ℕ) → is_utf8 (b ∷ bs) ≡ ((first_step (b ∷ bs)).well_formed && is_utf8 (behind (b ∷ bs)))
unfolding utf8_up_to
utf8_cons = one_more utf8_up_to true (λ s t. (first_step s).well_formed && t) end (λ n b bs. refl)
  where
    end : (n : ℕ) → utf8_up_to n [] ≡ true
    end zero = refl
    end (suc n) = refl

pub repair_cons : (b : ℕ) (bs : List ℕ) → repair (b ∷ bs) ≡ repaired_step (first_step (b ∷ bs)) (b ∷ bs) ++ repair (behind (b ∷ bs))
unfolding repair_up_to
repair_cons = one_more repair_up_to [] (λ s t. repaired_step (first_step s) s ++ t) end (λ n b bs. refl)
  where
    end : (n : ℕ) → repair_up_to n [] ≡ []
    end zero = refl
    end (suc n) = refl

-- ---- well-formed sequences

-- bytes that are the first step wherever they stand, whatever follows them
pub record Sequence (q : List ℕ) : Type 0 where
  pub first : (rest : List ℕ) → first_step (q ++ rest) ≡ record { len = length q; well_formed = true }

pub ascii_sequence : (b : ℕ) → b < 0x80 → Sequence (b ∷ [])
unfolding row_of matched
ascii_sequence b h = record { first = λ rest. row_step_law b rest ∙ rw (leb-zero b, le-leb b 0x7f (omega arith)) }

pub replacement_sequence : Sequence replacement
unfolding first_step whole matched
replacement_sequence = record { first = λ rest. refl }

matched_front : (row : Row) (bs rest : List ℕ) → matched row bs ≡ length row → matched row (take (length row) bs ++ rest) ≡ length row
unfolding matched
matched_front [] bs rest h = refl
matched_front (r ∷ row) [] rest h = absurd (omega arith)
matched_front (r ∷ row) (b ∷ bs) rest h =
    by_test (λ t. cond t (suc (matched row bs)) 0 ≡ suc (length row) → cond t (suc (matched row (take (length row) bs ++ rest))) 0 ≡ suc (length row)) (within b r)
    (λ e k. ap suc (matched_front row bs rest (omega arith))) (λ e k. k) h

row_sequence : (row : Row) (b : ℕ) (bs : List ℕ) → row_of table3_7 b ≡ row → (row_step row bs).well_formed ≡ true → Sequence (take (row_step row bs).len (b ∷ bs))
unfolding matched
row_sequence [] b bs e h = absurd (false≢true h)
row_sequence (r ∷ row) b bs e h =
    let t = eqb-true (suc (matched row bs)) (suc (length row)) h in
    let m : matched row bs ≡ length row = omega arith in
    let l : length (take (length row) bs) ≡ length row = length-take-le (length row) bs (omega (arith, matched_le row bs)) in
    record {
      first = λ rest.
          rw m (row_step_law b (take (length row) bs ++ rest) ∙ rw (e, matched_front row bs rest m, eq-eqb (suc (length row)) (suc (length row)) refl, l));
    }

pub front_sequence : (b : ℕ) (bs : List ℕ) → (first_step (b ∷ bs)).well_formed ≡ true → Sequence (take (first_step (b ∷ bs)).len (b ∷ bs))
front_sequence b bs h = rw (row_step_law b bs) (row_sequence (row_of table3_7 b) b bs refl (rw (row_step_law b bs) at h))

module _ (rest : List ℕ) where
  pub utf8_sequence : (q : List ℕ) → Sequence q → is_utf8 (q ++ rest) ≡ is_utf8 rest
  utf8_sequence [] s = refl
  utf8_sequence (b ∷ bs) s = utf8_cons b (bs ++ rest) ∙ rw (s.first rest, drop_at bs rest (length bs) refl)

  pub repair_sequence : (q : List ℕ) → Sequence q → repair (q ++ rest) ≡ q ++ repair rest
  repair_sequence [] s = refl
  repair_sequence (b ∷ bs) s = repair_cons b (bs ++ rest) ∙ rw (s.first rest, drop_at bs rest (length bs) refl, take_at bs rest (length bs) refl)

pub sequence_text : (q : List ℕ) → Sequence q → is_utf8 q ≡ true
sequence_text q h = rw append-nil at (utf8_sequence [] q h) ∙ utf8_nil

-- ---- text is a series of sequences

-- what holds of no bytes, and of a sequence before text if it holds of the text, holds of text
pub by_sequences : (P : List ℕ → Type 0) → P [] → ((q rest : List ℕ) → Sequence q → P rest → P (q ++ rest)) → (s : List ℕ) → is_utf8 s ≡ true → P s
by_sequences P none more = by_steps (λ s. is_utf8 s ≡ true → P s) (λ e. none) go
  where
    go : (b : ℕ) (bs : List ℕ) → (is_utf8 (behind (b ∷ bs)) ≡ true → P (behind (b ∷ bs))) → is_utf8 (b ∷ bs) ≡ true → P (b ∷ bs)
    go b bs i e =
        let h = (and-eq-true_iff (first_step (b ∷ bs)).well_formed (is_utf8 (behind (b ∷ bs)))).0 (sym (utf8_cons b bs) ∙ e) in
        let n = (first_step (b ∷ bs)).len in
        rw take-append-drop at (more (take n (b ∷ bs)) (behind (b ∷ bs)) (front_sequence b bs h.0) (i h.1))

pub utf8_append : (s rest : List ℕ) → is_utf8 s ≡ true → is_utf8 (s ++ rest) ≡ is_utf8 rest
utf8_append s rest = by_sequences (λ s. is_utf8 (s ++ rest) ≡ is_utf8 rest) refl (λ q t h i. rw append_assoc (utf8_sequence (t ++ rest) q h ∙ i)) s

pub utf8_both : (s t : List ℕ) → is_utf8 s ≡ true → is_utf8 t ≡ true → is_utf8 (s ++ t) ≡ true
utf8_both s t h k = utf8_append s t h ∙ k

-- ---- repair

pub repair_append : (s rest : List ℕ) → is_utf8 s ≡ true → repair (s ++ rest) ≡ s ++ repair rest
repair_append s rest =
    by_sequences (λ s. repair (s ++ rest) ≡ s ++ repair rest) refl (λ q t h i. rw (append_assoc q t rest, append_assoc q t (repair rest)) (repair_sequence (t ++ rest) q h ∙ ap (λ (l : List ℕ). q ++ l) i)) s

-- repair leaves text alone
pub repair_utf8 : (s : List ℕ) → is_utf8 s ≡ true → repair s ≡ s
unfolding repair_up_to
repair_utf8 s h = rw append-nil at (repair_append s [] h)

repaired_sequence : (b : ℕ) (bs : List ℕ) → Sequence (repaired_step (first_step (b ∷ bs)) (b ∷ bs))
repaired_sequence b bs =
    by_test (λ t. Sequence (cond t (take (first_step (b ∷ bs)).len (b ∷ bs)) replacement)) (first_step (b ∷ bs)).well_formed
    (front_sequence b bs) (λ e. replacement_sequence)

-- what repair gives is text
pub utf8_repair : (s : List ℕ) → is_utf8 (repair s) ≡ true
unfolding repair_up_to utf8_up_to
utf8_repair =
    by_steps (λ s. is_utf8 (repair s) ≡ true) refl (λ b bs i. rw repair_cons (utf8_sequence (repair (behind (b ∷ bs))) _ (repaired_sequence b bs) ∙ i))

-- ---- text is made of bytes

abbrev Low : Row → Type 0
Low row = Every (λ r. r.high < 256) row

low : Every Low table3_7
unfolding Every
low = (omega arith, (omega arith, (omega arith, (omega arith, (omega arith, (omega arith, (omega arith, (omega arith, (omega arith, tt)))))))))

matched_bytes : (row : Row) (bs : List ℕ) → Low row → matched row bs ≡ length bs → Bytes bs
unfolding Every matched
matched_bytes row [] h e = tt
matched_bytes [] (b ∷ bs) h e = absurd (omega arith)
matched_bytes (r ∷ row) (b ∷ bs) h e =
    by_test (λ t. cond t (suc (matched row bs)) 0 ≡ suc (length bs) → Byte b × Bytes bs) (within b r)
    (λ i k. (omega (arith, in_range b r i), matched_bytes row bs h.1 (omega arith))) (λ i k. absurd (omega arith)) e

-- a byte that leads a row
abbrev Leads : Row → ℕ → Type 0
Leads [] b = Unit {0}
Leads (r ∷ row) b = Byte b × Low row

leads : (rows : List Row) (b : ℕ) → Every Low rows → Leads (row_of rows b) b
unfolding Every row_of
leads [] b h = tt
leads ([] ∷ rows) b h = leads rows b h.1
leads ((r ∷ row) ∷ rows) b h =
    by_test (λ t. Leads (cond t (r ∷ row) (row_of rows b)) b) (within b r) (λ e. (omega (arith, in_range b r e), h.0.1)) (λ e. leads rows b h.1)

row_bytes : (row : Row) (b : ℕ) (bs : List ℕ) → Leads row b → row_step row bs ≡ record { len = suc (length bs); well_formed = true } → Bytes (b ∷ bs)
unfolding Every matched
row_bytes [] b bs h e = absurd (false≢true (ap (λ (s : Step). s.well_formed) e))
row_bytes (r ∷ row) b bs h e =
    let l = ap (λ (s : Step). s.len) e in
    (h.0, matched_bytes row bs h.1 (omega arith))

sequence_bytes : (q : List ℕ) → Sequence q → Bytes q
unfolding Every
sequence_bytes [] h = tt
sequence_bytes (b ∷ bs) h = row_bytes (row_of table3_7 b) b bs (leads table3_7 b low) (sym (row_step_law b bs) ∙ rw append-nil at (h.first []))

pub utf8_bytes : (s : List ℕ) → is_utf8 s ≡ true → Bytes s
unfolding Every
utf8_bytes = by_sequences Bytes tt (λ q rest h i. every_append Byte q rest (sequence_bytes q h) i)

-- ---- ASCII is text

pub utf8_ascii : (s : List ℕ) → Every (λ b. b < 0x80) s → is_utf8 s ≡ true
unfolding Every
utf8_ascii [] h = utf8_nil
utf8_ascii (b ∷ bs) h = utf8_sequence bs (b ∷ []) (ascii_sequence b h.0) ∙ utf8_ascii bs h.1
