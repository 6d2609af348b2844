-- Text within bytes: how it goes on, and what it says of the whole.
use Rattle.lent.proofs.Prelude.{ℕ, ◌+◌, ◌-◌, ◌≤◌, ◌<◌, min, ◌≡◌, refl, sym, ap, ◌∙◌, List, [], ◌∷◌, ◌++◌, Bool, true, false, not, arith, ℕ_discrete, length, take, drop, get_or, take-append-drop, length-drop, drop_of_length-le, take-add, drop-drop, eqb, eq-eqb, ne_eqb, not-false}
use Rattle.std.proofs.lemmas.List.{drop_more}
use Rattle.utf8.specs.Utf8.{Step, table3_7, first_step, is_utf8, is_ascii, replacement, repair_up_to, repair}
use Rattle.utf8.proofs.Laws.{step_bounds, utf8_nil, utf8_cons, repair_cons, ascii_sequence, front_sequence, sequence_text, utf8_append, utf8_both, repair_append, utf8_ascii}
use Rattle.utf8.specs.Rows.{row_of, begun_at}
use Rattle.utf8.specs.Text.{Text, TextEnd}
use Rattle.utf8.proofs.Ascii.{ascii_every}
use Rattle.utf8.proofs.Rows.{step_led}

-- ---- text from a place on

pub text_none : (s : List ℕ) (at : ℕ) → at ≤ length s → Text s at at
text_none s at h = record { from = omega arith; fits = h; text = let e : at - at ≡ 0 = omega arith in rw e utf8_nil }

text_some : (s : List ℕ) (at n : ℕ) → at + n ≤ length s → is_utf8 (take n (drop at s)) ≡ true → Text s at (at + n)
text_some s at n h k = record { from = omega arith; fits = h; text = let e : at + n - at ≡ n = omega arith in rw e k }

-- ASCII is text
pub text_ascii : {s : List ℕ} {at : ℕ} (n : ℕ) {t : Bool} → at + n ≤ length s → t ≡ is_ascii (take n (drop at s)) → t ≡ true → Text s at (at + n)
text_ascii {s} {at} n {t} h e k = text_some s at n h (utf8_ascii _ (ascii_every _ (sym e ∙ k)))

-- from a to b, and from b to c
joined : (s : List ℕ) (a b c : ℕ) → a ≤ b → b ≤ c → take (c - a) (drop a s) ≡ take (b - a) (drop a s) ++ take (c - b) (drop b s)
joined s a b c h k =
    let e : c - a ≡ (b - a) + (c - b) = omega arith in
    let f : a + (b - a) ≡ b = omega arith in
    rw (e, take-add (b - a) (c - b) (drop a s), drop-drop (b - a) a s, f)

pub text_join : {s : List ℕ} {a b c : ℕ} → Text s a b → Text s b c → Text s a c
text_join {s} {a} {b} {c} h k =
    record {
      from = omega arith;
      fits = omega arith;
      text = rw (joined s a b c h.from k.from) (utf8_both (take (b - a) (drop a s)) (take (c - b) (drop b s)) h.text k.text);
    }

-- ---- the byte and the step at a place

pub step_least : (s : List ℕ) (at : ℕ) {r : Step} → r ≡ first_step (drop at s) → min 1 (length s - at) ≤ r.len
step_least s at e = rw e (simp length-drop at (step_bounds (drop at s)).0)

pub step_most : (s : List ℕ) (at : ℕ) {r : Step} → r ≡ first_step (drop at s) → r.len ≤ length s - at
step_most s at e = rw e (simp length-drop at (step_bounds (drop at s)).1)

module _ (s : List ℕ) (at : ℕ) (h : at < length s) where
  -- what holds of a first byte and those behind it
  there : (P : List ℕ → Type 0) → ((b : ℕ) (bs : List ℕ) → P (b ∷ bs)) → P (drop at s)
  there P f = rw (drop_more s at 0 h) (f (get_or s at 0) (drop (at + 1) s))

  pub text_byte : get_or s at 0 < 0x80 → Text s at (at + 1)
  text_byte l = text_some s at 1 (omega arith) (rw (drop_more s at 0 h) (sequence_text (get_or s at 0 ∷ []) (ascii_sequence (get_or s at 0) l)))

  module _ {r : Step} (e : r ≡ first_step (drop at s)) where
    pub text_step : not r.well_formed ≡ false → Text s at (at + r.len)
    text_step k =
        text_some s at r.len (omega (arith, step_most s at e))
        (rw e (there (λ bs. (first_step bs).well_formed ≡ true → is_utf8 (take (first_step bs).len bs) ≡ true) (λ b bs w. sequence_text _ (front_sequence b bs w)) (not-false _ (rw e at k))))

    pub repair_ill : (first_step (drop at s)).well_formed ≡ false → repair (drop at s) ≡ replacement ++ repair (drop (at + r.len) s)
    repair_ill w =
        rw (e, ← drop-drop (first_step (drop at s)).len at s)
        (there (λ bs. (first_step bs).well_formed ≡ false → repair bs ≡ replacement ++ repair (drop (first_step bs).len bs)) (λ b bs w. rw (repair_cons b bs, w)) w)

  utf8_ill : (first_step (drop at s)).well_formed ≡ false → is_utf8 (drop at s) ≡ false
  utf8_ill = there (λ bs. (first_step bs).well_formed ≡ false → is_utf8 bs ≡ false) (λ b bs w. rw (utf8_cons b bs, w))

pub repair_none : (s : List ℕ) (at : ℕ) → length s ≤ at → repair (drop at s) ≡ []
unfolding repair_up_to
repair_none s at h = rw (drop_of_length-le s h)

-- a sequence of n bytes: the row of its lead byte has n, and n begin it
pub text_led : {s : List ℕ} {at : ℕ} (n : ℕ) → at < length s → get_or s at 0 < 256 → length (row_of table3_7 (get_or s at 0)) ≡ n → begun_at s at n ≡ n → Text s at (at + n)
text_led {s} {at} n h k e l = text_step s at h (step_led s at n n h k (sym e) (sym l) (sym (eq-eqb n n refl))) refl

-- text that ends at the end of the bytes
pub text_end : {s : List ℕ} {at to : ℕ} → length s ≤ to → Text s at to → TextEnd s at to
text_end k h = record { text = h; stops = λ l. absurd (omega arith) }

-- ---- the whole

module _ {s : List ℕ} {at to : ℕ} (h : Text s at to) where
  split : drop at s ≡ take (to - at) (drop at s) ++ drop to s
  split =
      let e : at + (to - at) ≡ to = omega arith in
      sym (take-append-drop (to - at) (drop at s)) ∙ rw (drop-drop (to - at) at s, e)

  pub repair_text : repair (drop at s) ≡ take (to - at) (drop at s) ++ repair (drop to s)
  repair_text = ap repair split ∙ repair_append (take (to - at) (drop at s)) (drop to s) h.text

  pub utf8_text : is_utf8 (drop at s) ≡ is_utf8 (drop to s)
  utf8_text = ap is_utf8 split ∙ utf8_append (take (to - at) (drop at s)) (drop to s) h.text

pub text_whole : {s : List ℕ} {to : ℕ} → TextEnd s 0 to → eqb to (length s) ≡ is_utf8 s
text_whole {s} {to} h = elim (ℕ_discrete to (length s)) [
  | yes e ↦ eq-eqb to (length s) e ∙ sym (utf8_text h.text ∙ rw (drop_of_length-le s {i = to} (omega arith)) utf8_nil)
  | no e ↦
      let l : to < length s = omega (arith, h.text.fits) in
      ne_eqb to (length s) e ∙ sym (utf8_text h.text ∙ utf8_ill s to l (h.stops l))
]
