-- Records: one is filled after the other, and each tells how the search goes on.
use Rattle.std.specs.Simd.{first_chunks}
use Rattle.std.specs.Prelude.{Option}
use Rattle.lent.proofs.Prelude.{ℕ, zero, suc, ◌+◌, ◌*◌, ◌≤◌, ◌<◌, ◌≡◌, refl, sym, ap, ◌∙◌, List, [], ◌∷◌, add-zero, arith, add-one, length, drop, get_or, set, drop_of_length-le, paste, paste-suc, drop-cons, append-nil, take_all, take, get_or-take, get_or-drop, drop-drop}
use Rattle.std.proofs.lemmas.List.{drop-take}
use Rattle.local_records.specs.declared.record.LocalRecord.{LocalRecord}
use Rattle.debug_info.specs.declared.name.Known.{Known}
use Rattle.std.specs.declared.ops.ControlFlow.{ControlFlow}
use Rattle.std.specs.declared.ops.ControlFlow.TheVariants.{Continue, Break}
use Rattle.debug_info.specs.Look.{look, after}
use Rattle.local_records.specs.Records.{record_at, records_at, records_of, look_at, active_in, unnamed, text_named}

abbrev blank : LocalRecord
blank = record { place = 0; len = 0; start = 0; end = 0 }

-- ---- filling

records_length : (l : List (List ℕ)) → length (records_of l) ≡ length l
unfolding records_of
records_length [] = refl
records_length (words ∷ l) = ap suc (records_length l)

records_get : (l : List (List ℕ)) (i : ℕ) → i < length l → get_or (records_of l) i blank ≡ record_at (get_or l i []) 0
unfolding records_of
records_get [] i h = absurd (omega arith)
records_get (words ∷ l) zero h = refl
records_get (words ∷ l) (suc i) h = records_get l i (omega arith)

-- by its four words
record_same : (words words' : List ℕ) (at at' : ℕ) → ((k : ℕ) → k < 4 → get_or words (at + k) 0 ≡ get_or words' (at' + k) 0) → record_at words at ≡ record_at words' at'
record_same words words' at at' g =
    let p : get_or words at 0 ≡ get_or words' at' 0 = simp add-zero at (g 0 (omega arith)) in
    rw (p, g 1 (omega arith), g 2 (omega arith), g 3 (omega arith))

-- those of a part of the words, in fours
pub records_fours : (words : List ℕ) (at n : ℕ) → records_of (first_chunks 4 n (take (4 * n) (drop at words))) ≡ records_at words at n
unfolding records_of records_at
records_fours words at zero = refl
records_fours words at (suc n) =
    let m : 4 * suc n ≡ 4 + 4 * n = omega arith in
    let d : drop 4 (take (4 + 4 * n) (drop at words)) ≡ take (4 * n) (drop (at + 4) words) = drop-take 4 (4 * n) (drop at words) ∙ ap (take (4 * n)) (drop-drop 4 at words) in
    let e : record_at (take 4 (take (4 + 4 * n) (drop at words))) 0 ≡ record_at words at = record_same (take 4 (take (4 + 4 * n) (drop at words))) words 0 at
    (λ k l. let z : 0 + k ≡ k = omega arith in rw z (get_or-take 4 (take (4 + 4 * n) (drop at words)) k 0 (omega arith) ∙ get_or-take (4 + 4 * n) (drop at words) k 0 (omega arith) ∙ get_or-drop at words k 0)) in
    rw m (rw (e, d, records_fours words (at + 4) n))

-- i of the records are filled
abbrev pub Filling : List LocalRecord → List (List ℕ) → ℕ → List LocalRecord → Type 0
Filling before words i records = records ≡ paste before 0 (records_of words) i

module _ (before : List LocalRecord) (words : List (List ℕ)) where
  pub filling_more : {i : ℕ} {records : List LocalRecord} {r : LocalRecord} → i < length before → length before ≡ length words → Filling before words i records → r ≡ record_at (get_or words i []) 0
      → Filling before words (i + 1) (set records i r)
  filling_more {i} {r = r} h k f e =
      let g : r ≡ get_or (records_of words) i blank = e ∙ sym (records_get words i (omega arith)) in
      let z : i ≡ 0 + i = omega arith in
      rw (f, g, add-one i)
      (ap (λ (j : ℕ). set (paste before 0 (records_of words) i) j (get_or (records_of words) i blank)) z ∙ paste-suc before 0 (records_of words) i blank (omega arith) (omega (arith, records_length words)))

  pub filling_all : {i : ℕ} {records : List LocalRecord} → length before ≡ length words → length before ≤ i → i ≤ length before → Filling before words i records → records ≡ records_of words
  filling_all {i} {records} h k l f =
      let e : i ≡ length words = omega arith in
      let z : 0 + length words ≡ length words = omega arith in
      f ∙ rw (e, z, take_all (length words) (records_of words) (omega (arith, records_length words)), drop_of_length-le before {i = length words} (omega arith)) (append-nil (records_of words))

-- ---- the search

-- from record i on, they lead to the same as all of them
abbrev pub Searching : List LocalRecord → ℕ → ℕ → ℕ → ℕ → Type 0
Searching records pc number i remaining = active_in (drop i records) remaining pc ≡ active_in records number pc

module _ (records : List LocalRecord) (pc number i remaining : ℕ) (s : Searching records pc number i remaining) where
  -- by what the record at i tells
  search_on : (a : ControlFlow (Option Known) ℕ) → i < length records → a ≡ look_at (get_or records i blank) remaining pc → after a (λ found. found) (λ m. active_in (drop (i + 1) records) m pc) ≡ active_in records number pc
  unfolding active_in
  search_on a k e = let d : drop i records ≡ get_or records i blank ∷ drop (i + 1) records = rw (add-one i) (drop-cons records i blank k) in sym (rw (d, ← e) at (sym s))

  module _ (k : i < length records) {known : Known} (q : known ≡ text_named (get_or records i blank).place (get_or records i blank).len) where
    pub search_found : {r : Option Known} → Break r ≡ look known (get_or records i blank).start (get_or records i blank).end remaining pc → r ≡ active_in records number pc
    search_found {r} e = search_on (Break r) k (rw q at e)

    pub search_left : {m : ℕ} → Continue m ≡ look known (get_or records i blank).start (get_or records i blank).end remaining pc → Searching records pc number (i + 1) m
    search_left {m} e = search_on (Continue m) k (rw q at e)

  pub search_over : length records ≤ i → unnamed ≡ active_in records number pc
  unfolding active_in
  search_over k = rw (drop_of_length-le records {i = i} k) at s
