-- measure and store: undumped by what measure answers, what store does by the numbers that it is handed, and that the two together are undumped.
use Rattle.lent.proofs.Prelude.{ℕ, ◌≤◌, ◌<◌, min, ◌≡◌, refl, sym, ap, List, Bool, true, false, cond, and-eq-true_iff, arith, length, le-leb, lt-leb, eqb, eq-eqb, ne_eqb, eqb-true, eqb-false, dec_le}
use mathlib.Core.Logic.{◌↔◌}
use Rattle.lent.specs.Memory.{Bytes}
use Rattle.format.specs.Read.{Read, got, refused}
use Rattle.format.specs.Store.{words_of, text_of}
use Rattle.format.specs.Valid.{most}
use Rattle.format.specs.Undump.{Chunk, load_chunk, name_ok, refused_by, measured_by, measured, UndumpLeft, undump_refused, undumped_by, undumped, as_measured, stored}
use Rattle.format.specs.declared.Undumped.{Undumped}
use Rattle.utf8.proofs.Rows.{by_test}
use Rattle.format.proofs.Loaded.{load_refuses}

-- the numbers that measure answered are those that it answers
pub as_itself : (m : Undumped) → as_measured m m.words m.text m.read ≡ true
as_itself m = rw (eq-eqb m.words m.words refl, eq-eqb m.text m.text refl, eq-eqb m.read m.read refl)

-- ---- undumped, by what measure answers

-- measured and undumped, by the test of the name and by what reading gives
abbrev pub measured_as : List ℕ → Bool → Read Chunk → Undumped
measured_as chunk ok x = cond ok (measured_by chunk x) (refused_by 1)

abbrev pub undumped_as : List ℕ → List ℕ → List ℕ → Bool → Read Chunk → UndumpLeft
undumped_as chunk words text ok x = cond ok (undumped_by chunk x words text) (undump_refused 1 words text)

whole_as : (chunk : List ℕ) (ok : Bool) (x : Read Chunk) → ((measured_as chunk ok x).refusal ≡ 0 → ⊥) → measured_as chunk ok x ≡ refused_by (measured_as chunk ok x).refusal
whole_as chunk false x n = refl
whole_as chunk true (refused k) n = refl
whole_as chunk true (got c rest) n = absurd (n refl)

module _ (chunk words text : List ℕ) where
  refused_as : (ok : Bool) (x : Read Chunk) → ((measured_as chunk ok x).refusal ≡ 0 → ⊥) → undumped_as chunk words text ok x ≡ undump_refused (measured_as chunk ok x).refusal words text
  refused_as false x n = refl
  refused_as true (refused k) n = refl
  refused_as true (got c rest) n = absurd (n refl)

  few_words_as : (ok : Bool) (x : Read Chunk) → (measured_as chunk ok x).refusal ≡ 0 → min (length words) most < (measured_as chunk ok x).words → undumped_as chunk words text ok x ≡ undump_refused 8 words text
  few_words_as false x z h = absurd (omega arith)
  few_words_as true (refused k) z h = absurd (omega arith)
  few_words_as true (got c rest) z h = rw (lt-leb (length (words_of c.root)) (min (length words) most) (omega arith))

  few_text_as : (ok : Bool) (x : Read Chunk) → (measured_as chunk ok x).refusal ≡ 0 → (measured_as chunk ok x).words ≤ min (length words) most → min (length text) most < (measured_as chunk ok x).text
      → undumped_as chunk words text ok x ≡ undump_refused 9 words text
  few_text_as false x z h k = absurd (omega arith)
  few_text_as true (refused n) z h k = absurd (omega arith)
  few_text_as true (got c rest) z h k =
      rw (le-leb (length (words_of c.root)) (min (length words) most) (omega arith), lt-leb (length (text_of c.root)) (min (length text) most) (omega arith))

  fits_as : (ok : Bool) (x : Read Chunk) → (measured_as chunk ok x).refusal ≡ 0 → (measured_as chunk ok x).words ≤ min (length words) most → (measured_as chunk ok x).text ≤ min (length text) most
      → (undumped_as chunk words text ok x).answer ≡ measured_as chunk ok x
  fits_as false x z h k = absurd (omega arith)
  fits_as true (refused n) z h k = refl
  fits_as true (got c rest) z h k =
      let w : (measured_as chunk true (got c rest)).words ≡ length (words_of c.root) = omega arith in
      let t : (measured_as chunk true (got c rest)).text ≡ length (text_of c.root) = omega arith in
      rw (le-leb (length (words_of c.root)) (min (length words) most) (omega arith), le-leb (length (text_of c.root)) (min (length text) most) (omega arith), w, t)

-- beside a refusal of measure stand zeros
pub refused_whole : (chunk name : List ℕ) → ((measured chunk name).refusal ≡ 0 → ⊥) → measured chunk name ≡ refused_by (measured chunk name).refusal
unfolding measured
refused_whole chunk name n = whole_as chunk (name_ok name) (load_chunk chunk) n

-- measure is refused by 1 to 7 only
pub measure_refuses : (chunk name : List ℕ) → Bytes chunk → (measured chunk name).refusal ≤ 7
unfolding measured
measure_refuses chunk name h = by (name_ok name) (load_chunk chunk) refl
  where
    by : (ok : Bool) (x : Read Chunk) → load_chunk chunk ≡ x → (measured_as chunk ok x).refusal ≤ 7
    by false x e = omega arith
    by true (got c rest) e = omega arith
    by true (refused n) e = let r = load_refuses chunk h n e in omega arith

module _ (chunk name words text : List ℕ) where
  abbrev m : Undumped
  m = measured chunk name

  -- refused as measure is
  pub undump_refused_as : (m.refusal ≡ 0 → ⊥) → undumped chunk name words text ≡ undump_refused m.refusal words text
  unfolding measured undumped
  undump_refused_as n = refused_as chunk words text (name_ok name) (load_chunk chunk) n

  module _ (z : m.refusal ≡ 0) where
    pub few_words : min (length words) most < m.words → undumped chunk name words text ≡ undump_refused 8 words text
    unfolding measured undumped
    few_words h = few_words_as chunk words text (name_ok name) (load_chunk chunk) z h

    module _ (h : m.words ≤ min (length words) most) where
      pub few_text : min (length text) most < m.text → undumped chunk name words text ≡ undump_refused 9 words text
      unfolding measured undumped
      few_text k = few_text_as chunk words text (name_ok name) (load_chunk chunk) z h k

      pub enough : m.text ≤ min (length text) most → (undumped chunk name words text).answer ≡ m
      unfolding measured undumped
      enough k = fits_as chunk words text (name_ok name) (load_chunk chunk) z h k

  -- so that it is then refused by 8 and 9 only
  then_refused : m.refusal ≡ 0 → (undumped chunk name words text).answer.refusal ≤ 9
  then_refused z = elim (dec_le m.words (min (length words) most)) [
    | yes h ↦ elim (dec_le m.text (min (length text) most)) [
      | yes k ↦ rw (enough z h k) (omega arith)
      | no k ↦ rw (few_text z h (omega arith)) (omega arith)
    ]
    | no h ↦ rw (few_words z (omega arith)) (omega arith)
  ]

  -- ---- store, by measure's numbers and those that it is handed

  module _ (need_words need_text need_read : ℕ) where
    abbrev left : UndumpLeft
    left = stored chunk name need_words need_text need_read words text

    abbrev same : Bool
    same = as_measured m need_words need_text need_read

    -- refused as measure is, whatever the numbers
    pub store_refused : (m.refusal ≡ 0 → ⊥) → left ≡ undump_refused m.refusal words text
    unfolding stored
    store_refused n = rw (ne_eqb m.refusal 0 n)

    -- 15 where a number is another, whatever the space
    pub store_other : m.refusal ≡ 0 → same ≡ false → left ≡ undump_refused 15 words text
    unfolding stored
    store_other z e = rw (eq-eqb m.refusal 0 z, e)

    -- else as the two together
    pub store_as : same ≡ true → left ≡ undumped chunk name words text
    unfolding stored
    store_as e =
        rw e
        (by_test (λ b. cond b (undumped chunk name words text) (undump_refused m.refusal words text) ≡ undumped chunk name words text) (eqb m.refusal 0)
        (λ y. refl) (λ y. sym (undump_refused_as (eqb-false _ _ y))))

    abbrev Equal : Type 0
    Equal = (need_words ≡ m.words) × (need_text ≡ m.text) × (need_read ≡ m.read)

    equal : same ≡ true → Equal
    equal e =
        let h = (and-eq-true_iff _ _).0 e in
        let k = (and-eq-true_iff _ _).0 h.1 in
        (eqb-true _ _ h.0, eqb-true _ _ k.0, eqb-true _ _ k.1)

    -- 15 where, and only where, measure is not refused and a number is not the one that it answers
    pub store_15 : Bytes chunk → (left.answer.refusal ≡ 15) ↔ ((m.refusal ≡ 0) × (Equal → ⊥))
    store_15 h = (λ e. (none e, λ same. other e same), given)
      where
        refusal_of : {u v : UndumpLeft} → u ≡ v → u.answer.refusal ≡ v.answer.refusal
        refusal_of = ap (λ (u : UndumpLeft). u.answer.refusal)

        none : left.answer.refusal ≡ 15 → m.refusal ≡ 0
        none e =
            by_test (λ b. m.refusal ≡ 0) (eqb m.refusal 0) (λ y. eqb-true _ _ y)
            (λ y. absurd (omega (arith, measure_refuses chunk name h, refusal_of (store_refused (eqb-false _ _ y)))))

        other : left.answer.refusal ≡ 15 → Equal → ⊥
        other e (a, b, c) = omega (arith, then_refused (none e), refusal_of (store_as (rw (a, b, c) (as_itself m))))

        given : (m.refusal ≡ 0) × (Equal → ⊥) → left.answer.refusal ≡ 15
        given (z, n) = by_test (λ b. left.answer.refusal ≡ 15) same (λ y. absurd (n (equal y))) (λ y. refusal_of (store_other z y))

  -- ==== measure, then store with what it answered, is undumped
  pub measure_then_store : stored chunk name m.words m.text m.read words text ≡ undumped chunk name words text
  measure_then_store = store_as m.words m.text m.read (as_itself m)
