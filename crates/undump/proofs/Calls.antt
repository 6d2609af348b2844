-- The header: bytes that are those, or are others. Then what measure answers at each of its returns, and what store answers and leaves at each of its.
use Rattle.std.specs.Borrow.{Bor}
use Rattle.std.specs.Prelude.{Result, Ok, Err}
use Rattle.std.specs.Str.{bytes_eq}
use Rattle.std.proofs.lemmas.Slice.Eq.{bytes_eq-Decides}
use Rattle.lent.proofs.Prelude.{ℕ, ◌+◌, ◌-◌, ◌≤◌, ◌<◌, min, ◌≡◌, refl, sym, ap, ◌∙◌, List, [], ◌++◌, append-nil, Bool, true, false, not, arith, length, take, drop, length-drop, drop_of_length-le, sets, sets-eq, length-take-le, le-leb, not-true, not-false}
use Rattle.lent.specs.Memory.{far}
use Rattle.format.specs.Tree.{Function}
use Rattle.format.specs.Read.{Read, got, refused, width_of, same, format, load_exactly, load_format}
use Rattle.format.specs.Dump.{name_refusal}
use Rattle.format.specs.Refusal.{number}
use Rattle.format.specs.Store.{function_piece, words_of, text_of}
use Rattle.format.specs.Valid.{most}
use Rattle.format.specs.Undump.{Chunk, load_chunk, refused_by, undumped_result, measured_by, measured, name_ok, over, undumped, as_measured, stored}
use Rattle.format.specs.declared.MeasuredChunk.{MeasuredChunk}
use Rattle.format.specs.declared.Needs.{Needs}
use Rattle.format.specs.declared.Undumped.{Undumped}
use Rattle.format.specs.declared.Refusal.{Refusal}
use Rattle.format.specs.declared.Refusal.TheVariants.{BadFormat}
use Rattle.load_state.specs.declared.cursor.Got.{Got}
use Rattle.load_state.specs.ReadAt.{Ends, ReadsBy, ReadAt, BlockAt}
use Rattle.load.specs.Loads.{Does}
use Rattle.undump.specs.declared.LoadedChunk.{LoadedChunk}
use Rattle.undump.specs.Undump.{unused, used, LoadsChunk, undump_left}
use Rattle.load.proofs.Steps.{reads_then}
use Rattle.format.proofs.RoundTrip.{same_is}
use Rattle.format.proofs.Refusals.{refusal_above, name_good, by_name}
use Rattle.format.proofs.Measured.{measured_as, undumped_as, refused_whole, store_refused, store_other, store_as, few_words, few_text, enough}

-- ---- the header

-- a test tells whether bytes are these
told : {t : Bool} (s bytes : List ℕ) → t ≡ bytes_eq s bytes → same s bytes ≡ t
told s bytes e = same_is _ _ bytes (bytes_eq-Decides s bytes) ∙ sym e

-- the block that is compared
module _ {bs : List ℕ} {at : ℕ} (bytes : List ℕ) (x : Refusal) where
  module _ {g : Got (Bor (List ℕ))} {t : Bool} (h : BlockAt bs (length bytes) at (Ok g)) (e : t ≡ not (bytes_eq g.value.now bytes)) where
    pub exactly_others : t ≡ true → ReadsBy bs (load_exactly bytes (number x)) (λ v (n : ℕ). Unit {0}) (λ n. n) at (Err x)
    exactly_others f = reads_then _ h (λ s p. record { ends = rw (p, told g.value.now bytes (sym (not-true _ (sym e ∙ f)))) refl })

    pub exactly_these : t ≡ false → ReadsBy bs (load_exactly bytes (number x)) (λ v (n : ℕ). Unit {0}) (λ n. n) at (Ok g.next)
    exactly_these f = reads_then _ h (λ s p. record { ends = rw (p, told g.value.now bytes (sym (not-false _ (sym e ∙ f)))) (refl, tt) })

-- the two forms of the eight bytes
module _ {bs : List ℕ} {at : ℕ} {g : Got (Bor (List ℕ))} {t : Bool} (h : BlockAt bs 8 at (Ok g)) (t₄ : t ≡ bytes_eq g.value.now (format true)) where
  pub format_of_4 : {a : Got Bool} → t ≡ true → a.value ≡ true → a.next ≡ g.next → ReadAt bs load_format at (Ok a)
  format_of_4 e v n = reads_then _ h (λ s p. record { ends = rw (p, told g.value.now (format true) t₄, e) (rw n refl, sym v) })

  module _ {u : Bool} (e : t ≡ false) (t₈ : u ≡ bytes_eq g.value.now (format false)) where
    pub format_of_8 : {a : Got Bool} → u ≡ true → a.value ≡ false → a.next ≡ g.next → ReadAt bs load_format at (Ok a)
    format_of_8 f v n = reads_then _ h (λ s p. record { ends = rw (p, told g.value.now (format true) t₄, e, told g.value.now (format false) t₈, f) (rw n refl, sym v) })

    pub format_other : u ≡ false → ReadAt bs load_format at (Err BadFormat)
    format_other f = reads_then _ h (λ s p. record { ends = rw (p, told g.value.now (format true) t₄, e, told g.value.now (format false) t₈, f) refl })

-- ---- measure

-- what is counted where there is no space
counted : (f : Function) (c : LoadedChunk) (u v : List ℕ) → Does (function_piece f) (unused [] []) (used c u v) → (c.words ≡ min (length (words_of f)) far) × (c.text ≡ min (length (text_of f)) far)
counted f c u v d =
    let a = d.does 0 (omega arith) (omega arith) in
    (omega (arith, a.many, (a.words.puts (omega arith) (omega arith)).0), omega (arith, (a.text.puts (omega arith) (omega arith)).0))

-- what a run says of the chunk that is read
abbrev Ran : (bs ws ts ws' ts' : List ℕ) → Read Chunk → Result LoadedChunk Refusal → Type 0
Ran bs ws ts ws' ts' x r = Ends x (λ y rest c. (rest ≡ drop c.next bs) × ((y.size4 ≡ c.size_4) × Does (function_piece y.root) (unused ws ts) (used c ws' ts'))) r

module _ (bs u v : List ℕ) where
  refused_by_law : (e : Refusal) (x : Read Chunk) → Ran bs [] [] u v x (Err e) → refused_by (number e) ≡ measured_by bs x
  refused_by_law e (got x rest) t = absurd t
  refused_by_law e (refused k) t = rw t

  measured_by_law : (c : LoadedChunk) (x : Read Chunk) → Ran bs [] [] u v x (Ok c) → {w n m read : ℕ} → w ≡ width_of c.size_4 → n ≡ min c.words (most + 1) → m ≡ min c.text (most + 1) → read ≡ min c.next (length bs)
      → record { refusal = 0; width = w; words = n; text = m; read = read } ≡ measured_by bs x
  measured_by_law c (got x rest) t {n = n} {m = m} {read = read} ew en em er =
      let k = counted x.root c u v t.1.1 in
      let nw : n ≡ min (length (words_of x.root)) (most + 1) = omega (arith, k) in
      let nt : m ≡ min (length (text_of x.root)) (most + 1) = omega (arith, k) in
      let nr : read ≡ length bs - (length bs - c.next) = omega arith in
      rw (ew, nw, nt, nr, t.0, t.1.0, length-drop)
  measured_by_law c (refused k) t ew en em er = absurd t

-- a name that is refused
pub name_refused : (bs name : List ℕ) (x : Refusal) → number x ≡ name_refusal name → undumped_result (Err x) ≡ measured bs name
unfolding measured
name_refused bs name x e = by_name name refused_by _ (refusal_above x) e

module _ {bs : List ℕ} (name : List ℕ) {u v : List ℕ} (o : 0 ≡ name_refusal name) where
  pub measures_refused : (x : Refusal) → LoadsChunk bs [] [] (Err x) u v → undumped_result (Err x) ≡ measured bs name
  unfolding measured
  measures_refused x h = rw (name_good name o) (refused_by_law bs u v x (load_chunk bs) h.ends)

  pub measure_whole : {c : LoadedChunk} {w n m read : ℕ} → LoadsChunk bs [] [] (Ok c) u v → w ≡ width_of c.size_4 → n ≡ min c.words (most + 1) → m ≡ min c.text (most + 1) → read ≡ min c.next (length bs)
      → record { refusal = 0; width = w; words = n; text = m; read = read } ≡ measured bs name
  unfolding measured
  measure_whole h w n m r = rw (name_good name o) (measured_by_law bs u v _ (load_chunk bs) h.ends w n m r)

-- ---- store

-- a part as long as what is written in it holds just that
written : (w l lent : List ℕ) (n : ℕ) → n ≡ length w → n ≤ length lent → l ≡ sets (take n lent) 0 w → l ++ drop n lent ≡ over w lent
written w l lent n e h f =
    let g : length (take n lent) ≡ n = length-take-le n lent h in
    let a : sets (take n lent) 0 w ≡ w = sets-eq w (take n lent) 0 (omega arith) ∙ rw (drop_of_length-le (take n lent) {i = 0 + length w} (omega arith)) (append-nil w) in
    rw (f ∙ a, e)

-- what the run over the space left, as long as it was measured
module _ (bs ws ts : List ℕ) (r : Result LoadedChunk Refusal) (ws' ts' : List ℕ) (n k : ℕ) (hn : n ≤ min (length ws) most) (hk : k ≤ min (length ts) most) where
  stored_as : (ok : Bool) (x : Read Chunk) (r : Result LoadedChunk Refusal) → Ran bs (take n ws) (take k ts) ws' ts' x r
      → (measured_as bs ok x).refusal ≡ 0 → n ≡ (measured_as bs ok x).words → k ≡ (measured_as bs ok x).text
      → undump_left (undumped_as bs ws ts ok x).answer (ws' ++ drop n ws) (ts' ++ drop k ts) ≡ undumped_as bs ws ts ok x
  stored_as true (got x rest) (Ok c) t z en ek =
      let nw : n ≡ length (words_of x.root) = omega arith in
      let nt : k ≡ length (text_of x.root) = omega arith in
      let lt : length (take k ts) ≡ k = length-take-le k ts (omega arith) in
      let lw : length (take n ws) ≡ n = length-take-le n ws (omega arith) in
      let a = t.1.1.does 0 (omega arith) (omega arith) in
      let w : ws' ≡ sets (take n ws) 0 (words_of x.root) = (a.words.puts (omega arith) (omega arith)).1 ∙ rw (a.exact (omega arith)) in
      let v : ts' ≡ sets (take k ts) 0 (text_of x.root) = (a.text.puts (omega arith) (omega arith)).1 in
      rw (
        le-leb (length (words_of x.root)) (min (length ws) most) (omega arith),
        le-leb (length (text_of x.root)) (min (length ts) most) (omega arith),
        written (words_of x.root) ws' ws n nw (omega arith) w,
        written (text_of x.root) ts' ts k nt (omega arith) v,
      )
  stored_as true (got x rest) (Err e) t z en ek = absurd t
  stored_as true (refused m) (Ok c) t z en ek = absurd t
  stored_as true (refused m) (Err e) t z en ek = absurd (omega (arith, refusal_above e))
  stored_as false x r t z en ek = absurd (omega arith)

  left : (name : List ℕ) → LoadsChunk bs (take n ws) (take k ts) r ws' ts' → (measured bs name).refusal ≡ 0 → n ≡ (measured bs name).words → k ≡ (measured bs name).text
      → undump_left (undumped bs name ws ts).answer (ws' ++ drop n ws) (ts' ++ drop k ts) ≡ undumped bs name ws ts
  unfolding measured undumped
  left name d z en ek = stored_as (name_ok name) (load_chunk bs) r d.ends z en ek

pub refused_as : (bs name ws ts : List ℕ) (needs : Needs) (x : Refusal) → undumped_result (Err x) ≡ measured bs name
    → undump_left (undumped_result (Err x)) ws ts ≡ stored bs name needs.words needs.text needs.read ws ts
refused_as bs name ws ts needs x e =
    let some : (measured bs name).refusal ≡ 0 → ⊥ = λ z. let j : number x ≡ (measured bs name).refusal = ap (λ (u : Undumped). u.refusal) e in omega (arith, refusal_above x) in
    rw (store_refused bs name ws ts needs.words needs.text needs.read some, e) (ap (λ (a : Undumped). undump_left a ws ts) (refused_whole bs name some))

-- the returns of store, which measures and is handed what is needed
module _ (bs name ws ts : List ℕ) {m : MeasuredChunk} (e : undumped_result (Ok m) ≡ measured bs name) (needs : Needs) where
  none : (measured bs name).refusal ≡ 0
  none = sym (ap (λ (u : Undumped). u.refusal) e)

  pub refused_other : true ≡ not (as_measured (undumped_result (Ok m)) needs.words needs.text needs.read) → undump_left (refused_by 15) ws ts ≡ stored bs name needs.words needs.text needs.read ws ts
  refused_other h = sym (store_other bs name ws ts needs.words needs.text needs.read none (rw (← e) (not-true _ (sym h))))

  module _ (h : false ≡ not (as_measured (undumped_result (Ok m)) needs.words needs.text needs.read)) where
    as_measured_law : stored bs name needs.words needs.text needs.read ws ts ≡ undumped bs name ws ts
    as_measured_law = store_as bs name ws ts needs.words needs.text needs.read (rw (← e) (not-false _ (sym h)))

    pub refused_words : min (length ws) most < m.needs.words → undump_left (refused_by 8) ws ts ≡ stored bs name needs.words needs.text needs.read ws ts
    refused_words i = sym (as_measured_law ∙ few_words bs name ws ts none (rw (← e) i))

    module _ (i : m.needs.words ≤ min (length ws) most) where
      pub refused_text : min (length ts) most < m.needs.text → undump_left (refused_by 9) ws ts ≡ stored bs name needs.words needs.text needs.read ws ts
      refused_text j = sym (as_measured_law ∙ few_text bs name ws ts none (rw (← e) i) (rw (← e) j))

      pub store_whole : {r : Result LoadedChunk Refusal} {ws' ts' : List ℕ} → m.needs.text ≤ min (length ts) most → LoadsChunk bs (take m.needs.words ws) (take m.needs.text ts) r ws' ts'
          → undump_left (undumped_result (Ok m)) (ws' ++ drop m.needs.words ws) (ts' ++ drop m.needs.text ts) ≡ stored bs name needs.words needs.text needs.read ws ts
      store_whole {r} {ws'} {ts'} j d =
          let q : undumped_result (Ok m) ≡ (undumped bs name ws ts).answer = e ∙ sym (enough bs name ws ts none (rw (← e) i) (rw (← e) j)) in
          ap (λ (a : Undumped). undump_left a (ws' ++ drop m.needs.words ws) (ts' ++ drop m.needs.text ts)) q ∙ left bs ws ts r ws' ts' m.needs.words m.needs.text i j name d none (ap (λ (u : Undumped). u.words) e) (ap (λ (u : Undumped). u.text) e) ∙ sym as_measured_law
