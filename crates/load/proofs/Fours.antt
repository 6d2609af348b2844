-- Integers in a row: what reading them gives, and what storing them leaves.
use borrow.Rule.Slice.PartMut.{put_mid}
use Rattle.lent.proofs.Prelude.{ℕ, zero, suc, ◌+◌, ◌-◌, ◌*◌, ◌/◌, ◌≤◌, ◌<◌, min, ◌≡◌, refl, ap, List, [], ◌∷◌, ◌++◌, ◌∙◌, append-nil, zero-add, arith, dec_le, get_or, get_or-take, get_or-drop, length, take, drop, drop-drop, length-drop, length-take-le, drop_of_length-le, set, sets, sets-eq}
use Rattle.lent.specs.Memory.{far, Puts}
use Rattle.lent.proofs.Writes.{sets_append, sets_part, put_part, put_lost}
use Rattle.std.specs.Borrow.{Bor}
use Rattle.std.specs.Prelude.{Result, Ok, Err}
use Rattle.std.specs.Result.{IsErrAnd}
use Rattle.load_state.specs.declared.cursor.Got.{Got}
use Rattle.format.specs.Refusal.{number}
use Rattle.format.specs.declared.Refusal.{Refusal}
use Rattle.std.specs.Int.{from_le_bytes, w32}
use Rattle.std.specs.Simd.{first_chunks}
use Rattle.format.specs.Read.{got, refused, load_int, many, load_count, load_list}
use Rattle.format.specs.Store.{plain, word, ints}
use Rattle.load_state.specs.ReadAt.{four_at, BlockAt, BlockFrom}
use Rattle.load.specs.declared.Loader.{Loader}
use Rattle.load.specs.Loads.{fours, space, Does, Moves, Stores, LoadsBy, Loads}
use Rattle.load_state.proofs.Bytes.{int_got, number_none, block_at, block_short}
use Rattle.load.proofs.Steps.{same_self, same_then, loads_then, refused_with}
use Rattle.load.proofs.Stores.{join}

pub fours_length : (bs : List ℕ) (at n : ℕ) → length (fours bs at n) ≡ n
unfolding fours
fours_length bs at zero = refl
fours_length bs at (suc n) = ap suc (fours_length bs (at + 4) n)

-- one more, at the end
fours_more : (bs : List ℕ) (at n : ℕ) → fours bs at (n + 1) ≡ fours bs at n ++ four_at bs (at + 4 * n) ∷ []
unfolding fours
fours_more bs at zero = let e : at + 4 * 0 ≡ at = omega arith in rw e
fours_more bs at (suc n) =
    let e : at + 4 * suc n ≡ at + 4 + 4 * n = omega arith in
    let s : suc n + 1 ≡ suc (n + 1) = omega arith in
    rw (s, e, fours_more bs (at + 4) n)

-- four bytes of a part that holds them
four_part : (bs : List ℕ) (at m k : ℕ) → k + 4 ≤ m → four_at (take m (drop at bs)) k ≡ four_at bs (at + k)
four_part bs at m k h =
    let e : (j : ℕ) → j < m → get_or (take m (drop at bs)) j 0 ≡ get_or bs (at + j) 0 = λ j g. get_or-take m (drop at bs) j 0 g ∙ get_or-drop at bs j 0 in
    let p : at + (k + 1) ≡ at + k + 1 = omega arith in
    let q : at + (k + 2) ≡ at + k + 2 = omega arith in
    let r : at + (k + 3) ≡ at + k + 3 = omega arith in
    rw (e k (omega arith), e (k + 1) (omega arith), e (k + 2) (omega arith), e (k + 3) (omega arith), p, q, r)

fours_take : (bs : List ℕ) (at n k : ℕ) → k ≤ n → take k (fours bs at n) ≡ fours bs at k
unfolding fours
fours_take bs at n zero h = refl
fours_take bs at zero (suc k) h = absurd (omega arith)
fours_take bs at (suc n) (suc k) h = ap (λ (l : List ℕ). four_at bs at ∷ l) (fours_take bs (at + 4) n k (omega arith))

-- those of a part that holds them
fours_part : (bs : List ℕ) (at m k n : ℕ) → k + 4 * n ≤ m → fours (take m (drop at bs)) k n ≡ fours bs (at + k) n
unfolding fours
fours_part bs at m k zero h = refl
fours_part bs at m k (suc n) h =
    let e : at + (k + 4) ≡ at + k + 4 = omega arith in
    rw (four_part bs at m k (omega arith), fours_part bs at m (k + 4) n (omega arith), e)

-- ---- storing

-- chunk i of four bytes
chunk_is : (i n : ℕ) (bs : List ℕ) → i < n → get_or (first_chunks 4 n bs) i [] ≡ take 4 (drop (4 * i) bs)
chunk_is i zero bs h = absurd (omega arith)
chunk_is zero (suc n) bs h = refl
chunk_is (suc i) (suc n) bs h =
    let e : 4 + 4 * i ≡ 4 * suc i = omega arith in
    chunk_is i n (drop 4 bs) (omega arith) ∙ rw (drop-drop (4 * i) 4 bs, e)

-- four bytes, as std reads them
le_four : (b : List ℕ) → from_le_bytes w32 b ≡ four_at b 0
le_four b = omega arith

-- one more, in a loop
pub fill_more : (bs ws : List ℕ) {l : List ℕ} {cs : List (List ℕ)} (i n : ℕ) {v : ℕ} → i < n → cs ≡ first_chunks 4 n bs → v ≡ from_le_bytes w32 (get_or cs i []) → l ≡ sets ws 0 (fours bs 0 i) → set l i v ≡ sets ws 0 (fours bs 0 (i + 1))
fill_more bs ws i n {v} h e f g =
    let p : 4 * i + 0 ≡ 4 * i = omega arith in
    let u : v ≡ four_at bs (4 * i) = f ∙ rw (e, chunk_is i n bs h) (le_four (take 4 (drop (4 * i) bs)) ∙ rw (four_part bs (4 * i) 4 0 (omega arith), p)) in
    let m : fours bs 0 (i + 1) ≡ fours bs 0 i ++ four_at bs (4 * i) ∷ [] = rw (zero-add (4 * i)) at (fours_more bs 0 i) in
    rw (g, u, m) (rw (fours_length bs 0 i, zero-add i) at (sets_append (fours bs 0 i) ws (four_at bs (4 * i) ∷ []) 0))

-- all words are integers
pub filled : (bs ws : List ℕ) {l : List ℕ} (i : ℕ) → i ≡ length ws → l ≡ sets ws 0 (fours bs 0 i) → l ≡ fours bs 0 (length ws)
filled bs ws i h e =
    let n : 0 + length (fours bs 0 i) ≡ length ws = omega (arith, fours_length bs 0 i) in
    rw (e, sets-eq (fours bs 0 i) ws 0 (omega arith), drop_of_length-le ws {i = 0 + length (fours bs 0 i)} (omega arith), append-nil, h)

-- as many as there is room for, in a part of the words
module _ (bs : List ℕ) {ws ws' : List ℕ} {at at' : ℕ} (p : at' ≡ min (at + length bs / 4) far) where
  pub ints_stored : {part : List ℕ} (k : ℕ) → ws' ≡ put_mid at (at + k - at) ws part → part ≡ fours (take (4 * k) bs) 0 (length (take (at + k - at) (drop at ws))) → k ≡ min (length bs / 4) (length ws - at) → at < length ws → Puts (fours bs 0 (length bs / 4)) at ws at' ws'
  ints_stored {part} k g f r h =
      let j : ℕ = at + k - at in
      let e : j ≡ k = omega arith in
      let l : length (fours bs 0 (length bs / 4)) ≡ length bs / 4 = fours_length bs 0 (length bs / 4) in
      let m : length (take j (drop at ws)) ≡ k = length-take-le j (drop at ws) (omega (arith, length-drop at ws)) ∙ e in
      let q : part ≡ take k (fours bs 0 (length bs / 4)) = f ∙ rw (m, fours_part bs 0 (4 * k) 0 k (omega arith), fours_take bs 0 (length bs / 4) k (omega arith)) in
      let n : length (take k (fours bs 0 (length bs / 4))) ≡ k = length-take-le k (fours bs 0 (length bs / 4)) (omega arith) in
      put_part k (rw l p) (rw l r) (g ∙ sets_part ws (take k (fours bs 0 (length bs / 4))) at j q (omega arith) (omega arith))

  pub ints_lost : length ws ≤ at → ws' ≡ ws → Puts (fours bs 0 (length bs / 4)) at ws at' ws'
  ints_lost h e = put_lost (rw (fours_length bs 0 (length bs / 4)) p) h e

-- ---- reading

pub many_got : (bs : List ℕ) (at n : ℕ) → 4 * n ≤ length bs - at → many load_int n (drop at bs) ≡ got (fours bs at n) (drop (at + 4 * n) bs)
unfolding many fours
many_got bs at zero h = let e : at + 4 * 0 ≡ at = omega arith in rw e
many_got bs at (suc n) h = let e : at + 4 * suc n ≡ at + 4 + 4 * n = omega arith in rw (int_got bs at (omega arith), many_got bs (at + 4) n (omega arith), e)

pub many_none : (bs : List ℕ) (at n : ℕ) → length bs - at < 4 * n → many load_int n (drop at bs) ≡ refused 2
unfolding many
many_none bs at zero h = absurd (omega arith)
many_none bs at (suc n) h = elim (dec_le 4 (length bs - at)) [
  | yes k ↦ rw (int_got bs at k, many_none bs (at + 4) n (omega arith))
  | no k ↦ rw (number_none 4 bs at (omega arith))
]

-- by a block of as many bytes
ints_read : {bs : List ℕ} {at : ℕ} (n : ℕ) {g : Got (Bor (List ℕ))} → BlockAt bs (4 * n) at (Ok g) → (many load_int n (drop at bs) ≡ got (fours g.value.now 0 n) (drop g.next bs)) × (length g.value.now / 4 ≡ n)
ints_read {bs} {at} n {g} h = elim (dec_le (4 * n) (length bs - at)) [
  | yes k ↦
      let t : (drop (at + 4 * n) bs ≡ drop g.next bs) × (take (4 * n) (drop at bs) ≡ g.value.now) = rw (block_at (4 * n) bs at k) at h.ends in
      let l : length (take (4 * n) (drop at bs)) ≡ 4 * n = length-take-le (4 * n) (drop at bs) (omega (arith, length-drop at bs)) in
      let z : at + 0 ≡ at = omega arith in
      (rw (← t.1, many_got bs at n k, fours_part bs at (4 * n) 0 n (omega arith), z, t.0), rw (← t.1, l) (omega arith))
  | no k ↦ absurd (rw (block_short (4 * n) bs at (omega arith)) at h.ends)
]

ints_short : {bs : List ℕ} {at : ℕ} (n : ℕ) {x : Refusal} → BlockAt bs (4 * n) at (Err x) → many load_int n (drop at bs) ≡ refused (number x)
ints_short {bs} {at} n {x} h = elim (dec_le (4 * n) (length bs - at)) [
  | yes k ↦ absurd (rw (block_at (4 * n) bs at k) at h.ends)
  | no k ↦
      let t : number x ≡ 2 = rw (block_short (4 * n) bs at (omega arith)) at h.ends in
      rw (many_none bs at n (omega arith), t)
]

-- ---- a list of integers, after its count

module _ {σ m : Loader} {n : ℕ} (h : LoadsBy load_count (λ a b. (a ≡ b) × Does (word a) (space σ) (space m)) σ m (Ok n)) where
  pub ints_refused : {x : Refusal} {r : Result (Unit {0}) Refusal} → BlockFrom (4 * n) m.reader.state (Err x) → IsErrAnd r (λ y. y ≡ x) → Loads (load_list load_int) ints σ m r
  ints_refused k i = refused_with i (loads_then (many load_int) h (λ a e. record { same = same_self; reads = record { ends = rw (e.0, ints_short n k) refl } }))

  pub ints_loaded : {g : Got (Bor (List ℕ))} {v : Bor (List ℕ)} {a σ' : Loader} → BlockFrom (4 * n) m.reader.state (Ok g) → v ≡ g.value → Moves g.next m a → Stores (plain (fours v.now 0 (length v.now / 4))) a σ'
      → Loads (load_list load_int) ints σ σ' (Ok tt)
  ints_loaded {g} k e f s =
      let t = ints_read n k in
      loads_then (many load_int) h
      (λ a d. record { same = same_then f.same s.same; reads = record { ends = rw (d.0, t.0) (rw (s.pos, f.pos) refl, rw (fours_length g.value.now 0 n) (join (rw d.0 at d.1) (rw (f.space, e, t.1) at s.does))) } })
