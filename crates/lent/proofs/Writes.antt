-- Writing to lent memory: one write, and writes one after the other.
use borrow.Rule.Slice.PartMut.{put_mid}
use Rattle.std.specs.Prelude.{Some}
use Rattle.lent.proofs.Prelude.{ℕ, suc, ◌+◌, ◌-◌, ◌≤◌, ◌<◌, min, ◌≡◌, refl, sym, ap, ◌∙◌, List, [], ◌∷◌, ◌++◌, arith, dec_le, add-zero, zero-add, le-leb, length, take, drop, set, length-append, take-append-drop, sets, length-sets, set_out, sets-eq, take_all, take-suc, length-take-le, drop-drop, drop_of_length-le, append_assoc, append-nil, add-one, get_or}
use Rattle.lent.specs.Memory.{far, Puts}
use Rattle.lent.specs.Whole.{PutsWhole}

-- ---- items stored one after the other

-- past the end nothing is
pub sets_past : {A : Type 0} (items l : List A) (i : ℕ) → length l ≤ i → sets l i items ≡ l
sets_past [] l i h = refl
sets_past (v ∷ items) l i h = rw (set_out l i v h) (sets_past items l (suc i) (omega arith))

pub sets_append : {A : Type 0} (a l b : List A) (i : ℕ) → sets (sets l i a) (i + length a) b ≡ sets l i (a ++ b)
sets_append [] l b i = rw add-zero
sets_append (v ∷ a) l b i =
    let e : i + suc (length a) ≡ suc i + length a = omega arith in
    rw e (sets_append a (set l i v) b (suc i))

-- a part of a slice is written over
pub sets_part : {A : Type 0} {part : List A} (l items : List A) (i k : ℕ) → part ≡ items → k ≡ length items → i + k ≤ length l → put_mid i k l part ≡ sets l i items
sets_part l items i k p e h = rw (p, sets-eq items l i (omega arith), append_assoc, e, drop-drop)

-- ---- items copied one by one

pub each_none : {A : Type 0} (l s : List A) → l ≡ sets l 0 (take 0 s)
each_none l s = refl

pub each_more : {A : Type 0} {m : List A} (l s : List A) (i : ℕ) (d : A) → i < length s → m ≡ sets l 0 (take i s) → set m i (get_or s i d) ≡ sets l 0 (take (i + 1) s)
each_more l s i d h e =
    let n : 0 + length (take i s) ≡ i = zero-add _ ∙ length-take-le i s (omega arith) in
    rw (e, add-one i, take-suc s i d h) (rw n at (sets_append (take i s) l (get_or s i d ∷ []) 0))

pub each_all : {A : Type 0} {m : List A} (l s : List A) (i : ℕ) → length s ≤ i → length s ≡ length l → m ≡ sets l 0 (take i s) → m ≡ s
each_all l s i h n e = e ∙ rw (take_all i s h) (sets-eq s l 0 (omega arith) ∙ rw (drop_of_length-le l {i = 0 + length s} (omega arith)) (append-nil s))

-- n items reach the end
sets_take : {A : Type 0} (l s : List A) (i n : ℕ) → n ≤ length s → length l ≤ i + n → sets l i (take n s) ≡ sets l i s
sets_take l s i n h k =
    let e : length (take n s) ≡ n = length-take-le n s h in
    let p : length (sets l i (take n s)) ≡ length l = length-sets l i (take n s) in
    sym (sets_past (drop n s) (sets l i (take n s)) (i + length (take n s)) (omega arith))
    ∙ sets_append (take n s) l (drop n s) i
    ∙ ap (sets l i) (take-append-drop n s)

-- at a place that stopped at the farthest
sets_far : {A : Type 0} (a b l : List A) (i : ℕ) → length l ≤ far → sets (sets l i a) (min (i + length a) far) b ≡ sets l i (a ++ b)
sets_far a b l i h = elim (dec_le (i + length a) far) [
  | yes k ↦ let e : min (i + length a) far ≡ i + length a = omega arith in rw e (sets_append a l b i)
  | no k ↦
      let n : length (sets l i a) ≡ length l = length-sets l i a in
      sets_past b (sets l i a) (min (i + length a) far) (omega arith)
      ∙ sym (sets_past b (sets l i a) (i + length a) (omega arith))
      ∙ sets_append a l b i
]

-- ---- one write

pub put_none : {A : Type 0} {at : ℕ} {out : List A} → Puts [] at out at out
put_none = record { puts = λ h k. (omega arith, refl) }

module _ {A : Type 0} {items : List A} {at at' : ℕ} {out out' : List A} where
  pub put_stored : at' ≡ min (at + length items) far → out' ≡ sets out at items → Puts items at out at' out'
  put_stored p q = record { puts = λ h k. (p, q) }

  -- all items are past the end
  pub put_lost : at' ≡ min (at + length items) far → length out ≤ at → out' ≡ out → Puts items at out at' out'
  put_lost p h q = put_stored p (q ∙ sym (sets_past items out at h))

  -- n items are stored, as many as there is room for
  pub put_part : (n : ℕ) → at' ≡ min (at + length items) far → n ≡ min (length items) (length out - at) → out' ≡ sets out at (take n items) → Puts items at out at' out'
  put_part n p h q = put_stored p (q ∙ elim (dec_le (length items) n) [
    | yes k ↦ rw (take_all n items k)
    | no k ↦ sets_take out items at n (omega arith) (omega arith)
  ])

  pub put_length : Puts items at out at' out' → at ≤ far → length out ≤ far → length out' ≡ length out
  put_length p h k = ap length (p.puts h k).1 ∙ length-sets out at items

  -- where the items fit, they stand there, and what is around them is as it was
  pub put_fits : Puts items at out at' out' → at + length items ≤ length out → length out ≤ far → (at' ≡ at + length items) × (out' ≡ take at out ++ items ++ drop (at + length items) out)
  put_fits p h k =
      let q = p.puts (omega arith) k in
      (omega arith, q.1 ∙ sets-eq items out at h)

-- bytes that fit are written whole
pub whole_fits : {bytes out out' : List ℕ} {n : ℕ} → length out < far → length bytes ≤ length out → Puts bytes 0 out n out' → PutsWhole bytes out (Some n) out'
whole_fits {bytes} {out} l h p =
    let q = put_fits p (omega arith) (omega arith) in
    let e = le-leb (length bytes) (length out) h in
    record { counts = rw (e, q.0, zero-add); leaves = rw (e, q.1, zero-add) }

-- ---- writes one after the other

pub put_then : {A : Type 0} {a b : List A} {at mid end : ℕ} {out out' out'' : List A} → Puts a at out mid out' → Puts b mid out' end out'' → Puts (a ++ b) at out end out''
put_then {A} {a} {b} {at} {mid} {end} {out} {out'} p q =
    record {
      puts = λ h k.
          let x = p.puts h k in
          let n : length out' ≡ length out = put_length p h k in
          let y = q.puts (omega arith) (omega arith) in
          let l : length (a ++ b) ≡ length a + length b = length-append a b in
          (omega arith, y.1 ∙ rw (x.0, x.1) (sets_far a b out at k));
    }
