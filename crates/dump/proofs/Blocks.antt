-- The bytes of integers, sizes and strings.
use Rattle.lent.proofs.Prelude.{ℕ, zero, suc, ◌+◌, ◌-◌, ◌*◌, ◌^◌, ◌/◌, ◌%◌, ◌≤◌, ◌<◌, min, ◌≡◌, refl, sym, ap, subst, ◌∙◌, List, [], ◌∷◌, ◌++◌, append_assoc, append-nil, Bool, true, false, arith, add-one, length, take, drop, get_or, set, sets, length-append, length-sets, take-suc, take_all, length-take-le, take-append-drop, sets-eq, drop_of_length-le, dec_lt}
use Rattle.std.proofs.Math.Nat.{div-div-eq-div-mul}
use Rattle.std.specs.Int.{to_le_bytes, bytes_low_first, byte_at}
use native.Mathlib.Numerals.{unary_clauses}
use mir.Syntax.{w32, w64}
use borrow.Rule.Slice.PartMut.{put_mid}
use Rattle.lent.specs.Memory.{far, Puts}
use Rattle.lent.proofs.Writes.{sets_part, sets_past, sets_append, put_stored, put_lost, put_then}
use Rattle.format.specs.Read.{width_of}
use Rattle.format.proofs.RoundTrip.{dumped_length}
use Rattle.format.specs.Write.{dump_number, dump_int, dump_size, dump_text, dump_list, each}

-- ---- one integer

pub int_length : (n : ℕ) → length (dump_int n) ≡ 4
unfolding dump_number
int_length n = refl

-- the bytes that std gives of a number, from byte i on
low_first : (i k n : ℕ) → bytes_low_first i k n ≡ dump_number k (n / 256 ^ i)
unfolding dump_number
low_first i zero n = refl
low_first i (suc k) n =
    let e : n / 256 ^ i / 256 ≡ n / 256 ^ suc i = simp unary_clauses (div-div-eq-div-mul n (256 ^ i) 256) in
    rw (e, low_first (suc i) k n) (ap (λ (b : ℕ). b ∷ dump_number k (n / 256 ^ suc i)) (byte i))
  where
    byte : (i : ℕ) → byte_at i n ≡ n / 256 ^ i % 256
    byte zero = omega arith
    byte (suc i) = refl

number_bytes : (k n : ℕ) → bytes_low_first 0 k n ≡ dump_number k n
number_bytes k n = let e : n / 256 ^ 0 ≡ n = omega arith in low_first 0 k n ∙ ap (dump_number k) e

-- the low four bytes of a number
low_four : (n : ℕ) → dump_int (n % 4294967296) ≡ dump_int n
unfolding dump_number
low_four n =
    let f : (n % 4294967296 % 256 ≡ n % 256) × (n % 4294967296 / 256 % 256 ≡ n / 256 % 256) × (n % 4294967296 / 256 / 256 % 256 ≡ n / 256 / 256 % 256) × (n % 4294967296 / 256 / 256 / 256 % 256 ≡ n / 256 / 256 / 256 % 256) = omega arith in
    rw (f.0, f.1, f.2, f.3)

module _ {at r : ℕ} {out out' : List ℕ} (n : ℕ) where
  pub int_put : Puts (to_le_bytes w32 n) at out r out' → Puts (dump_int n) at out r out'
  int_put p = rw (number_bytes 4 n) at p

  module _ {size4 : Bool} where
    pub size_short : size4 ≡ true → Puts (dump_int (n % 4294967296)) at out r out' → Puts (dump_size size4 n) at out r out'
    size_short e p = rw e (rw (low_four n) at p)

    pub size_long : size4 ≡ false → Puts (to_le_bytes w64 n) at out r out' → Puts (dump_size size4 n) at out r out'
    size_long e p = rw e (rw (number_bytes 8 n) at p)

pub width_within : (size4 : Bool) → (4 ≤ width_of size4) × (width_of size4 ≤ 8)
width_within true = omega arith
width_within false = omega arith

pub size_length : (size4 : Bool) (n : ℕ) → length (dump_size size4 n) ≡ width_of size4
size_length size4 n = dumped_length (width_of size4) n

pub string_length : (size4 : Bool) (s : List ℕ) → length (dump_text size4 s) ≡ width_of size4 + length s + 1
string_length size4 s = simp length-append (omega (arith, size_length size4 (length s + 1)))

-- bytes, others and a zero, one behind the other
pub ended_put : {at a b r : ℕ} {out out₁ out₂ out' : List ℕ} (x s : List ℕ) → Puts x at out a out₁ → Puts s a out₁ b out₂ → Puts (0 ∷ []) b out₂ r out' → Puts (x ++ s ++ (0 ∷ [])) at out r out'
ended_put x s p q t = put_then (put_then p q) t

-- the same, only counted
pub ended_lost : {r : ℕ} (x s : List ℕ) (at : ℕ) → r ≡ min (at + (length x + length s + 1)) far → Puts (x ++ s ++ (0 ∷ [])) at [] r []
ended_lost x s at e = put_lost (omega (arith, length-append (x ++ s) (0 ∷ []), length-append x s)) (omega arith) refl

-- the same where all fit
pub ended_fits : {start end : ℕ} {m₁ m₂ p : List ℕ} (out x s : List ℕ) (at k n : ℕ) → start ≡ at + length x → end ≡ start + length s → at + length x + length s < length out
    → k ≡ length x → m₁ ≡ put_mid at k out x → p ≡ s → n ≡ length s → m₂ ≡ put_mid start n m₁ p → length out ≤ far → Puts (x ++ s ++ (0 ∷ [])) at out (end + 1) (set m₂ end 0)
ended_fits {start} {end} {m₁} {m₂} out x s at k n a b room kx e ep ns f small =
    let u : m₁ ≡ sets out at x = e ∙ sets_part out x at k refl kx (omega arith) in
    let l : length m₁ ≡ length out = ap length u ∙ length-sets out at x in
    let v : m₂ ≡ sets m₁ start s = f ∙ sets_part m₁ s start n ep ns (omega arith) in
    let w : m₂ ≡ sets out at (x ++ s) = v ∙ rw (u, a) (sets_append x out s at) in
    let z : end ≡ at + length (x ++ s) = omega (arith, length-append x s) in
    put_stored (omega (arith, length-append (x ++ s) (0 ∷ []), length-append x s)) (rw (w, z) (sets_append (x ++ s) out (0 ∷ []) at))

module _ {at a b r : ℕ} {out out₁ out₂ out' : List ℕ} where
  -- a string: its size, its bytes, a zero, one behind the other
  pub string_put : (size4 : Bool) (s : List ℕ) → Puts (dump_size size4 (length s + 1)) at out a out₁ → Puts s a out₁ b out₂ → Puts (0 ∷ []) b out₂ r out' → Puts (dump_text size4 s) at out r out'
  string_put size4 s p q t = ended_put (dump_size size4 (length s + 1)) s p q t

module _ {at r : ℕ} {out out' : List ℕ} (s : List ℕ) {size4 : Bool} where
  -- the same behind the bytes of its size
  pub string_short : size4 ≡ true → Puts (to_le_bytes w32 ((length s + 1) % 4294967296) ++ s ++ (0 ∷ [])) at out r out' → Puts (dump_text size4 s) at out r out'
  string_short e p = let n = length s + 1 in rw e (subst (λ (b : List ℕ). Puts (b ++ s ++ (0 ∷ [])) at out r out') (number_bytes 4 (n % 4294967296) ∙ low_four n) p)

  pub string_long : size4 ≡ false → Puts (to_le_bytes w64 (length s + 1) ++ s ++ (0 ∷ [])) at out r out' → Puts (dump_text size4 s) at out r out'
  string_long e p = rw e (subst (λ (b : List ℕ). Puts (b ++ s ++ (0 ∷ [])) at out r out') (number_bytes 8 (length s + 1)) p)

-- a number of four bytes and w more: the low four are an integer
pub number_int : (w n : ℕ) → dump_number (suc (suc (suc (suc w)))) n ≡ dump_int (n % 4294967296) ++ dump_number w (n / 4294967296)
unfolding dump_number
number_int w n =
    let low = n % 4294967296 in
    let e : (n % 256 ≡ low % 256) × (n / 256 % 256 ≡ low / 256 % 256) × (n / 256 / 256 % 256 ≡ low / 256 / 256 % 256) × (n / 256 / 256 / 256 % 256 ≡ low / 256 / 256 / 256 % 256) = omega arith in
    let f : n / 256 / 256 / 256 / 256 ≡ n / 4294967296 = omega arith in
    rw (e.0, e.1, e.2, e.3, f)

-- a number behind its tag: its low half, then its high half
number_halves : (low high : ℕ) → low < 4294967296 → dump_number 8 (low + 4294967296 * high) ≡ dump_int low ++ dump_int high
number_halves low high l =
    let n = low + 4294967296 * high in
    let a : n % 4294967296 ≡ low = omega arith in
    let b : n / 4294967296 ≡ high = omega arith in
    number_int 4 n ∙ rw (a, b)

-- a byte and others, one behind the other
pub tagged_put : {at a r : ℕ} {out out₁ out' : List ℕ} (tag : ℕ) (x : List ℕ) → Puts (tag ∷ []) at out a out₁ → Puts x a out₁ r out' → Puts (tag ∷ x) at out r out'
tagged_put tag x p q = put_then p q

-- the same where all fit
pub tagged_fits : {start : ℕ} {m p : List ℕ} (out x : List ℕ) (at tag k n : ℕ) → start ≡ at + 1 → at + length x < length out → p ≡ x → k ≡ length x → n ≡ start + length x → m ≡ put_mid start k (set out at tag) p → length out ≤ far → Puts (tag ∷ x) at out n m
tagged_fits {start} out x at tag k n s room e kx nx f small =
    let l : length (set out at tag) ≡ length out = length-sets out at (tag ∷ []) in
    let v = f ∙ sets_part (set out at tag) x start k e kx (omega arith) in
    put_stored (omega arith) (v ∙ rw s (sets_append (tag ∷ []) out x at))

-- two integers as a number of eight bytes, the first in its low half
pub two_put : {at r : ℕ} {out out' : List ℕ} (low high : ℕ) → low < 4294967296 → Puts (to_le_bytes w64 (low + 4294967296 * high)) at out r out' → Puts (dump_int low ++ dump_int high) at out r out'
two_put low high l p = rw (number_bytes 8 (low + 4294967296 * high) ∙ number_halves low high l) at p

-- a number behind its tag, at once, and one behind the other
pub num_tagged : {at r : ℕ} {out out' : List ℕ} (low high : ℕ) → low < 4294967296 → Puts (3 ∷ to_le_bytes w64 (low + 4294967296 * high)) at out r out' → Puts (3 ∷ dump_int low ++ dump_int high) at out r out'
num_tagged {at} {r} {out} {out'} low high l p = subst (λ (b : List ℕ). Puts (3 ∷ b) at out r out') (number_bytes 8 (low + 4294967296 * high) ∙ number_halves low high l) p

pub num_put : {at a r : ℕ} {out out₁ out' : List ℕ} (low high : ℕ) → low < 4294967296 → Puts (3 ∷ []) at out a out₁ → Puts (to_le_bytes w64 (low + 4294967296 * high)) a out₁ r out' → Puts (3 ∷ dump_int low ++ dump_int high) at out r out'
num_put low high l p q = num_tagged low high l (tagged_put 3 (to_le_bytes w64 (low + 4294967296 * high)) p q)

-- a string behind its tag
pub str_put : {at a r : ℕ} {out out₁ out' : List ℕ} (size4 : Bool) (s : List ℕ) → Puts (4 ∷ []) at out a out₁ → Puts (dump_text size4 s) a out₁ r out' → Puts (4 ∷ dump_text size4 s) at out r out'
str_put size4 s p q = put_then p q

-- ---- a list

each_append : (l m : List ℕ) → each dump_int (l ++ m) ≡ each dump_int l ++ each dump_int m
unfolding each
each_append [] m = refl
each_append (a ∷ l) m = rw (each_append l m) (sym (append_assoc (dump_int a) (each dump_int l) (each dump_int m)))

pub ints_length : (l : List ℕ) → length (each dump_int l) ≡ 4 * length l
unfolding each
ints_length [] = refl
ints_length (n ∷ l) = length-append (dump_int n) (each dump_int l) ∙ omega (arith, int_length n, ints_length l)

pub code_length : (l : List ℕ) → length (dump_list dump_int l) ≡ 4 + 4 * length l
code_length l = length-append (dump_int (length l)) (each dump_int l) ∙ rw (int_length (length l), ints_length l)

pub ints_start : (to l : List ℕ) → to ≡ sets to 0 (each dump_int (take 0 l))
unfolding each
ints_start to l = refl

-- the integer behind i of them
ints_more : {m m' : List ℕ} (out l : List ℕ) (at i : ℕ) → i < length l → m ≡ sets out at (each dump_int (take i l)) → m' ≡ sets m (at + 4 * i) (dump_int (get_or l i 0)) → m' ≡ sets out at (each dump_int (take (i + 1) l))
unfolding each
ints_more out l at i h e f =
    let n : length (each dump_int (take i l)) ≡ 4 * i = ints_length (take i l) ∙ rw (length-take-le i l (omega arith)) in
    let t : each dump_int (take (i + 1) l) ≡ each dump_int (take i l) ++ dump_int (get_or l i 0) = rw (add-one i, take-suc l i 0 h) (each_append (take i l) (get_or l i 0 ∷ []) ∙ ap (λ (x : List ℕ). each dump_int (take i l) ++ x) (append-nil (dump_int (get_or l i 0)))) in
    f ∙ rw (e, t) (rw n at (sets_append (each dump_int (take i l)) out (dump_int (get_or l i 0)) at))

pub ints_turn : {m m' : List ℕ} {j : ℕ} (to l x : List ℕ) (i k : ℕ) → i < length l → j ≡ 4 * i → k ≡ 4 → j + 4 ≤ length m → m ≡ sets to 0 (each dump_int (take i l)) → x ≡ to_le_bytes w32 (get_or l i 0) → m' ≡ put_mid j k m x → m' ≡ sets to 0 (each dump_int (take (i + 1) l))
ints_turn {m} {j = j} to l x i k h w f room e g q =
    let v = get_or l i 0 in
    let z : j ≡ 0 + 4 * i = omega arith in
    ints_more to l 0 i h e (rw (← z) (q ∙ sets_part m (dump_int v) j k (g ∙ number_bytes 4 v) (f ∙ sym (int_length v)) (omega arith)))

-- all are stored, over all of the bytes
pub ints_stored : {m : List ℕ} {i : ℕ} (to l : List ℕ) → m ≡ sets to 0 (each dump_int (take i l)) → length l ≤ i → length to ≡ 4 * length l → m ≡ each dump_int l
ints_stored {i = i} to l e h n = e ∙ rw (take_all i l h) (sets-eq (each dump_int l) to 0 (omega (arith, ints_length l)) ∙ rw (drop_of_length-le to {i = 0 + length (each dump_int l)} (omega (arith, ints_length l))) (append-nil (each dump_int l)))

-- the place at which integers are written is the end of the space, where theirs is past it
ints_place : (out b : List ℕ) (at : ℕ) → sets out (min at (length out)) b ≡ sets out at b
ints_place out b at = elim (dec_lt at (length out)) [
  | yes h ↦ let e : min at (length out) ≡ at = omega arith in rw e
  | no h ↦ sets_past b out (min at (length out)) (omega arith) ∙ sym (sets_past b out at (omega arith))
]

-- a part of the space, over which as many are stored as fit
pub ints_part : {m p : List ℕ} {start fit k : ℕ} (out l : List ℕ) → start ≤ length out → fit ≡ min (length l) ((length out - start) / 4) → p ≡ each dump_int (take fit l) → k ≡ 4 * fit → m ≡ put_mid start k out p → m ≡ sets out start (each dump_int (take fit l))
ints_part {start = start} {fit} {k} out l h f e z q =
    let n : length (each dump_int (take fit l)) ≡ 4 * fit = ints_length (take fit l) ∙ rw (length-take-le fit l (omega arith)) in
    q ∙ sets_part out (each dump_int (take fit l)) start k e (z ∙ sym n) (omega arith)

module _ {out m : List ℕ} {at start fit r : ℕ} (l : List ℕ) (a : start ≡ min at (length out)) (e : r ≡ min (at + 4 * length l) far) (f : fit ≡ min (length l) ((length out - start) / 4)) (q : m ≡ sets out start (each dump_int (take fit l))) where
  -- all fit
  pub ints_put : length l ≤ fit → Puts (each dump_int l) at out r m
  ints_put h = record { puts = λ i j. (omega (arith, ints_length l), q ∙ rw (take_all fit l h, a) (ints_place out (each dump_int l) at)) }

  -- those behind one that is cut are past the end
  pub ints_cut : {m' : List ℕ} {r' : ℕ} → fit < length l → Puts (dump_int (get_or l fit 0)) (start + 4 * fit) m r' m' → Puts (each dump_int l) at out r m'
  ints_cut {m'} h p =
      record {
        puts = λ i j.
            let b = take (fit + 1) l in
            let n : length m ≡ length out = ap length q ∙ length-sets out start (each dump_int (take fit l)) in
            let t : m' ≡ sets out start (each dump_int b) = ints_more out l start fit h q (p.puts (omega arith) (omega arith)).1 in
            let k : length m' ≡ length out = ap length t ∙ length-sets out start (each dump_int b) in
            let c : length (each dump_int b) ≡ 4 * (fit + 1) = ints_length b ∙ rw (length-take-le (fit + 1) l (omega arith)) in
            let s : each dump_int l ≡ each dump_int b ++ each dump_int (drop (fit + 1) l) = ap (each dump_int) (sym (take-append-drop (fit + 1) l)) ∙ each_append b (drop (fit + 1) l) in
            let past : sets m' (start + length (each dump_int b)) (each dump_int (drop (fit + 1) l)) ≡ m' = sets_past (each dump_int (drop (fit + 1) l)) m' (start + length (each dump_int b)) (omega arith) in
            let whole : m' ≡ sets out start (each dump_int l) = sym past ∙ rw (s, t) (sets_append (each dump_int b) out (each dump_int (drop (fit + 1) l)) start) in
            (omega (arith, ints_length l), whole ∙ rw a (ints_place out (each dump_int l) at));
      }
