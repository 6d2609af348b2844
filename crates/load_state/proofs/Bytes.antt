-- What reading a byte or a number gives at a place of the chunk.
use Rattle.std.specs.Prelude.{Result, Ok, Err}
use Rattle.std.specs.Result.{IsErrAnd}
use Rattle.std.proofs.lemmas.Result.{err_from_is_err_and}
use Rattle.lent.proofs.Prelude.{refl, ℕ, ◌+◌, ◌*◌, ◌-◌, ◌/◌, ◌%◌, ◌^◌, ◌≤◌, ◌<◌, ◌≡◌, ◌∙◌, List, ◌∷◌, arith, add-zero, dec_le, length, take, drop, get_or, length-drop, drop-drop, take_all, le-leb, lt-leb}
use Rattle.std.proofs.lemmas.List.{drop_more}
use Rattle.format.specs.Read.{got, refused, load_byte, load_block, load_number, load_int, load_num, little_endian}
use Rattle.format.specs.Refusal.{number}
use Rattle.format.specs.declared.Refusal.{Refusal}
use Rattle.load_state.specs.declared.cursor.Got.{Got}
use Rattle.load_state.specs.ReadAt.{four_at, ReadAt, HalvesAt}
use Rattle.std.specs.Int.{from_le_bytes, w32, w64}

pub byte_got : (bs : List ℕ) (at : ℕ) → at < length bs → load_byte (drop at bs) ≡ got (get_or bs at 0) (drop (at + 1) bs)
byte_got bs at h = rw (drop_more bs at 0 h)

-- the four bytes from a place on
pub four : (bs : List ℕ) (at : ℕ) → at + 4 ≤ length bs → drop at bs ≡ get_or bs at 0 ∷ get_or bs (at + 1) 0 ∷ get_or bs (at + 2) 0 ∷ get_or bs (at + 3) 0 ∷ drop (at + 4) bs
four bs at h =
    let e2 : at + 1 + 1 ≡ at + 2 = omega arith in
    let e3 : at + 2 + 1 ≡ at + 3 = omega arith in
    let e4 : at + 3 + 1 ≡ at + 4 = omega arith in
    rw (drop_more bs at 0 (omega arith), drop_more bs (at + 1) 0 (omega arith), e2, drop_more bs (at + 2) 0 (omega arith), e3, drop_more bs (at + 3) 0 (omega arith), e4)

-- enough bytes, or not
pub block_got : (n : ℕ) (bs : List ℕ) → n ≤ length bs → load_block n bs ≡ got (take n bs) (drop n bs)
block_got n bs h = rw (le-leb n (length bs) h, load_block)

pub block_none : (n : ℕ) (bs : List ℕ) → length bs < n → load_block n bs ≡ refused 2
block_none n bs h = rw (lt-leb n (length bs) h, load_block)

-- at a place: a block, and a number of any width, low byte first
module _ (width : ℕ) (bs : List ℕ) (at : ℕ) where
  pub block_at : width ≤ length bs - at → load_block width (drop at bs) ≡ got (take width (drop at bs)) (drop (at + width) bs)
  block_at h = block_got width (drop at bs) (rw length-drop h) ∙ rw (drop-drop width at bs)

  pub block_short : length bs - at < width → load_block width (drop at bs) ≡ refused 2
  block_short h = block_none width (drop at bs) (rw length-drop h)

  pub number_got : width ≤ length bs - at → load_number width (drop at bs) ≡ got (little_endian (take width (drop at bs))) (drop (at + width) bs)
  number_got h = rw (block_at h)

  pub number_none : length bs - at < width → load_number width (drop at bs) ≡ refused 2
  number_none h = rw (block_short h)

-- the two widths, by the fours that are read
four_is : (bs : List ℕ) (at : ℕ) → 4 ≤ length bs - at → four_at bs at ≡ little_endian (take 4 (drop at bs))
unfolding little_endian
four_is bs at h = rw (four bs at (omega arith)) (simp add-zero)

pub int_got : (bs : List ℕ) (at : ℕ) → 4 ≤ length bs - at → load_int (drop at bs) ≡ got (four_at bs at) (drop (at + 4) bs)
int_got bs at h = rw (four_is bs at h) (number_got 4 bs at h)

eight : (a b c d e f g h : ℕ) → a + 256 * (b + 256 * (c + 256 * d)) + 4294967296 * (e + 256 * (f + 256 * (g + 256 * h))) ≡ a + 256 * (b + 256 * (c + 256 * (d + 256 * (e + 256 * (f + 256 * (g + 256 * (h + 0)))))))
eight a b c d e f g h = omega arith

eight_is : (bs : List ℕ) (at : ℕ) → 8 ≤ length bs - at → four_at bs at + 4294967296 * four_at bs (at + 4) ≡ little_endian (take 8 (drop at bs))
unfolding little_endian
eight_is bs at h = rw (four bs at (omega arith), four bs (at + 4) (omega arith)) (eight _ _ _ _ _ _ _ _)

-- ---- as an answer

-- bytes that std reads as a number
module _ (b : List ℕ) {v : ℕ} where
  pub le_4 : length b ≡ 4 → v ≡ from_le_bytes w32 b → v ≡ little_endian b
  le_4 h e = omega (arith, rw (take_all 4 b (omega arith)) at (four_is b 0 (omega arith)))

  pub le_8 : length b ≡ 8 → v ≡ from_le_bytes w64 b → v ≡ little_endian b
  le_8 h e = omega (arith, rw (take_all 8 b (omega arith)) at (eight_is b 0 (omega arith)))

module _ {bs : List ℕ} {at : ℕ} where
  -- the number that n bytes stand for
  number_taken : (n : ℕ) {b : Got (List ℕ)} {g : Got ℕ} → ReadAt bs (load_block n) at (Ok b) → g.value ≡ little_endian b.value → g.next ≡ b.next → ReadAt bs (load_number n) at (Ok g)
  number_taken n {b} {g} h e f = elim (dec_le n (length bs - at)) [
    | yes k ↦
        let t : (drop (at + n) bs ≡ drop b.next bs) × (take n (drop at bs) ≡ b.value) = rw (block_at n bs at k) at h.ends in
        record { ends = rw (number_got n bs at k, f, t.0, e, t.1) (refl, refl) }
    | no k ↦
        let m : length bs - at < n = omega arith in
        record { ends = rw (number_none n bs at m) (rw (block_short n bs at m) at h.ends) }
  ]

  pub int_taken : {b : Got (List ℕ)} {g : Got ℕ} → ReadAt bs (load_block 4) at (Ok b) → length b.value ≡ 4 → g.value ≡ from_le_bytes w32 b.value → g.next ≡ b.next → ReadAt bs load_int at (Ok g)
  int_taken {b} h l e f = number_taken 4 h (le_4 b.value l e) f

  pub size_taken : {b : Got (List ℕ)} {g : Got ℕ} → ReadAt bs (load_block 8) at (Ok b) → length b.value ≡ 8 → g.value ≡ from_le_bytes w64 b.value → g.next ≡ b.next → ReadAt bs (load_number 8) at (Ok g)
  size_taken {b} h l e f = number_taken 8 h (le_8 b.value l e) f

-- four bytes stand for a number below 2^32
four_fits : (bs : List ℕ) (at : ℕ) → ((i : ℕ) → get_or bs i 0 < 256) → four_at bs at < 4294967296
four_fits bs at h = omega (arith, h at, h (at + 1), h (at + 2), h (at + 3))

module _ {bs : List ℕ} {at : ℕ} (fits : (i : ℕ) → get_or bs i 0 < 256) where
  -- the halves of a number of eight bytes
  pub halves_taken : {b : Got ℕ} {g : Got (ℕ × ℕ)} → ReadAt bs (load_number 8) at (Ok b) → g.value.0 ≡ b.value / 2 ^ 32 → g.value.1 ≡ b.value % 2 ^ 32 → g.next ≡ b.next → HalvesAt bs at (Ok g)
  halves_taken {b} {g} h u l f = elim (dec_le 8 (length bs - at)) [
    | yes k ↦
        let n : at + 4 + 4 ≡ at + 8 = omega arith in
        let t : (drop (at + 8) bs ≡ drop b.next bs) × (little_endian (take 8 (drop at bs)) ≡ b.value) = rw (number_got 8 bs at k) at h.ends in
        let e : four_at bs at + 4294967296 * four_at bs (at + 4) ≡ b.value = eight_is bs at k ∙ t.1 in
        let low : four_at bs at ≡ g.value.1 = omega (arith, four_fits bs at fits) in
        let high : four_at bs (at + 4) ≡ g.value.0 = omega (arith, four_fits bs at fits) in
        record { ends = rw (int_got bs at (omega arith), int_got bs (at + 4) (omega arith), n, f, t.0, low, high) (refl, refl) }
    | no k ↦ absurd (rw (number_none 8 bs at (omega arith)) at h.ends)
  ]

-- too few bytes for a number
num_none : (bs : List ℕ) (at : ℕ) → length bs - at < 8 → load_num (drop at bs) ≡ refused 2
num_none bs at h = elim (dec_le 4 (length bs - at)) [
  | yes k ↦ rw (int_got bs at k, number_none 4 bs (at + 4) (omega arith))
  | no k ↦ rw (number_none 4 bs at (omega arith))
]

pub halves_short : {bs : List ℕ} {at : ℕ} {x : Refusal} {r : Result (Got (ℕ × ℕ)) Refusal} → IsErrAnd r (λ y. y ≡ x) → ReadAt bs (load_number 8) at (Err x) → HalvesAt bs at r
halves_short {bs} {at} {x} {r} i h = elim (dec_le 8 (length bs - at)) [
  | yes k ↦ absurd (rw (number_got 8 bs at k) at h.ends)
  | no k ↦
      let p = err_from_is_err_and r i in
      let t : number x ≡ 2 = rw (number_none 8 bs at (omega arith)) at h.ends in
      rw (p.1, p.2) (record { ends = rw (num_none bs at (omega arith)) t })
]
