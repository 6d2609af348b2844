-- A list that stands at a place of another: its length, its items, and two of them one behind the other.
use Rattle.lent.proofs.Prelude.{Bool, false, ℕ, ◌+◌, ◌-◌, ◌%◌, ◌^◌, ◌≤◌, ◌<◌, min, ◌≡◌, refl, sym, ap, ◌∙◌, List, [], ◌∷◌, ◌++◌, append_assoc, append-nil, arith, length, take, drop, get_or, length-append, length-drop, take-append-drop, get_or-append, drop_at, drop-drop, get_or-drop, length-take-le}
use Rattle.std.proofs.lemmas.List.{nil_from_length}
use Rattle.lent.specs.Memory.{far}
use Rattle.format.specs.Stored.{Here}
use Rattle.std.proofs.lemmas.List.{drop_more}
use Rattle.format.proofs.Stored.{here_left}
use Rattle.proto.specs.Formed.{Room}
use Rattle.proto.specs.Walk.{Skips}

module _ {xs : List ℕ} {at : ℕ} where
  pub here_length : (l : List ℕ) → (h : Here xs at l) → length xs - at ≡ length l + length h.more
  here_length l h = sym (length-drop at xs) ∙ ap length h.is ∙ length-append l h.more

  -- n of them do not stand where there is no room for n
  pub room_short : {b : Bool} {n : ℕ} {l : List ℕ} → Room b (length xs) at n → b ≡ false → length l ≡ n → Here xs at l → ⊥
  room_short {l = l} room e k h = room.not e (omega (arith, here_length l h))

  pub here_item : (l : List ℕ) (i : ℕ) → i < length l → Here xs at l → get_or xs (at + i) 0 ≡ get_or l i 0
  here_item l i k h = sym (get_or-drop at xs i 0) ∙ rw h.is (get_or-append l h.more 0 i k)

  pub here_get : (v : ℕ) (l : List ℕ) → Here xs at (v ∷ l) → get_or xs at 0 ≡ v
  here_get v l h = let e : at + 0 ≡ at = omega arith in rw (← e) (here_item (v ∷ l) 0 (omega arith) h)

  pub here_none : Here xs at []
  here_none = record { more = drop at xs; is = refl }

  pub here_one : at < length xs → Here xs at (get_or xs at 0 ∷ [])
  here_one h = record { more = drop (at + 1) xs; is = drop_more xs at 0 h }

  pub here_join : (s t : List ℕ) → Here xs at s → Here xs (at + length s) t → Here xs at (s ++ t)
  here_join s t h k =
      let e : h.more ≡ t ++ k.more = sym (drop_at s h.more (length s) refl) ∙ rw (← h.is) (drop-drop (length s) at xs) ∙ k.is in
      record { more = k.more; is = h.is ∙ rw e (sym (append_assoc s t k.more)) }

  pub here_front : (n : ℕ) (l : List ℕ) → Here xs at l → Here xs at (take n l)
  here_front n l h = here_left (take n l) (drop n l) (rw (take-append-drop n l) h)

  -- the word behind n of those that stand there
  pub skip_item : {n a x : ℕ} (l : List ℕ) → n < length l → Here xs at l → Skips xs n at a → x ≡ get_or xs a 0 → x ≡ get_or l n 0
  skip_item {n} l k h s e = e ∙ rw (s.skips (take n l) (length-take-le n l (omega arith)) (here_front n l h)) (here_item l n k h)

  -- what stands there is a part of the list
  pub here_take : (n : ℕ) → Here xs at (take n (drop at xs))
  here_take n = record { more = drop n (drop at xs); is = sym (take-append-drop n (drop at xs)) }

-- where n words stand, there are so many from the place to the end: no place stops, and none wraps
module _ {xs : List ℕ} {n at r : ℕ} (f : length xs ≤ far) (k : at ≤ far) where
  pub skips_all : r ≡ min (at + n) far → Skips xs n at r
  skips_all e = record { skips = λ l g h. omega (arith, here_length l h) }

  pub skips_wrapped : r ≡ (at + n) % 2 ^ 64 → Skips xs n at r
  skips_wrapped e = record { skips = λ l g h. omega (arith, here_length l h) }

-- two words, and three
pub here_two : {xs : List ℕ} {at : ℕ} → at + 2 ≤ length xs → Here xs at (get_or xs at 0 ∷ get_or xs (at + 1) 0 ∷ [])
here_two {xs} {at} h = here_join (get_or xs at 0 ∷ []) (get_or xs (at + 1) 0 ∷ []) (here_one (omega arith)) (here_one (omega arith))

pub here_three : {xs : List ℕ} {at : ℕ} → at + 3 ≤ length xs → Here xs at (get_or xs at 0 ∷ get_or xs (at + 1) 0 ∷ get_or xs (at + 2) 0 ∷ [])
here_three {xs} {at} h =
    let e : at + 1 + 1 ≡ at + 2 = omega arith in
    here_join (get_or xs at 0 ∷ []) (get_or xs (at + 1) 0 ∷ get_or xs (at + 2) 0 ∷ []) (here_one (omega arith)) (rw e at (here_two {xs = xs} {at = at + 1} (omega arith)))

-- a list as long as the one it begins is that one
pub here_whole : (xs l : List ℕ) → Here xs 0 l → length l ≡ length xs → l ≡ xs
here_whole xs l h e =
    let m : h.more ≡ [] = nil_from_length h.more (omega (arith, here_length l h)) in
    sym (append-nil l) ∙ rw (← m) (sym h.is)

pub whole_here : (l xs : List ℕ) → l ≡ xs → Here xs 0 l
whole_here l xs e = record { more = []; is = sym e ∙ sym (append-nil l) }
