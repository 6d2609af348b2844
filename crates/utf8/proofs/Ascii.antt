-- Bytes that are ASCII: each of them, parts of them, and their repair.
use Rattle.lent.proofs.Prelude.{ℕ, zero, suc, ◌+◌, ◌<◌, max, ◌≡◌, refl, sym, ◌∙◌, List, [], ◌∷◌, ◌++◌, Bool, true, false, ◌&&◌, and-eq-true_iff, arith, add-one, length, take, drop, get_or, length-drop, take-suc, get_or-drop, ltb, ltb-true, lt-ltb, le-ltb}
use mathlib.Core.Bool.{and_assoc, and-true}
use borrow.Author.Tests.{ltb-false}
use Rattle.std.specs.Prelude.{MatchBool}
use Rattle.std.specs.Str.{IsAscii, IsNotAscii}
use Rattle.lent.specs.Memory.{Every}
use Rattle.utf8.specs.Utf8.{repair, is_ascii}
use Rattle.utf8.proofs.Rows.{by_test}
use Rattle.utf8.proofs.Laws.{utf8_ascii, repair_utf8}

-- ---- ASCII is each byte below 0x80, in both directions

pub ascii_every : (s : List ℕ) → is_ascii s ≡ true → Every (λ b. b < 0x80) s
unfolding Every is_ascii
ascii_every [] e = tt
ascii_every (b ∷ s) e = let h = (and-eq-true_iff (ltb b 0x80) (is_ascii s)).0 e in (ltb-true b 0x80 h.0, ascii_every s h.1)

pub every_ascii : (s : List ℕ) → Every (λ b. b < 0x80) s → is_ascii s ≡ true
unfolding Every is_ascii
every_ascii [] h = refl
every_ascii (b ∷ s) h = rw (lt-ltb b 0x80 h.0) (every_ascii s h.1)

-- past the end there is no byte
pub ascii_at : (s : List ℕ) → is_ascii s ≡ true → (k : ℕ) → get_or s k 0 < 0x80
unfolding is_ascii
ascii_at [] e k = omega arith
ascii_at (b ∷ s) e zero = ltb-true b 0x80 ((and-eq-true_iff (ltb b 0x80) (is_ascii s)).0 e).0
ascii_at (b ∷ s) e (suc k) = ascii_at s ((and-eq-true_iff (ltb b 0x80) (is_ascii s)).0 e).1 k

every_at : (s : List ℕ) → IsAscii s → Every (λ b. b < 0x80) s
unfolding Every
every_at [] h = tt
every_at (b ∷ s) h = (h 0, every_at s (λ i. h (suc i)))

-- each byte is below 0x80, past the end too, or some byte is not
pub ascii_is : (s : List ℕ) {r : Bool} → MatchBool r (IsAscii s) (IsNotAscii s) → r ≡ is_ascii s
ascii_is s {r} h = go r h
  where
    go : (r : Bool) → MatchBool r (IsAscii s) (IsNotAscii s) → r ≡ is_ascii s
    go true h = sym (every_ascii s (every_at s h))
    go false h = by_test (λ a. false ≡ a) (is_ascii s) (λ e. absurd (omega (arith, h.1, ascii_at s e h.0))) (λ e. refl)

-- ---- parts, and the greatest byte

ascii_append : (s t : List ℕ) → is_ascii (s ++ t) ≡ (is_ascii s && is_ascii t)
unfolding is_ascii
ascii_append [] t = refl
ascii_append (b ∷ s) t = rw (ascii_append s t, and_assoc)

-- one byte more
ascii_more : (s : List ℕ) (at k : ℕ) → at + k < length s → is_ascii (take (k + 1) (drop at s)) ≡ (is_ascii (take k (drop at s)) && ltb (get_or s (at + k) 0) 0x80)
unfolding is_ascii
ascii_more s at k h =
    let l : k < length (drop at s) = rw length-drop (omega arith) in
    rw (add-one k, take-suc (drop at s) k 0 l, ascii_append (take k (drop at s)), get_or-drop at s k 0, and-true)

-- the greatest byte is ASCII where all are
greater_ascii : (a b t : ℕ) → t ≡ max a b → ltb t 0x80 ≡ (ltb a 0x80 && ltb b 0x80)
greater_ascii a b t e = go (ltb a 0x80) refl (ltb b 0x80) refl
  where
    go : (x : Bool) → ltb a 0x80 ≡ x → (y : Bool) → ltb b 0x80 ≡ y → ltb t 0x80 ≡ (x && y)
    go true p true q = lt-ltb t 0x80 (omega (arith, ltb-true))
    go true p false q = le-ltb t 0x80 (omega (arith, ltb-false))
    go false p y q = le-ltb t 0x80 (omega (arith, ltb-false))

-- whether the n bytes from a place on are ASCII, by the greatest of them
pub record Greatest (s : List ℕ) (at n top : ℕ) : Type 0 where
  pub ascii : ltb top 0x80 ≡ is_ascii (take n (drop at s))

pub greatest_none : {s : List ℕ} {at : ℕ} → Greatest s at 0 0
unfolding is_ascii
greatest_none = record { ascii = refl }

pub greatest_more : {s : List ℕ} {at n top t : ℕ} → at + n < length s → t ≡ max top (get_or s (at + n) 0) → Greatest s at n top → Greatest s at (n + 1) t
greatest_more {s} {at} {n} {top} {t} h e g = record { ascii = greater_ascii top (get_or s (at + n) 0) t e ∙ rw g.ascii (sym (ascii_more s at n h)) }

pub repair_ascii : (s : List ℕ) → is_ascii s ≡ true → repair s ≡ s
repair_ascii s e = repair_utf8 s (utf8_ascii s (ascii_every s e))
