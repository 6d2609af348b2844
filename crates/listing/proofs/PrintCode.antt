-- PrintCode's loop: its turn, and what it leaves out of the Rust's lines.
use Rattle.lent.proofs.Prelude.{ℕ, suc, ◌+◌, ◌≤◌, ◌<◌, min, ◌≡◌, refl, sym, ap, ◌∙◌, Bool, true, false, cond, not, ◌&&◌, List, [], ◌∷◌, ◌++◌, arith, dec_lt, append-nil, add-zero, add-one, length, drop, get_or, drop_of_length-le, get_or-drop, drop-drop}
use Rattle.std.proofs.lemmas.List.{drop_more}
use Rattle.instructions.specs.OpCodes.{next_is_c}
use Rattle.listing_comments.specs.Comment.{when}
use Rattle.listing_headers.specs.Tables.{enumerated}
use Rattle.listing_lines.specs.Line.{format_instruction}
use Rattle.listing.specs.Listing.{print_code}
use Rattle.listing.specs.RustCode.{has_line, LinesLeftOut}

module _ (line : ℕ → ℕ → List ℕ) where
  -- the line at pc, then those from the next pc on
  pub print_turn : (l : List ℕ) {n pc i next : ℕ} → n ≡ length l → pc < n → i ≡ get_or l pc 0 → next ≡ cond (next_is_c i) (min (pc + 2) n) (pc + 1)
      → print_code line pc (drop pc l) ≡ line pc i ++ print_code line next (drop next l)
  unfolding print_code
  print_turn l {n} {pc} {i} {next} e h f g = rw (drop_more l pc 0 (omega arith), ← f) (elim (dec_lt (pc + 1) n) [
    | yes k ↦ let two : pc + 1 + 1 ≡ pc + 2 = omega arith in rw (drop_more l (pc + 1) 0 (omega arith), two) (more k (next_is_c i) g)
    | no k ↦ rw (drop_of_length-le l {i = pc + 1} (omega arith), drop_of_length-le l {i = next} (last k (next_is_c i) g)) (sym (append-nil _))
  ])
    where
      more : pc + 1 < n → (b : Bool) → next ≡ cond b (min (pc + 2) n) (pc + 1)
          → line pc i ++ cond b (print_code line (pc + 2) (drop (pc + 2) l)) (print_code line (pc + 1) (get_or l (pc + 1) 0 ∷ drop (pc + 2) l)) ≡ line pc i ++ print_code line next (drop next l)
      more k true q = let r : next ≡ pc + 2 = omega arith in rw r refl
      more k false q = let two : pc + 1 + 1 ≡ pc + 2 = omega arith in rw (q, drop_more l (pc + 1) 0 (omega arith), two) refl

      last : (pc + 1 < n → ⊥) → (b : Bool) → next ≡ cond b (min (pc + 2) n) (pc + 1) → length l ≤ next
      last k true q = omega arith
      last k false q = omega arith

-- ---- the Rust's lines

-- the item behind pc items, and what is behind it
split : (c : List ℕ) (pc : ℕ) {i : ℕ} {l : List ℕ} → drop pc c ≡ i ∷ l → (get_or c pc 0 ≡ i) × (drop (suc pc) c ≡ l)
split c pc {i} {l} e =
    let a : get_or c (pc + 0) 0 ≡ i = sym (get_or-drop pc c 0 0) ∙ rw e refl in
    let b : drop (pc + 1) c ≡ l = sym (drop-drop 1 pc c) ∙ rw e refl in
    (rw add-zero at a, rw add-one at b)

module _ (line : ℕ → ℕ → List ℕ) (c : List ℕ) where
  abbrev kept : ℕ → ℕ → List ℕ
  kept pc i = when (has_line c pc) (line pc i)

  next_line : (pc : ℕ) {b : Bool} → has_line c pc ≡ b → has_line c (suc pc) ≡ not (b && next_is_c (get_or c pc 0))
  unfolding has_line
  next_line pc h = ap (λ (b : Bool). not (b && next_is_c (get_or c pc 0))) h

  -- from a word on that has a line
  left_out : (l : List ℕ) (pc : ℕ) → drop pc c ≡ l → has_line c pc ≡ true → print_code line pc l ≡ enumerated kept pc l
  unfolding print_code enumerated
  left_out [] pc e h = refl
  left_out (i ∷ []) pc e h = rw h (sym (append-nil _))
  left_out (i ∷ w ∷ l) pc e h =
      let s = split c pc e in
      let two : pc + 2 ≡ suc (suc pc) = omega arith in
      rw h (ap (λ (t : List ℕ). line pc i ++ t) (
      (elim (next_is_c i) as (λ b. has_line c (suc pc) ≡ not b → cond b (print_code line (pc + 2) l) (print_code line (pc + 1) (w ∷ l)) ≡ enumerated kept (suc pc) (w ∷ l)) [
        | true ↦ λ q. rw (q, two) (left_out l (suc (suc pc)) (split c (suc pc) s.1).1 (next_line (suc pc) q))
        | false ↦ λ q. rw add-one (left_out (w ∷ l) (suc pc) s.1 q)
      ]) (rw s.0 at (next_line pc h))
      ))

pub lines_left_out : LinesLeftOut
unfolding has_line
lines_left_out p fs number = left_out (format_instruction p fs number) p.code p.code 0 refl refl
