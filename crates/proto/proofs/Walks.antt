-- Places behind pieces: one behind the other, lists, and the functions in a function.
use Rattle.lent.proofs.Prelude.{ℕ, zero, suc, ◌+◌, ◌-◌, ◌*◌, ◌≤◌, min, ◌≡◌, refl, sym, ◌∙◌, List, [], ◌∷◌, arith, add-zero, add_assoc, length, get_or, length-append}
use Rattle.lent.specs.Memory.{far}
use Rattle.format.specs.Tree.{Debug, Parts, Function, Functions, count}
use Rattle.format.specs.Store.{Piece, plain, word, ◌⊕◌, pieces, list, ints, debug_piece, function_piece, function_pieces, children_piece}
use Rattle.format.specs.Valid.{ValidParts, Valid, ValidAll}
use Rattle.format.specs.declared.StoredItem.{Ghosts}
use Rattle.format.specs.contracts.LocalsStoredItem.TheImpl.{ghosts as Locals}
use Rattle.format.specs.contracts.NamesStoredItem.TheImpl.{ghosts as Names}
use Rattle.format.specs.Stored.{Here}
use Rattle.format.proofs.Stored.{here_left, here_right}
use Rattle.proto.specs.Walk.{Stands, Skips, SkipsItems, Past, total, total_all, Passes, PassesAll, to_functions}
use Rattle.proto.specs.Lists.{WalksToLines}
use Rattle.proto.specs.declared.walk.Next.{Next}
use Rattle.proto.proofs.Sublists.{here_get}
use Rattle.proto.proofs.Pieces.{Same, same_sym, same_assoc, function_debug, stands_left, stands_right, pieces_words}

module _ {words : List ℕ} where
  pub past_none : {at : ℕ} → Past words (plain []) at at
  past_none = record { past = λ to h. sym (add-zero _) }

  pub past_then : {p q : Piece} {at m r : ℕ} → Past words p at m → Past words q m r → Past words (p ⊕ q) at r
  past_then {p} {q} {at} {m} {r} w v =
      record {
        past = λ to h.
            let x = w.past to (here_left (p.words to) _ h) in
            let y = v.past (to + length p.text) (rw x (here_right (p.words to) _ h)) in
            y ∙ rw (x, length-append (p.words to) (q.words (to + length p.text))) (add_assoc _ _ _);
      }

  -- behind a piece stands the next one
  pub past_stands : {p q : Piece} {text : List ℕ} {at r to : ℕ} → Past words p at r → Stands words text at to (p ⊕ q) → Stands words text r (to + length p.text) q
  past_stands {p} {q} {to = to} w h = rw (w.past to (stands_left p q h).in_words) (stands_right p q h)

  -- n words
  pub past_words : {at r : ℕ} (n : ℕ) (p : Piece) → ((to : ℕ) → length (p.words to) ≡ n) → Skips words n at r → Past words p at r
  past_words n p e s = record { past = λ to h. rw (e to) (s.skips (p.words to) (e to) h) }

  pub past_word : {at r : ℕ} (v : ℕ) → Skips words 1 at r → Past words (word v) at r
  past_word v s = past_words 1 (word v) (λ to. refl) s

  -- ---- lists of items of k words

  pub skip_items : {at x r : ℕ} (k : ℕ) → x ≡ get_or words at 0 → Skips words (1 + k * x) at r → SkipsItems words k at r
  skip_items {at} {x} {r} k e s =
      record {
        skips = λ n l q h.
            let g : x ≡ n = e ∙ here_get n l h in
            let f : Skips words (1 + k * n) at r = rw g at s in
            f.skips (n ∷ l) (omega arith) h;
      }

  pub past_ints : {at r : ℕ} (l : List ℕ) → SkipsItems words 1 at r → Past words (ints l) at r
  past_ints l s = record { past = λ to h. s.skips (length l) l (omega arith) h ∙ omega arith }

  -- of a kind of items, by what StoredItem says of it
  pub past_list : {Self : Type 0} {at r : ℕ} (T : Ghosts Self) (l : List T.Value) → SkipsItems words T.WORDS at r → Past words (list T.piece l) at r
  past_list T l s =
      record {
        past = λ to h.
            let n : length ((pieces T.piece l).words (to + 0)) ≡ T.WORDS * length l = pieces_words T.piece T.WORDS T.size l (to + 0) in
            s.skips (length l) ((pieces T.piece l).words (to + 0)) n h ∙ omega arith;
      }

  -- ---- functions

  pub passes_past : {p : Piece} {n : ℕ} {s r : Next} → Passes words p n s r → Past words p s.at r.at
  passes_past w = record { past = λ to h. (w.passes to h).0 }

  pub past_passes : {p : Piece} {n : ℕ} {s r : Next} → Past words p s.at r.at → (s.number ≤ far → r.number ≡ min (s.number + n) far) → Passes words p n s r
  past_passes w e = record { passes = λ to h. (w.past to h, e) }

  pub passes_same : {p q : Piece} {a b : ℕ} {s r : Next} → Same p q → a ≡ b → Passes words p a s r → Passes words q b s r
  passes_same e g w = record { passes = λ to h. let x = w.passes to (rw (e.words to) h) in (rw (← e.words to) x.0, rw (← g) x.1) }

  pub passes_then : {p q : Piece} {a b : ℕ} {s m r : Next} → Passes words p a s m → Passes words q b m r → Passes words (p ⊕ q) (a + b) s r
  passes_then {p} {q} {a} {b} {s} {m} {r} w v =
      record {
        passes = λ to h.
            let x = w.passes to (here_left (p.words to) _ h) in
            let y = v.passes (to + length p.text) (rw x.0 (here_right (p.words to) _ h)) in (
              (past_then (passes_past w) (passes_past v)).past to h,
              λ k. let i = x.1 k in let j = y.1 (omega arith) in omega arith,
            );
      }

  pub all_none : {allowance : ℕ} {s : Next} → PassesAll words allowance 0 s s
  unfolding function_pieces count total_all
  all_none = record { all = elim [ Functions.none ↦ λ v e. past_passes past_none (λ k. omega arith) | Functions.more f fs ↦ λ v e. absurd (omega arith) ] }

  pub all_more : {allowance : ℕ} {s m : Next} → ((f : Function) → Valid f allowance → Passes words (function_piece f) (total f) s m) → (k : ℕ) (r : Next) → PassesAll words allowance k m r → PassesAll words allowance (suc k) s r
  unfolding function_pieces count ValidAll total_all
  all_more w k r a = record { all = elim [ Functions.none ↦ λ v e. absurd (omega arith) | Functions.more f fs ↦ λ v e. passes_then (w f v.0) (a.all fs v.1 (omega arith)) ] }

  -- from a function to its lines: to the functions in it, and past as many as the count says
  pub passes_lines : {allowance i a : ℕ} {s m r : Next} → i ≡ get_or words a 0 → ((p : Parts) (fs : Functions) → Past words (to_functions p fs) s.at a) → Skips words 1 a m.at
      → m.number ≡ min (s.number + 1) far → PassesAll words allowance i m r → WalksToLines words allowance s r
  passes_lines {a = a} {s = s} {m = m} e w k g all p fs v =
      let head : Passes words (to_functions p fs ⊕ word (count fs)) 1 s m = past_passes (past_then (w p fs) (past_word (count fs) k)) (λ h. g) in
      record {
        passes = λ to h.
            let d : a ≡ _ = (w p fs).past to (here_left ((to_functions p fs).words to) _ h) in
            let i : Here words a ((children_piece fs).words (to + length (to_functions p fs).text)) = rw d (here_right ((to_functions p fs).words to) _ h) in
            let c = sym (here_get (count fs) _ i) ∙ sym e in
            (passes_same {b = suc (total_all fs)} (same_assoc (to_functions p fs) (word (count fs)) (function_pieces fs)) (omega arith) (passes_then head (all.all fs v c))).passes to h;
      }

  pub past_debug : {at a b r : ℕ} (d : Debug) → SkipsItems words 1 at a → SkipsItems words Locals.WORDS a b → SkipsItems words Names.WORDS b r → Past words (debug_piece d) at r
  past_debug d s t u = past_then (past_ints d.lines s) (past_then (past_list Locals d.locals t) (past_list Names d.upvalues u))

  pub passes_function : (n : ℕ) {s m r : Next} → WalksToLines words n s m → ((d : Debug) → Past words (debug_piece d) m.at r.at) → r.number ≡ m.number
      → (f : Function) → Valid f (suc n) → Passes words (function_piece f) (total f) s r
  unfolding Valid total
  passes_function n w d e (Function.function p fs) v =
      passes_same (same_sym (function_debug p fs)) (omega arith) (passes_then (w p fs v.2) (past_passes {n = 0} (d p.debug) (λ k. omega arith)))

-- no function is nested where none may be
pub none_deep : {n : ℕ} → n ≡ 0 → (f : Function) → Valid f n → ⊥
unfolding Valid
none_deep e (Function.function p fs) v = rw e at v

-- what is known of the parts of a function, and of the functions in it
pub valid_parts : (n : ℕ) (p : Parts) (fs : Functions) → Valid (Function.function p fs) n → ValidParts p
unfolding Valid
valid_parts zero p fs v = absurd v
valid_parts (suc n) p fs v = v.0

pub valid_inside : {n : ℕ} → (n ≡ 0 → ⊥) → (p : Parts) (fs : Functions) → Valid (Function.function p fs) n → ValidAll fs (n - 1)
unfolding Valid
valid_inside {n} z p fs v = let e : n ≡ suc (n - 1) = omega arith in (rw e at v).2

-- past a function: to its lines, and past the debug lists
pub pass_inside : {words : List ℕ} {allowance k : ℕ} {s m : Next} → (allowance ≡ 0 → ⊥) → WalksToLines words (allowance - 1) s m → ((d : Debug) → Past words (debug_piece d) m.at k)
    → (f : Function) → Valid f allowance → Passes words (function_piece f) (total f) s (record { at = k; number = m.number })
pass_inside {allowance = allowance} z w d = let y : allowance ≡ suc (allowance - 1) = omega arith in rw y (passes_function (allowance - 1) w d refl)
