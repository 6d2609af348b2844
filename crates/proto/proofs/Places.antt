-- The search for the function at a place: what is found in one function, in those behind it, and in those in it.
use Rattle.lent.proofs.Prelude.{ℕ, suc, ◌+◌, ◌-◌, ◌≤◌, ◌<◌, ◌^◌, min, append-nil, drop_at, replicate, ◌≡◌, refl, sym, ap, ◌∙◌, List, [], ◌∷◌, ◌++◌, true, false, cond, Option, none, some, arith, add-zero, add_assoc, length, get_or, length-append, eqb, eq-eqb, ne_eqb}
use Rattle.std.specs.declared.ops.ControlFlow.{ControlFlow}
use Rattle.std.specs.declared.ops.ControlFlow.TheVariants.{Continue, Break}
use Rattle.std.proofs.lemmas.List.{length-replicate}
use mir.Syntax.{w32}
use mir.Val.{Fits}
use Rattle.lent.specs.Memory.{far}
use Rattle.format.specs.declared.Span.{Span}
use Rattle.format.specs.Tree.{Source, Debug, Parts, Function, Functions, count, filled}
use Rattle.format.specs.Store.{string, source_piece, debug_piece, function_piece, function_pieces, children_piece}
use Rattle.format.specs.Valid.{Valid, ValidAll}
use Rattle.format.specs.Stored.{Here}
use Rattle.format.proofs.Stored.{here_left, here_right}
use Rattle.format.proofs.Loops.{Loop, loop_stop, loop_end}
use Rattle.proto.specs.declared.place.SourceSpan.{SourceSpan}
use Rattle.proto.specs.declared.place.SourceSpan.TheVariants.{Text}
use Rattle.std.specs.Prelude.{Some}
use Rattle.std.proofs.lemmas.Option.{same_Some}
use Rattle.proto.specs.Walk.{own_place, Stands, Skips, Past, to_functions, to_lines}
use Rattle.proto.specs.Places.{span_of, Placed, placed, placed_all, begins_at, Seeks, Search}
use Rattle.proto.proofs.Sublists.{here_get, here_item}
use Rattle.proto.proofs.Pieces.{function_debug}
use Rattle.proto.proofs.Walks.{valid_inside}

-- ---- the source of a function

-- an own one: behind its first word stand its place and its length
pub own_some : {words : List ℕ} {at x a : ℕ} {r : Span} (s : Source) (to : ℕ) → Here words at ((source_piece s).words to) → x ≡ get_or words at 0 → (x ≡ 0 → ⊥)
    → Skips words 1 at a → ((l : List ℕ) (t : List ℕ) (to : ℕ) → Stands words t a to (string l) → r ≡ record { start = to; len = length l }) → Some r ≡ own_place to s
own_some Source.inherited to h e n k f = absurd (n (e ∙ here_get 0 _ h))
own_some {words} {at} {a = a} {r} (Source.own s) to h e n k f =
    let d : a ≡ at + 1 = k.skips (1 ∷ []) refl (here_left (1 ∷ []) _ h) in
    let u : Here words a ((to + 0) ∷ length s ∷ []) = rw d (here_right (1 ∷ []) ((to + 0) ∷ length s ∷ []) h) in
    let t : Here (replicate (to + 0) 0 ++ s) (to + 0) s = record { more = []; is = drop_at (replicate (to + 0) 0) s (to + 0) (length-replicate (to + 0) 0) ∙ sym (append-nil s) } in
    let q : r ≡ record { start = to + 0; len = length s } = f s _ (to + 0) (record { in_words = u; in_text = t }) in
    ap Some (q ∙ rw (add-zero to) refl)

-- where it ends; its place and its length are below 2 ^ 32
pub span_own : {words : List ℕ} {at end : ℕ} {r : Span} (around : SourceSpan) (s : Source) (to : ℕ) → Here words at ((source_piece s).words to) → Some r ≡ own_place to s → end ≡ min (r.start + r.len) far
    → ((i : ℕ) → Fits w32 (get_or words i 0)) → Text r.start end ≡ span_of around to s
span_own around Source.inherited to h e g w = absurd cc
span_own {words} {at} {end} {r} around (Source.own s) to h e g w =
    let l = 1 ∷ (to + 0) ∷ length s ∷ [] in
    let q : r ≡ record { start = to; len = length s } = same_Some _ _ e in
    let y : to + 0 < 2 ^ 32 = omega (arith, here_item l 1 (omega arith) h, w (at + 1)) in
    let z : length s < 2 ^ 32 = omega (arith, here_item l 2 (omega arith) h, w (at + 2)) in
    let m : end ≡ to + length s = rw q at g ∙ omega arith in
    rw (q, m)

-- ---- one function after the other

abbrev or_else : Option Placed → Option Placed → Option Placed
or_else none y = y
or_else (some x) y = some x

begins_append : (place : ℕ) (a b : List Placed) → begins_at place (a ++ b) ≡ or_else (begins_at place a) (begins_at place b)
unfolding begins_at
begins_append place [] b = refl
begins_append place (x ∷ a) b =
    elim (eqb place x.place) as (λ t. cond t (some x) (begins_at place (a ++ b)) ≡ or_else (cond t (some x) (begins_at place a)) (begins_at place b)) [ true ↦ refl | false ↦ begins_append place a b ]

same_Continue : (a b : ℕ) → ◌≡◌ {A = ControlFlow SourceSpan ℕ} (Continue a) (Continue b) → a ≡ b
same_Continue a b e = cc

-- of n functions, whichever they are
pub record SearchAll (words : List ℕ) (place : ℕ) (around : SourceSpan) (allowance n at : ℕ) (r : ControlFlow SourceSpan ℕ) : Type 0 where
  pub seeks : (fs : Functions) (to : ℕ) (bytes : List ℕ) → ValidAll fs allowance → count fs ≡ n → Here words at ((function_pieces fs).words to)
      → Seeks (begins_at place (placed_all fs at to (record { bytes = bytes; span = around }))) (at + length ((function_pieces fs).words to)) r

module _ {words : List ℕ} {place : ℕ} {around : SourceSpan} {allowance : ℕ} where
  search_none : {at : ℕ} → SearchAll words place around allowance 0 at (Continue at)
  unfolding count function_pieces placed_all begins_at
  search_none {at} = record { seeks = elim [ Functions.none ↦ λ to bytes v e h. rw (add-zero at) | Functions.more f fs ↦ λ to bytes v e h. absurd (omega arith) ] }

  -- it is in the first one, or may be behind it
  search_next : {at : ℕ} {r : ControlFlow SourceSpan ℕ} → ((f : Function) → Valid f allowance → Search words place around f at r) → (n : ℕ) (q : ControlFlow SourceSpan ℕ) → ((z : SourceSpan) → r ≡ Break z → r ≡ q)
      → ((b : ℕ) → r ≡ Continue b → SearchAll words place around allowance n b q) → SearchAll words place around allowance (suc n) at q
  unfolding count function_pieces placed_all ValidAll
  search_next {at} {r} one n q here rest = record { seeks = go }
    where
      go : (fs : Functions) (to : ℕ) (bytes : List ℕ) → ValidAll fs allowance → count fs ≡ suc n → Here words at ((function_pieces fs).words to)
          → Seeks (begins_at place (placed_all fs at to (record { bytes = bytes; span = around }))) (at + length ((function_pieces fs).words to)) q
      go Functions.none to bytes v c h = absurd (omega arith)
      go (Functions.more f fs) to bytes v c h =
          rw begins_append (by (begins_at place (placed f at to (record { bytes = bytes; span = around }))) ((one f v.0).seeks to bytes (here_left ((function_piece f).words to) _ h)))
        where
          by : (o : Option Placed) → Seeks o (at + length ((function_piece f).words to)) r
              → Seeks (or_else o (begins_at place (placed_all fs (at + length ((function_piece f).words to)) (to + length (function_piece f).text) (record { bytes = bytes; span = around }))))
              (at + length ((function_piece f).words to ++ (function_pieces fs).words (to + length (function_piece f).text))) q
          by (some x) k = sym (here _ k) ∙ k
          by none k =
              let to' = to + length (function_piece f).text in
              let i : at + length ((function_piece f).words to ++ (function_pieces fs).words to') ≡ at + length ((function_piece f).words to) + length ((function_pieces fs).words to') =
              rw (length-append ((function_piece f).words to) ((function_pieces fs).words to')) (sym (add_assoc _ _ _)) in
              rw i ((rest _ k).seeks fs to' bytes v.1 (omega arith) (here_right ((function_piece f).words to) _ h))

  pub search_more : {at m : ℕ} → ((f : Function) → Valid f allowance → Search words place around f at (Continue m)) → (n : ℕ) (q : ControlFlow SourceSpan ℕ) → SearchAll words place around allowance n m q
      → SearchAll words place around allowance (suc n) at q
  search_more one n q rest = search_next one n q (λ z e. absurd cc) (λ b e. let d = same_Continue _ _ e in rw (← d) rest)

-- ---- in one function

own_here : {words : List ℕ} {at : ℕ} {around own : SourceSpan} → ((s : Source) (to : ℕ) → Here words at ((source_piece s).words to) → own ≡ span_of around to s)
    → (p : Parts) (fs : Functions) (to : ℕ) → Here words at ((function_piece (Function.function p fs)).words to) → own ≡ span_of around to p.source
unfolding function_piece
own_here s p fs to h = s p.source to (here_left ((source_piece p.source).words to) _ h)

module _ {words : List ℕ} {place at : ℕ} {around own : SourceSpan} (s : (s : Source) (to : ℕ) → Here words at ((source_piece s).words to) → own ≡ span_of around to s) where
  -- it is this one
  pub search_here : place ≡ at → (f : Function) → Search words place around f at (Break own)
  unfolding placed begins_at
  search_here e (Function.function p fs) = record { seeks = λ to bytes h. rw (eq-eqb place at e, own_here s p fs to h) }

  module _ {a q n allowance i b : ℕ} (o : allowance ≡ 0 → ⊥) (z : place ≡ at → ⊥) (w : (p : Parts) (fs : Functions) → Past words (to_functions p fs) at a) (e : n ≡ get_or words a 0) (k : Skips words 1 a q)
      (l : Loop (SearchAll words place own (allowance - 1)) n q i b) where
    inside : {r : ControlFlow SourceSpan ℕ} → SearchAll words place own (allowance - 1) n q r → (p : Parts) (fs : Functions) (to : ℕ) (bytes : List ℕ) → ValidAll fs (allowance - 1) → Here words at ((function_piece (Function.function p fs)).words to)
        → Seeks (begins_at place (placed (Function.function p fs) at to (record { bytes = bytes; span = around }))) (at + length ((to_lines p fs).words to)) r
    unfolding placed begins_at
    inside all p fs to bytes v h =
        let to' = to + length (to_functions p fs).text in
        let l : Here words at ((to_lines p fs).words to) = here_left ((to_lines p fs).words to) _ (rw ((function_debug p fs).words to) at h) in
        let d : a ≡ at + length ((to_functions p fs).words to) = (w p fs).past to (here_left ((to_functions p fs).words to) _ l) in
        let i : Here words a ((children_piece fs).words to') = rw d (here_right ((to_functions p fs).words to) _ l) in
        let c : count fs ≡ n = sym (here_get (count fs) _ i) ∙ sym e in
        let j : q ≡ a + 1 = k.skips (count fs ∷ []) refl (here_left (count fs ∷ []) _ i) in
        let g : Here words q ((function_pieces fs).words to') = rw (j, ← add-zero to') (here_right (count fs ∷ []) _ i) in
        let b : at + length ((to_lines p fs).words to) ≡ q + length ((function_pieces fs).words to') =
        rw (j, d, length-append ((to_functions p fs).words to) ((children_piece fs).words to'), add-zero to') (omega arith) in
        rw (ne_eqb place at z, b, ← d, ← j, ← own_here s p fs to h) (all.seeks fs to' (filled bytes p.source) v c g)

    -- the loop finds it before item i + 1
    pub search_inside : {z : SourceSpan} → i < n → ((f : Function) → Valid f (allowance - 1) → Search words place own f b (Break z)) → (f : Function) → Valid f allowance → Search words place around f at (Break z)
    search_inside {z} h one (Function.function p fs) v =
        let all : SearchAll words place own (allowance - 1) n q (Break z) = loop_stop h l (λ m. search_next one m (Break z) (λ y e. refl) (λ b e. absurd cc)) in
        record { seeks = λ to bytes h. by (begins_at place (placed (Function.function p fs) at to (record { bytes = bytes; span = around }))) _ _ (inside all p fs to bytes (valid_inside o p fs v) h) }
      where
        by : (x : Option Placed) (end end' : ℕ) → Seeks x end (Break z) → Seeks x end' (Break z)
        by none end end' y = absurd cc
        by (some x) end end' y = y

    -- it finds it in none
    pub search_outside : {x : ℕ} → n ≤ i → ((d : Debug) → Past words (debug_piece d) b x) → (f : Function) → Valid f allowance → Search words place around f at (Continue x)
    search_outside {x} h g (Function.function p fs) v =
        record {
          seeks = λ to bytes j. by to j (begins_at place (placed (Function.function p fs) at to (record { bytes = bytes; span = around }))) (inside (loop_end h l search_none) p fs to bytes (valid_inside o p fs v) j);
        }
      where
        by : (to : ℕ) → Here words at ((function_piece (Function.function p fs)).words to) → (y : Option Placed) → Seeks y (at + length ((to_lines p fs).words to)) (Continue b)
            → Seeks y (at + length ((function_piece (Function.function p fs)).words to)) (Continue x)
        by to h (some y) k = absurd cc
        by to h none k =
            let to' = to + length (to_lines p fs).text in
            let m : b ≡ at + length ((to_lines p fs).words to) = same_Continue _ _ k in
            let l : Here words at ((to_lines p fs).words to ++ (debug_piece p.debug).words to') = rw ((function_debug p fs).words to) at h in
            let e : x ≡ b + length ((debug_piece p.debug).words to') = (g p.debug).past to' (rw m (here_right ((to_lines p fs).words to) _ l)) in
            ap Continue (e ∙ rw (m, (function_debug p fs).words to, length-append ((to_lines p fs).words to) ((debug_piece p.debug).words to')) (add_assoc _ _ _))
