-- The functions in a function: where each begins, and its number.
use Rattle.lent.proofs.Prelude.{ℕ, zero, suc, ◌+◌, ◌-◌, ◌≤◌, ◌<◌, min, ◌≡◌, refl, sym, ap, ◌∙◌, List, [], ◌∷◌, none, some, arith, add-zero}
use Rattle.lent.specs.Memory.{far}
use Rattle.format.specs.Tree.{Function, Functions, count}
use Rattle.format.specs.Store.{word, ◌⊕◌, function_piece, function_pieces, children_piece}
use Rattle.format.specs.Valid.{Valid, ValidAll}
use Rattle.format.proofs.Stored.{here_left}
use Rattle.proto.specs.declared.walk.Next.{Next}
use Rattle.proto.specs.declared.child.Children.{Children}
use Rattle.proto.specs.Walk.{Stands, StandsAt, item, children, Skips, total_all, total_before, Passes, PassesAll}
use Rattle.proto.specs.Children.{child_number, counted, first, ChildAt}
use Rattle.proto.proofs.Sublists.{here_get}
use Rattle.proto.proofs.Pieces.{Same, same_sym, same_trans, same_behind, same_assoc, stands_same, stands_left, stands_right}
use Rattle.proto.proofs.Walks.{past_stands, passes_past, passes_same, passes_then, all_none}
use Rattle.proto.proofs.Items.{item_past, item_there}
use Rattle.proto.proofs.Stores.{children_count}

-- ---- the first i functions, and those behind them

pub record Split (fs : Functions) (i : ℕ) : Type 0 where
  pub before : Functions
  pub behind : Functions
  pub many : count before ≡ i
  pub number : total_all before ≡ total_before fs i
  pub all : total_all fs ≡ total_all before + total_all behind
  pub left : count fs ≡ i + count behind
  pub pieces : Same (function_pieces fs) (function_pieces before ⊕ function_pieces behind)
  pub valid : (n : ℕ) → ValidAll fs n → ValidAll before n × ValidAll behind n
  pub items : item (children fs) i ≡ item (children behind) 0

before_none : (fs : Functions) → total_before fs 0 ≡ 0
unfolding total_before
before_none Functions.none = refl
before_none (Functions.more f fs) = refl

pub split : (fs : Functions) (i : ℕ) → i ≤ count fs → Split fs i
unfolding item children count total_all total_before function_pieces ValidAll
split fs zero h =
    record {
      before = Functions.none;
      behind = fs;
      many = refl;
      number = sym (before_none fs);
      all = omega arith;
      left = omega arith;
      pieces = record { words = λ to. rw add-zero; text = refl };
      valid = λ n v. (tt, v);
      items = refl;
    }
split Functions.none (suc i) h = absurd (omega arith)
split (Functions.more g fs) (suc i) h =
    let s = split fs i (omega arith) in
    record {
      before = Functions.more g s.before;
      behind = s.behind;
      many = ap suc s.many;
      number = rw s.number;
      all = omega (arith, s.all);
      left = omega (arith, s.left);
      pieces = same_trans (same_behind (function_piece g) s.pieces) (same_sym (same_assoc (function_piece g) (function_pieces s.before) (function_pieces s.behind)));
      valid = λ n v. let w = s.valid n v.1 in ((v.0, w.0), w.1);
      items = s.items;
    }

-- past i functions, then past j
pub all_then : {words : List ℕ} {allowance i j : ℕ} {s m r : Next} → PassesAll words allowance i s m → PassesAll words allowance j m r → PassesAll words allowance (i + j) s r
all_then {allowance = allowance} {i} w v =
    record {
      all = λ fs k e.
          let x = split fs i (omega arith) in
          let y = x.valid allowance k in
          passes_same (same_sym x.pieces) (sym x.all) (passes_then (w.all x.before y.0 x.many) (v.all x.behind y.1 (omega (arith, x.left))));
    }

-- ---- from the first function to one behind it

module _ {c : Children} where
  pub child_first : {n : Next} → Skips c.words.now 1 c.list n.at × (n.number ≡ min (c.number + 1) far) → ChildAt c 0 n
  child_first k = record { passes = λ n h. let d = k.0.skips (n ∷ []) refl h in rw (d, k.1) all_none }

  pub child_further : {i j : ℕ} {n r : Next} → j ≤ i → ChildAt c j n → PassesAll c.words.now c.allowance (i - j) n r → ChildAt c i r
  child_further {i} {j} h x w = let e : j + (i - j) ≡ i = omega arith in record { passes = λ n k. rw e at (all_then (x.passes n k) w) }

-- ---- the functions of a list that stands there, looked up by an index

-- none with an index
pub child_past : (c : Children) {text : List ℕ} {i : ℕ} (fs : Functions) → StandsAt c.words.now text c.list (children_piece fs) → counted c ≤ i → item (children fs) i ≡ none
child_past c {i = i} fs h p = item_past (children fs) i (omega (arith, here_get (count fs) _ h.stands.in_words, children_count fs))

-- the one with an index: what stands at its place, and its number
pub record Child (c : Children) (text : List ℕ) (fs : Functions) (i : ℕ) (n : Next) : Type 0 where
  pub function : Function
  pub is : item (children fs) i ≡ some function
  pub stands : StandsAt c.words.now text n.at (function_piece function)
  pub valid : Valid function c.allowance
  pub numbered : c.number + 1 + total_all fs ≤ far → n.number ≡ child_number c.number fs i

module _ {c : Children} {text : List ℕ} {i : ℕ} {n : Next} (fs : Functions) (h : StandsAt c.words.now text c.list (children_piece fs)) (v : ValidAll fs c.allowance) (b : i ≤ counted c) (w : ChildAt c i n) where
  within : i ≤ count fs
  within = omega (arith, here_get (count fs) _ h.stands.in_words)

  at_index : Split fs i
  at_index = split fs i within

  passes : PassesAll c.words.now c.allowance i (first c) n
  passes = w.passes (count fs) (here_left (count fs ∷ []) _ h.stands.in_words)

  begin : Stands c.words.now text (c.list + 1) (h.to + 0) (function_pieces at_index.before ⊕ function_pieces at_index.behind)
  begin = stands_same at_index.pieces (stands_right (word (count fs)) (function_pieces fs) h.stands)

  passed : Passes c.words.now (function_pieces at_index.before) (total_all at_index.before) (first c) n
  passed = passes.all at_index.before (at_index.valid c.allowance v).0 at_index.many

  -- the one with the index has this number; behind the last it is that of the next one
  pub child_numbered : c.number + 1 + total_all fs ≤ far → n.number ≡ child_number c.number fs i
  child_numbered k =
      let m = (passed.passes _ (stands_left (function_pieces at_index.before) (function_pieces at_index.behind) begin).in_words).1 in
      omega (arith, m (omega arith), at_index.number, at_index.all)

module _ {c : Children} {text : List ℕ} {i : ℕ} {n : Next} (fs : Functions) (h : StandsAt c.words.now text c.list (children_piece fs)) (v : ValidAll fs c.allowance) (b : i < counted c) (w : ChildAt c i n) where
  up_to : i ≤ counted c
  up_to = omega arith

  pub child_stands : Child c text fs i n
  unfolding item children function_pieces ValidAll
  child_stands =
      let s = at_index fs h v up_to w in
      let y = item_there (children fs) i (omega (arith, here_get (count fs) _ h.stands.in_words, children_count fs)) in
      let x = go y.value s.behind (s.valid c.allowance v).1 (sym s.items ∙ y.is) (past_stands {p = function_pieces s.before} {q = function_pieces s.behind} (passes_past (passed fs h v up_to w)) (begin fs h v up_to w)) in
      record { function = y.value; is = y.is; stands = x.0; valid = x.1; numbered = child_numbered fs h v up_to w }
    where
      go : (f : Function) (gs : Functions) {to : ℕ} → ValidAll gs c.allowance → item (children gs) 0 ≡ some f → Stands c.words.now text n.at to (function_pieces gs) → StandsAt c.words.now text n.at (function_piece f) × Valid f c.allowance
      go f Functions.none v e s = let z : ◌≡◌ {A = ℕ} 0 1 = cc in absurd (omega arith)
      go f (Functions.more g gs) v e s =
          let q : g ≡ f = cc in
          rw (← q) (record { to = _; stands = stands_left (function_piece g) (function_pieces gs) s }, v.0)
