-- Each function that function_at finds stands in the store, well formed, and its source stands where its span says. So source_at and source answer as defined.
use Rattle.lent.proofs.Prelude.{ℕ, zero, suc, ◌+◌, ◌-◌, ◌≤◌, ◌<◌, ◌≡◌, refl, sym, ap, ◌∙◌, List, [], ◌∷◌, Bool, true, false, cond, none, some, arith, add-zero, length, take-length, eqb, eqb-true}
use Rattle.std.specs.Prelude.{Result, Ok, Err}
use Rattle.std.specs.Option.{ok_or}
use Rattle.std.specs.ControlFlow.{break_value}
use Rattle.std.specs.declared.ops.ControlFlow.{ControlFlow}
use Rattle.lent.specs.Memory.{Every}
use Rattle.lent.proofs.Lists.{every_append}
use Rattle.format.specs.Tree.{Source, Parts, Function, Functions, count}
use Rattle.format.specs.Store.{word, source_piece, debug_piece, function_piece, function_pieces, children_piece}
use Rattle.format.specs.Stored.{part, tree_of}
use Rattle.format.specs.Undump.{name_ok}
use Rattle.format.specs.Valid.{depth, Valid, ValidAll, Holds}
use Rattle.format.specs.Dump.{on_tree, name_refusal, store_refusal}
use Rattle.format.specs.Refusal.{number}
use Rattle.format.specs.declared.Refusal.{Refusal}
use Rattle.format.specs.declared.Refusal.TheVariants.{NoFunction}
use Rattle.format.proofs.Refusals.{refusal_above, name_good, by_name}
use Rattle.format.proofs.Stored.{here_part, tree_holds, holds_tree}
use Rattle.proto.specs.declared.place.SourceSpan.{SourceSpan}
use Rattle.proto.specs.declared.place.SourceSpan.TheVariants.{Text, Name}
use Rattle.proto.specs.declared.place.SourceAt.{SourceAt}
use Rattle.proto.specs.Walk.{Stands, to_functions, to_lines}
use Rattle.proto.specs.Places.{Filled, filled_in, chunk_name, Placed, placed, placed_all, begins_at, function_at, Seeks, Search, on_function, on_place, place_refusal, no_source, span_answer, source_result, found_answer, source_answer, source_part}
use Rattle.proto.proofs.Pieces.{function_debug, stands_same, stands_left, stands_right}
use Rattle.proto.proofs.Stores.{held_tree, no_tree}
use Rattle.proto.proofs.Items.{source_stands}
use Rattle.proto.proofs.Calls.{root_stands}

-- ---- what stands in a store

-- the bytes at a span
abbrev pub at_span : List ℕ → List ℕ → SourceSpan → List ℕ
at_span text name (Text start end) = part text start (end - start)
at_span text name (Name start end) = part name start (end - start)

-- a source stands where its span says
pub record Sourced (text name source : List ℕ) (z : SourceSpan) : Type 0 where
  pub ordered : (span_answer z).start ≤ (span_answer z).end
  pub is : at_span text name z ≡ source

-- a function that begins at a place stands there, with at most so many nested
pub record PlacedIn (words text name : List ℕ) (allowance : ℕ) (x : Placed) : Type 0 where
  pub to : ℕ
  pub stands : Stands words text x.place to (function_piece x.function)
  pub valid : Valid x.function allowance
  pub sourced : Sourced text name x.source.bytes x.source.span

-- a greater allowance does not harm
mutual
  unfolding Valid

  pub valid_suc : (f : Function) (n : ℕ) → Valid f n → Valid f (suc n)
  valid_suc (Function.function p fs) zero v = absurd v
  valid_suc (Function.function p fs) (suc n) v = (v.0, v.1, all_suc fs n v.2)

  pub all_suc : (fs : Functions) (n : ℕ) → ValidAll fs n → ValidAll fs (suc n)
  all_suc Functions.none n v = tt
  all_suc (Functions.more f fs) n v = (valid_suc f n v.0, all_suc fs n v.1)

named_sourced : (text name : List ℕ) → Sourced text name (chunk_name name).bytes (chunk_name name).span
named_sourced text name = let e : length name - 0 ≡ length name = omega arith in record { ordered = omega arith; is = rw e (take-length name) }

module _ {words text : List ℕ} (name : List ℕ) where
  filled_sourced : {at to : ℕ} (around : Filled) (s : Source) → Stands words text at to (source_piece s) → Sourced text name around.bytes around.span
      → Sourced text name (filled_in around to s).bytes (filled_in around to s).span
  filled_sourced around Source.inherited h k = k
  filled_sourced {to = to} around (Source.own s) h k =
      let e : to + length s - to ≡ length s = omega arith in
      record { ordered = omega arith; is = rw e (here_part s h.in_text) }

-- where a function stands, the functions in it stand
pub stands_children : {words text : List ℕ} {at to : ℕ} (p : Parts) (fs : Functions) → Stands words text at to (function_piece (Function.function p fs))
    → Stands words text (at + length ((to_functions p fs).words to) + 1) (to + length (to_functions p fs).text) (function_pieces fs)
stands_children {words} {text} {at} {to} p fs h =
    let l = stands_right (to_functions p fs) (children_piece fs) (stands_left (to_lines p fs) (debug_piece p.debug) (stands_same (function_debug p fs) h)) in
    rw (← add-zero (to + length (to_functions p fs).text)) (stands_right (word (count fs)) (function_pieces fs) l)

module _ {words text : List ℕ} (name : List ℕ) (allowance : ℕ) where
  mutual
    unfolding placed Valid Every function_pieces

    placed_stands : (f : Function) (n at to : ℕ) (around : Filled) → Valid f n → ((g : Function) → Valid g n → Valid g allowance)
        → Stands words text at to (function_piece f) → Sourced text name around.bytes around.span → Every (PlacedIn words text name allowance) (placed f at to around)
    placed_stands (Function.function p fs) zero at to around v up h k = absurd v
    placed_stands (Function.function p fs) (suc n) at to around v up h k =
        let j = filled_sourced name around p.source (source_stands p fs h) k in (
          record { to = to; stands = h; valid = up (Function.function p fs) v; sourced = j },
          all_stand fs n _ _ _ v.2 (λ g w. up g (valid_suc g n w)) (stands_children p fs h) j,
        )

    all_stand : (fs : Functions) (n at to : ℕ) (around : Filled) → ValidAll fs n → ((g : Function) → Valid g n → Valid g allowance)
        → Stands words text at to (function_pieces fs) → Sourced text name around.bytes around.span → Every (PlacedIn words text name allowance) (placed_all fs at to around)
    all_stand Functions.none n at to around v up h k = tt
    all_stand (Functions.more f fs) n at to around v up h k =
        every_append (PlacedIn words text name allowance) (placed f at to around) _
        (placed_stands f n at to around v.0 up (stands_left (function_piece f) (function_pieces fs) h) k)
        (all_stand fs n _ _ around v.1 up (stands_right (function_piece f) (function_pieces fs) h) k)

begins_every : (P : Placed → Type 0) (place : ℕ) (l : List Placed) (x : Placed) → Every P l → begins_at place l ≡ some x → P x × (x.place ≡ place)
unfolding begins_at Every
begins_every P place [] x h e = let z : ◌≡◌ {A = ℕ} 0 1 = cc in absurd (omega arith)
begins_every P place (y ∷ l) x h e =
    (elim (eqb place y.place) as (λ t. eqb place y.place ≡ t → cond t (some y) (begins_at place l) ≡ some x → P x × (x.place ≡ place)) [
      | true ↦ λ q d. let s : y ≡ x = cc in (rw s at h.0, rw (← s) (sym (eqb-true place y.place q)))
      | false ↦ λ q d. begins_every P place l x h.1 d
    ]) refl e

-- ==== the statement: where function_at finds a function, it stands there

pub function_stands : {words text : List ℕ} (name : List ℕ) {f : Function} (place : ℕ) (x : Placed) → Holds words text f → function_at f name place ≡ some x → PlacedIn words text name depth x × (x.place ≡ place)
function_stands {text = text} name {f} place x h e =
    begins_every _ place (placed f 0 0 (chunk_name name)) x (placed_stands name depth f depth 0 0 (chunk_name name) h.valid (λ g v. v) (root_stands h) (named_sourced text name)) e

-- ---- the calls

-- the answer for what the search finds
abbrev sought_answer : ControlFlow SourceSpan ℕ → SourceAt
sought_answer r = source_result (ok_or (break_value r) NoFunction)

-- a call on a function of a store
abbrev called : {A : Type 0} → (ℕ → A) → (Placed → A) → List ℕ → List ℕ → List ℕ → ℕ → A
called refuse answer words text name place = on_tree refuse (λ f. on_function refuse answer (function_at f name place)) (tree_of words text)

-- it is refused, whatever it gives then, or finds a function
called_by : (words text name : List ℕ) (place : ℕ) {P : Type 0} → ((n : ℕ) → 0 < n → ((A : Type 0) (refuse : ℕ → A) (answer : Placed → A) → called refuse answer words text name place ≡ refuse n) → P)
    → ((f : Function) (x : Placed) → Holds words text f → function_at f name place ≡ some x → P) → P
called_by words text name place {P} refused found = (elim (tree_of words text) as (λ t. tree_of words text ≡ t → P) [
  | none ↦ λ t. refused 10 (omega arith) (λ A refuse answer. rw t)
  | some f ↦ λ t. (elim (function_at f name place) as (λ x. function_at f name place ≡ x → P) [
    | none ↦ λ e. refused 12 (omega arith) (λ A refuse answer. rw (t, e))
    | some x ↦ λ e. found f x (tree_holds words text f t) e
  ]) refl
]) refl

module _ (words text name : List ℕ) (place : ℕ) where
  pub find_refused : (e : Refusal) → number e ≡ store_refusal words text → no_source (number e) ≡ found_answer words text name place
  unfolding found_answer
  find_refused e h =
      no_tree words text (λ t. no_source (number e) ≡ on_tree no_source (λ f. on_function no_source (λ x. span_answer x.source.span) (function_at f name place)) t) (refusal_above e) h (λ k. rw k)

  -- what the search finds
  pub find_sought : {r : ControlFlow SourceSpan ℕ} → 0 ≡ store_refusal words text → ((f : Function) → Valid f depth → Search words place (chunk_name name).span f 0 r)
      → sought_answer r ≡ found_answer words text name place
  unfolding found_answer
  find_sought {r} e s =
      held_tree words text (λ t. sought_answer r ≡ on_tree no_source (λ f. on_function no_source (λ x. span_answer x.source.span) (function_at f name place)) t) e
      (λ f t.
      (elim (function_at f name place) as (λ o. Seeks o (0 + length ((function_piece f).words 0)) r → sought_answer r ≡ on_function no_source (λ x. span_answer x.source.span) o) [
        | none ↦ λ k. rw k
        | some y ↦ λ k. rw k
      ])
      ((s f t.valid).seeks 0 name (root_stands t).in_words))

span_0 : (z : SourceSpan) → (span_answer z).refusal ≡ 0
span_0 (Text a b) = refl
span_0 (Name a b) = refl

-- the refusal of a call on a place
place_found : (words text : List ℕ) (place : ℕ) → (found_answer words text [] place).refusal ≡ place_refusal words text place
unfolding found_answer place_refusal
place_found words text place =
    called_by words text [] place
    (λ n h k. rw (k SourceAt no_source (λ x. span_answer x.source.span), k ℕ (λ n. n) (λ x. 0)))
    (λ f x h b. rw (holds_tree h, b) (span_0 x.source.span))

-- of what was found, or is refused
pub place_here : {name : List ℕ} (words text : List ℕ) (place : ℕ) (z : SourceSpan) → name ≡ [] → source_result (Ok z) ≡ found_answer words text name place → 0 ≡ place_refusal words text place
place_here words text place z n e = sym (span_0 z) ∙ ap (λ (a : SourceAt). a.refusal) (rw n at e) ∙ place_found words text place

pub place_refused : {name : List ℕ} (words text : List ℕ) (place : ℕ) (e : Refusal) → name ≡ [] → source_result (Err e) ≡ found_answer words text name place → number e ≡ place_refusal words text place
place_refused words text place x n e = ap (λ (a : SourceAt). a.refusal) (rw n at e) ∙ place_found words text place

-- what a call on the function at a place finds, where it is not refused
pub record On (words text : List ℕ) (place : ℕ) : Type 0 where
  pub tree : Function
  pub function : Placed
  pub holds : Holds words text tree
  pub begins : function_at tree [] place ≡ some function

pub place_on : (words text : List ℕ) (place : ℕ) → place_refusal words text place ≡ 0 → On words text place
unfolding place_refusal
place_on words text place e =
    called_by words text [] place (λ n h k. absurd (omega (arith, k ℕ (λ n. n) (λ x. 0)))) (λ f x h b. record { tree = f; function = x; holds = h; begins = b })

-- what relates two calls where they are refused, and on the function found, relates what they give
pub on_related : {A B : Type 0} (R : A → B → Type 0) (refuse : ℕ → A) (refuse' : ℕ → B) (answer : Placed → A) (answer' : Placed → B) (words text : List ℕ) (place : ℕ)
    → ((n : ℕ) → 0 < n → R (refuse n) (refuse' n)) → ((o : On words text place) → R (answer o.function) (answer' o.function)) → R (on_place refuse answer words text place) (on_place refuse' answer' words text place)
on_related {A} {B} R refuse refuse' answer answer' words text place f g =
    called_by words text [] place (λ n h k. rw (k A refuse answer, k B refuse' answer') (f n h)) (λ t x h b. rw (holds_tree h, b) (g (record { tree = t; function = x; holds = h; begins = b })))

module _ {A : Type 0} (refuse : ℕ → A) (answer : Placed → A) where
  pub on_answer : {words text : List ℕ} {place : ℕ} (o : On words text place) → on_place refuse answer words text place ≡ answer o.function
  on_answer o = rw (holds_tree o.holds, o.begins)

  pub on_refused : (words text : List ℕ) (place : ℕ) → (place_refusal words text place ≡ 0 → ⊥) → on_place refuse answer words text place ≡ refuse (place_refusal words text place)
  unfolding place_refusal
  on_refused words text place = on_related (λ a n. (n ≡ 0 → ⊥) → a ≡ refuse n) refuse (λ n. n) answer (λ x. 0) words text place (λ n h z. refl) (λ o z. absurd (z refl))

-- where a source stands, or none
abbrev pub Gives : List ℕ → List ℕ → List ℕ → Result SourceSpan Refusal → Type 0
Gives text name source (Ok z) = Sourced text name source z
Gives text name source (Err e) = [] ≡ source

span_same : (z s : SourceSpan) → span_answer z ≡ span_answer s → z ≡ s
span_same (Text a b) (Text c d) e = let i : a ≡ c = ap (λ (x : SourceAt). x.start) e in let j : b ≡ d = ap (λ (x : SourceAt). x.end) e in rw (i, j)
span_same (Name a b) (Name c d) e = let i : a ≡ c = ap (λ (x : SourceAt). x.start) e in let j : b ≡ d = ap (λ (x : SourceAt). x.end) e in rw (i, j)
span_same (Text a b) (Name c d) e = let i : 1 ≡ 0 = ap (λ (x : SourceAt). x.in_text) e in absurd (omega (arith, i))
span_same (Name a b) (Text c d) e = let i : 0 ≡ 1 = ap (λ (x : SourceAt). x.in_text) e in absurd (omega (arith, i))

module _ (words text name : List ℕ) (place : ℕ) where
  pub name_refused : (e : Refusal) → number e ≡ name_refusal name → no_source (number e) ≡ source_answer words text name place
  unfolding source_answer
  name_refused e h = by_name name no_source _ (refusal_above e) h

  pub source_found : {a : SourceAt} → 0 ≡ name_refusal name → a ≡ found_answer words text name place → a ≡ source_answer words text name place
  unfolding source_answer
  source_found e q = q ∙ rw (name_good name e)

  -- what source_at answers leads to what source gives
  pub source_part_law : (r : Result SourceSpan Refusal) → source_result r ≡ source_answer words text name place → Gives text name (source_part words text name place) r
  unfolding found_answer source_answer source_part
  source_part_law r = by_name (name_ok name)
    where
      none : (r : Result SourceSpan Refusal) (n : ℕ) → 0 < n → source_result r ≡ no_source n → Gives text name [] r
      none (Ok (Text a b)) n l e = let i : 0 ≡ n = ap (λ (x : SourceAt). x.refusal) e in absurd (omega (arith, i))
      none (Ok (Name a b)) n l e = let i : 0 ≡ n = ap (λ (x : SourceAt). x.refusal) e in absurd (omega (arith, i))
      none (Err x) n l e = refl

      there : (r : Result SourceSpan Refusal) (x : Filled) → Sourced text name x.bytes x.span → source_result r ≡ span_answer x.span → Gives text name x.bytes r
      there (Ok z) x k e = rw (span_same z x.span e) k
      there (Err u) x k e = let i : number u ≡ (span_answer x.span).refusal = ap (λ (x : SourceAt). x.refusal) e in absurd (omega (arith, refusal_above u, i, span_0 x.span))

      by_name : (b : Bool) → source_result r ≡ cond b (called no_source (λ x. span_answer x.source.span) words text name place) (no_source 1)
          → Gives text name (cond b (called (λ n. []) (λ x. x.source.bytes) words text name place) []) r
      by_name false e = none r 1 (omega arith) e
      by_name true e =
          called_by words text name place
          (λ n h k. rw (k (List ℕ) (λ n. []) (λ x. x.source.bytes)) (none r n h (e ∙ k SourceAt no_source (λ x. span_answer x.source.span))))
          (λ f x h b. rw (holds_tree h, b) (there r x.source (function_stands name place x h b).0.sourced (e ∙ rw (holds_tree h, b))))

  -- the end that it answers is not before the start
  pub source_ordered : {a : SourceAt} → a ≡ source_answer words text name place → a.start ≤ a.end
  unfolding found_answer source_answer
  source_ordered e = rw e (by_name (name_ok name))
    where
      by_name : (b : Bool) → let a = cond b (called no_source (λ x. span_answer x.source.span) words text name place) (no_source 1) in a.start ≤ a.end
      by_name false = omega arith
      by_name true =
          called_by words text name place
          (λ n h k. rw (k SourceAt no_source (λ x. span_answer x.source.span)) (omega arith))
          (λ f x h b. rw (holds_tree h, b) (function_stands name place x h b).0.sourced.ordered)
