-- Lists read item by item.
use Rattle.std.specs.Prelude.{Result, Ok, Err}
use Rattle.lent.proofs.Prelude.{ℕ, suc, ◌+◌, ◌≤◌, ◌<◌, ◌≡◌, refl, ◌∙◌, ap, List, [], ◌∷◌, map, Bool, arith, length, length-map}
use Rattle.format.specs.Tree.{Functions, count}
use Rattle.format.specs.Read.{Reader, ◌>>=◌, return, many, many_functions, load_count, load_function}
use Rattle.format.specs.Store.{Piece, plain, word, ◌⊕◌, pieces, list, function_pieces}
use Rattle.format.specs.Undump.{repaired_all}
use Rattle.format.specs.declared.Refusal.{Refusal}
use Rattle.load.specs.declared.Loader.{Loader}
use Rattle.load.specs.Loads.{space, Does, LoadsBy, Loads}
use Rattle.load_function.specs.Repaired.{repaired_function}
use Rattle.format.proofs.Loops.{Loop, loop_start, loop_turn, loop_stop, loop_end}
use Rattle.load.proofs.Steps.{loads_then, loads_refused, loads_mapped, loads_weaken, loads_done, at_width}
use Rattle.load.proofs.Stores.{nothing, join}

-- items of type A that R reads, at a width of sizes, are read n at a time, to an L of n items, stored one after the other
pub record Listing {A L : Type 0} (R : Bool → Reader A) (Many : Bool → ℕ → Reader L) (size : L → ℕ) (piece : A → Piece) (all : L → Piece) : Type 0 where
  pub nil : L
  pub cons : A → L → L
  pub none : (w : Bool) → (Many w 0 ≡ return nil) × (size nil ≡ 0) × (all nil ≡ plain [])
  pub more : (w : Bool) (n : ℕ) → Many w (suc n) ≡ (R w >>= λ a. Many w n >>= λ rest. return (cons a rest))
  pub cell : (a : A) (l : L) → (size (cons a l) ≡ suc (size l)) × (all (cons a l) ≡ piece a ⊕ all l)

-- items that are changed by g before they are stored
pub items : {A B : Type 0} (R : Bool → Reader A) (g : A → B) (piece : B → Piece) → Listing R (λ w. many (R w)) (λ l. length (map g l)) (λ a. piece (g a)) (λ l. pieces piece (map g l))
unfolding many pieces
items R g piece = record { nil = []; cons = λ a l. a ∷ l; none = λ w. (refl, refl, refl); more = λ w n. refl; cell = λ a l. (refl, refl) }

-- items as they are
pub plain_items : {A : Type 0} (R : Bool → Reader A) (piece : A → Piece) → Listing R (λ w. many (R w)) length piece (pieces piece)
unfolding many pieces
plain_items R piece = record { nil = []; cons = λ a l. a ∷ l; none = λ w. (refl, refl, refl); more = λ w n. refl; cell = λ a l. (refl, refl) }

pub function_items : (allowance : ℕ) → Listing (λ w. load_function w allowance) (λ w. many_functions (load_function w allowance)) (λ fs. count (repaired_all fs)) repaired_function (λ fs. function_pieces (repaired_all fs))
unfolding many_functions count function_pieces repaired_all
function_items allowance = record { nil = Functions.none; cons = λ f fs. Functions.more f fs; none = λ w. (refl, refl, refl); more = λ w n. refl; cell = λ f fs. (refl, refl) }

-- where the reader ends, and how
pub record End : Type 0 where
  pub at : Loader
  pub answer : Result (Unit {0}) Refusal

-- n items are read from σ on
abbrev pub LoadsAll : {L : Type 0} → (Bool → ℕ → Reader L) → (L → ℕ) → (L → Piece) → ℕ → Loader → End → Type 0
LoadsAll Many size all n σ e = LoadsBy (Many σ.reader.size_4 n) (λ l (b : Unit {0}). (size l ≡ n) × Does (all l) (space σ) (space e.at)) σ e.at e.answer

-- the loop that reads n items, begun at σ₀, stands at σ before item i
pub record Loading {L : Type 0} (Many : Bool → ℕ → Reader L) (size : L → ℕ) (all : L → Piece) (n : ℕ) (σ₀ : Loader) (i : ℕ) (σ : Loader) : Type 0 where
  pub within : i ≤ n
  pub loop : Loop (LoadsAll Many size all) n σ₀ i σ
  pub none : (ρ : Loader) → LoadsAll Many size all 0 ρ (record { at = ρ; answer = Ok tt })

-- a count is read and stored
abbrev pub Counts : ℕ → Loader → Loader → Type 0
Counts n σ m = LoadsBy load_count (λ a (b : ℕ). (a ≡ b) × Does (word a) (space σ) (space m)) σ m (Ok n)

-- a count, and as many items
counted : {L : Type 0} {size : L → ℕ} {all : L → Piece} {n : ℕ} {σ m : Loader} {e : End} (Many : Bool → ℕ → Reader L)
    → Counts n σ m → LoadsAll Many size all n m e → Loads (load_count >>= Many σ.reader.size_4) (λ l. word (size l) ⊕ all l) σ e.at e.answer
counted Many c t = loads_then _ c (λ a d. at_width (λ w. Many w a) c.same (rw d.0 (loads_weaken (λ l b f. rw f.0 (join (rw d.0 at d.1) f.1)) t)))

module _ {A L : Type 0} {R : Bool → Reader A} {Many : Bool → ℕ → Reader L} {size : L → ℕ} {piece : A → Piece} {all : L → Piece}
    (laws : Listing R Many size piece all) {n : ℕ} where
  pub loading_start : {σ : Loader} → Loading Many size all n σ 0 σ
  loading_start = record { within = omega arith; loop = loop_start; none = λ ρ. rw (laws.none ρ.reader.size_4).0 (loads_done laws.nil tt ((laws.none ρ.reader.size_4).1, rw (laws.none ρ.reader.size_4).2 nothing)) }

  pub loading_turn : {i : ℕ} {σ₀ σ m : Loader} → Loading Many size all n σ₀ i σ → i < n → Loads (R σ.reader.size_4) piece σ m (Ok tt) → Loading Many size all n σ₀ (i + 1) m
  loading_turn {σ = σ} {m = m} h k d = record { within = omega arith; loop = loop_turn k h.loop more; none = h.none }
    where
      more : (k : ℕ) (e : End) → LoadsAll Many size all k m e → LoadsAll Many size all (suc k) σ e
      more k e t =
          rw (laws.more σ.reader.size_4 k)
          (loads_then _ d (λ a f. loads_mapped {P = λ l (b : Unit {0}). (size l ≡ k) × Does (all l) (space m) (space e.at)} (λ l. laws.cons a l) (λ l b g. ((laws.cell a l).0 ∙ ap suc g.0, rw (laws.cell a l).1 (join f g.1))) (at_width (λ w. Many w k) d.same t)))

  -- a refusal ends it at once
  pub loading_refused : {i : ℕ} {e : Refusal} {σ σ₀ τ m : Loader} → Counts n σ σ₀ → Loading Many size all n σ₀ i τ → i < n → Loads (R τ.reader.size_4) piece τ m (Err e)
      → Loads (load_count >>= Many σ.reader.size_4) (λ l. word (size l) ⊕ all l) σ m (Err e)
  loading_refused {e = e} {τ = τ} {m = m} c h k d = counted {e = record { at = m; answer = Err e }} Many c (loop_stop k h.loop (λ j. rw (laws.more τ.reader.size_4 j) (loads_refused _ d)))

pub loading_end : {L : Type 0} {Many : Bool → ℕ → Reader L} {size : L → ℕ} {all : L → Piece} {n i : ℕ} {σ σ₀ τ : Loader} → Counts n σ σ₀ → Loading Many size all n σ₀ i τ → n ≤ i
    → Loads (load_count >>= Many σ.reader.size_4) (λ l. word (size l) ⊕ all l) σ τ (Ok tt)
loading_end {Many = Many} {τ = τ} c h k = counted {e = record { at = τ; answer = Ok tt }} Many c (loop_end k h.loop (h.none τ))

-- items that are changed by g before they are stored
pieces_map : {A B : Type 0} (g : A → B) (piece : B → Piece) (l : List A) → pieces (λ a. piece (g a)) l ≡ pieces piece (map g l)
unfolding pieces
pieces_map g piece [] = refl
pieces_map g piece (a ∷ l) = rw (pieces_map g piece l)

pub list_map : {A B : Type 0} (g : A → B) (piece : B → Piece) (l : List A) → list (λ a. piece (g a)) l ≡ list piece (map g l)
list_map g piece l = rw (length-map, pieces_map g piece l)
