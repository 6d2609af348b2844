-- Steps of the reader, one after the other.
use Rattle.std.specs.Prelude.{Result, Ok, Err}
use Rattle.std.specs.Result.{IsErrAnd}
use Rattle.std.proofs.lemmas.Result.{err_from_is_err_and}
use Rattle.lent.proofs.Prelude.{ℕ, ◌≡◌, refl, subst, ◌∙◌, List, Bool, true, drop}
use Rattle.format.specs.Read.{Read, Reader, got, refused, and_then, ◌>>=◌, return, load_int, load_size}
use Rattle.format.specs.declared.Refusal.{Refusal}
use Rattle.load_state.specs.ReadAt.{Ends, ReadsBy}
use Rattle.load.specs.declared.Loader.{Loader}
use Rattle.load.specs.Loads.{Same, LoadsBy}

-- ---- at a place

module _ {A B C D : Type 0} {bs : List ℕ} {R : Reader A} {P : A → B → Type 0} {Q : C → D → Type 0} {next : B → ℕ} {next' : D → ℕ} {at : ℕ} (f : A → Reader C) where
  -- a step, and what follows it
  pub reads_then : {b : B} {r : Result D Refusal} → ReadsBy bs R P next at (Ok b) → ((a : A) → P a b → ReadsBy bs (f a) Q next' (next b) r) → ReadsBy bs (R >>= f) Q next' at r
  reads_then {b} {r} h k = record { ends = by (R (drop at bs)) h.ends }
    where
      by : (x : Read A) → Ends x (λ a rest c. (rest ≡ drop (next c) bs) × P a c) (Ok b) → Ends (and_then x f) (λ c rest d. (rest ≡ drop (next' d) bs) × Q c d) r
      by (got a rest) t = rw t.0 (k a t.1).ends
      by (refused n) t = absurd t

  -- its refusal ends it all
  pub reads_refused : {e : Refusal} → ReadsBy bs R P next at (Err e) → ReadsBy bs (R >>= f) Q next' at (Err e)
  reads_refused {e} h = record { ends = by (R (drop at bs)) h.ends }
    where
      by : (x : Read A) → Ends x (λ a rest c. (rest ≡ drop (next c) bs) × P a c) (Err e) → Ends (and_then x f) (λ c rest d. (rest ≡ drop (next' d) bs) × Q c d) (Err e)
      by (got a rest) t = absurd t
      by (refused n) t = t

  -- so does the answer that ? makes of its refusal
  pub reads_refused_with : {e : Refusal} {r : Result D Refusal} → ReadsBy bs R P next at (Err e) → IsErrAnd r (λ x. x ≡ e) → ReadsBy bs (R >>= f) Q next' at r
  reads_refused_with {r = r} h i = let p = err_from_is_err_and r i in rw (p.1, p.2) (reads_refused h)

-- a size of four bytes is an integer
pub size_of_4 : {B : Type 0} {bs : List ℕ} {size4 : Bool} {P : ℕ → B → Type 0} {next : B → ℕ} {at : ℕ} {r : Result B Refusal} → size4 ≡ true → ReadsBy bs load_int P next at r → ReadsBy bs (load_size size4) P next at r
unfolding load_size
size_of_4 e h = rw e h

-- ---- with lent memory

pub same_self : {σ : Loader} → Same σ σ
same_self = record { chunk = refl; size_4 = refl; words = refl; text = refl }

pub same_then : {σ m σ' : Loader} → Same σ m → Same m σ' → Same σ σ'
same_then h k = record { chunk = k.chunk ∙ h.chunk; size_4 = k.size_4 ∙ h.size_4; words = k.words ∙ h.words; text = k.text ∙ h.text }

module _ {A B C D : Type 0} {R : Reader A} {P : A → B → Type 0} {Q : C → D → Type 0} {σ m : Loader} (f : A → Reader C) where
  pub loads_then : {σ' : Loader} {b : B} {r : Result D Refusal} → LoadsBy R P σ m (Ok b) → ((a : A) → P a b → LoadsBy (f a) Q m σ' r) → LoadsBy (R >>= f) Q σ σ' r
  loads_then {σ'} {b} {r} h k =
      record { same = by (R (drop σ.reader.state.pos σ.reader.state.chunk.now)) h.reads.ends; reads = reads_then f h.reads (λ a p. rw h.same.chunk at (k a p).reads) }
    where
      by : (x : Read A) → Ends x (λ a rest c. (rest ≡ drop m.reader.state.pos σ.reader.state.chunk.now) × P a c) (Ok b) → Same σ σ'
      by (got a rest) t = same_then h.same (k a t.1).same
      by (refused n) t = absurd t

  pub loads_refused : {e : Refusal} → LoadsBy R P σ m (Err e) → LoadsBy (R >>= f) Q σ m (Err e)
  loads_refused h = record { same = h.same; reads = reads_refused f h.reads }

-- what is read is changed by g
pub loads_mapped : {A B C : Type 0} {R : Reader A} {P : A → B → Type 0} {Q : C → B → Type 0} {σ σ' : Loader} {r : Result B Refusal} (g : A → C)
    → ((a : A) (b : B) → P a b → Q (g a) b) → LoadsBy R P σ σ' r → LoadsBy (R >>= λ a. return (g a)) Q σ σ' r
loads_mapped {A} {B} {P = P} {Q = Q} {σ = σ} {σ' = σ'} {r = r} g k h = record { same = h.same; reads = record { ends = by (_) r h.reads.ends } }
  where
    by : (x : Read A) (r : Result B Refusal) → Ends x (λ a rest c. (rest ≡ drop σ'.reader.state.pos σ.reader.state.chunk.now) × P a c) r → Ends (and_then x (λ a. return (g a))) (λ c rest d. (rest ≡ drop σ'.reader.state.pos σ.reader.state.chunk.now) × Q c d) r
    by (got a rest) (Ok b) t = (t.0, k a b t.1)
    by (got a rest) (Err e) t = absurd t
    by (refused n) (Ok b) t = absurd t
    by (refused n) (Err e) t = t

-- what holds of it is changed
pub loads_weaken : {A B : Type 0} {R : Reader A} {P Q : A → B → Type 0} {σ σ' : Loader} {r : Result B Refusal} → ((a : A) (b : B) → P a b → Q a b) → LoadsBy R P σ σ' r → LoadsBy R Q σ σ' r
loads_weaken {A} {B} {P = P} {Q = Q} {σ = σ} {σ' = σ'} {r = r} k h = record { same = h.same; reads = record { ends = by (_) r h.reads.ends } }
  where
    by : (x : Read A) (r : Result B Refusal) → Ends x (λ a rest c. (rest ≡ drop σ'.reader.state.pos σ.reader.state.chunk.now) × P a c) r → Ends x (λ a rest c. (rest ≡ drop σ'.reader.state.pos σ.reader.state.chunk.now) × Q a c) r
    by (got a rest) (Ok b) t = (t.0, k a b t.1)
    by (got a rest) (Err e) t = t
    by (refused n) (Ok b) t = t
    by (refused n) (Err e) t = t

-- nothing is read
pub loads_done : {A B : Type 0} {P : A → B → Type 0} {σ : Loader} (a : A) (b : B) → P a b → LoadsBy (return a) P σ σ (Ok b)
loads_done a b p = record { same = same_self; reads = record { ends = (refl, p) } }

-- the width of sizes is that of any state before
pub at_width : {A B : Type 0} (R : Bool → Reader A) {P : A → B → Type 0} {σ m ρ : Loader} {r : Result B Refusal} → Same σ m → LoadsBy (R m.reader.size_4) P m ρ r → LoadsBy (R σ.reader.size_4) P m ρ r
at_width R {P} {m = m} {ρ = ρ} {r = r} s h = subst (λ (w : Bool). LoadsBy (R w) P m ρ r) s.size_4 h

-- what is answered with the refusal of a step
pub refused_with : {A B : Type 0} {R : Reader A} {P : A → B → Type 0} {σ ρ : Loader} {r : Result B Refusal} {e : Refusal} → IsErrAnd r (λ x. x ≡ e) → LoadsBy R P σ ρ (Err e) → LoadsBy R P σ ρ r
refused_with {r = r} i h = let p = err_from_is_err_and r i in rw (p.1, p.2) h
