-- A function put together from its parts, as the definition reads it.
use Rattle.std.specs.Prelude.{Result, Ok, Err}
use Rattle.lent.proofs.Prelude.{ℕ, suc, ◌≡◌, refl, List, [], ◌∷◌, drop}
use Rattle.format.specs.Tree.{Local}
use Rattle.utf8.specs.Utf8.{repair}
use Rattle.format.specs.Read.{Reader, ◌>>=◌, load_byte, load_int, load_string, load_text, load_list, load_local, load_count, load_constant, many_functions, load_code, load_constants, load_debug, load_function}
use Rattle.format.specs.Store.{word, list, ints, string, local_piece, constant_piece, function_piece, children_piece}
use Rattle.format.specs.Undump.{repaired, repaired_all, repaired_local}
use Rattle.format.specs.declared.Refusal.{Refusal}
use Rattle.format.specs.declared.Refusal.TheVariants.{TooDeep}
use Rattle.load_state.specs.ReadAt.{Ends}
use Rattle.load.specs.declared.Loader.{Loader}
use Rattle.load.specs.Loads.{LoadsBy, Loads, repaired_name, repaired_source_piece}
use Rattle.load_function.specs.Repaired.{repaired_locals, repaired_names, load_limits, limits_piece, repaired_local_piece, repaired_debug_piece, repaired_constants, repaired_function}
use Rattle.load_function.proofs.Lists.{list_map}
use Rattle.load.proofs.Steps.{same_self, same_then, loads_then, loads_refused, loads_mapped, at_width}
use Rattle.load.proofs.Stores.{join, regroup}

locals_repaired : (l : List Local) → list repaired_local_piece l ≡ repaired_locals l
locals_repaired l = list_map repaired_local local_piece l

names_repaired : (l : List (List ℕ)) → list repaired_name l ≡ repaired_names l
names_repaired l = list_map repair string l

module _ {σ a b ρ : Loader} {r : Result (Unit {0}) Refusal} where
  pub local_loaded : Loads (load_text σ.reader.size_4) repaired_name σ a (Ok tt) → Loads load_int word a b (Ok tt) → Loads load_int word b ρ r → Loads (load_local σ.reader.size_4) repaired_local_piece σ ρ r
  local_loaded h k l = loads_then _ h (λ n d. loads_then _ k (λ s e. loads_mapped _ (λ t u f. join d (join e f)) l))

  pub debug_loaded : Loads (load_list load_int) ints σ a (Ok tt) → Loads (load_list (load_local a.reader.size_4)) (list repaired_local_piece) a b (Ok tt) → Loads (load_list (load_text b.reader.size_4)) (list repaired_name) b ρ r
      → Loads (load_debug σ.reader.size_4) repaired_debug_piece σ ρ r
  unfolding load_debug
  debug_loaded h k l =
      loads_then _ h (λ li d. loads_then _ (at_width (λ w. load_list (load_local w)) h.same k) (λ lo e. loads_mapped _ (λ up u f. join d (join (rw (locals_repaired lo) at e) (rw (names_repaired up) at f))) (at_width (λ w. load_list (load_text w)) (same_then h.same k.same) l)))

-- the constants, then the functions
pub constants_loaded : {σ a ρ : Loader} {r : Result (Unit {0}) Refusal} (allowance : ℕ) → Loads (load_list (load_constant σ.reader.size_4)) (list constant_piece) σ a (Ok tt)
    → Loads (load_count >>= many_functions (load_function a.reader.size_4 allowance)) (λ fs. children_piece (repaired_all fs)) a ρ r → Loads (load_constants σ.reader.size_4 (load_function σ.reader.size_4 allowance)) repaired_constants σ ρ r
unfolding load_constants
constants_loaded allowance h k =
    loads_then _ h (λ ks d. loads_mapped _ (λ fs u e. join d e) (at_width (λ w. load_count >>= many_functions (load_function w allowance)) h.same k))

-- four bytes, read one by one
pub limits_then : {C D : Type 0} {Q : C → D → Type 0} {σ σ' : Loader} {r : Result D Refusal} (f : ℕ → ℕ → ℕ → ℕ → Reader C) → LoadsBy (load_limits >>= λ l. f l.nu l.np l.va l.ms) Q σ σ' r
    → LoadsBy (load_byte >>= λ a. load_byte >>= λ b. load_byte >>= λ c. load_byte >>= λ d. f a b c d) Q σ σ' r
limits_then {C} {D} {Q} {σ} {σ'} {r} f h = record { same = h.same; reads = record { ends = by (drop σ.reader.state.pos σ.reader.state.chunk.now) h.reads.ends } }
  where
    by : (bs : List ℕ) → Ends ((load_limits >>= λ l. f l.nu l.np l.va l.ms) bs) (λ c rest (d : D). (rest ≡ drop σ'.reader.state.pos σ.reader.state.chunk.now) × Q c d) r
        → Ends ((load_byte >>= λ a. load_byte >>= λ b. load_byte >>= λ c. load_byte >>= λ d. f a b c d) bs) (λ c rest (d : D). (rest ≡ drop σ'.reader.state.pos σ.reader.state.chunk.now) × Q c d) r
    by [] t = t
    by (a ∷ []) t = t
    by (a ∷ b ∷ []) t = t
    by (a ∷ b ∷ c ∷ []) t = t
    by (a ∷ b ∷ c ∷ d ∷ rest) t = t

-- 7
pub function_too_deep : {σ : Loader} {k : ℕ} → k ≡ 0 → Loads (load_function σ.reader.size_4 k) repaired_function σ σ (Err TooDeep)
unfolding load_function
function_too_deep q = rw q (record { same = same_self; reads = record { ends = refl } })

-- the code's refusal ends it, behind the parts before
pub code_refused : {σ a b c d ρ : Loader} {x : Refusal} {k n : ℕ} → k ≡ suc n → Loads (load_string σ.reader.size_4) repaired_source_piece σ a (Ok tt)
    → Loads load_int word a b (Ok tt) → Loads load_int word b c (Ok tt) → Loads load_limits limits_piece c d (Ok tt) → Loads load_code ints d ρ (Err x)
    → Loads (load_function σ.reader.size_4 k) repaired_function σ ρ (Err x)
unfolding load_function
code_refused q h₁ h₂ h₃ h₄ h = rw q (loads_then _ h₁ (λ i e. loads_then _ h₂ (λ j f. loads_then _ h₃ (λ l g. limits_then _ (loads_then _ h₄ (λ m u. loads_refused _ h))))))

-- the parts, one after the other
pub function_loaded : {σ a b c d e f ρ : Loader} {r : Result (Unit {0}) Refusal} {k n : ℕ} → k ≡ suc n → Loads (load_string σ.reader.size_4) repaired_source_piece σ a (Ok tt)
    → Loads load_int word a b (Ok tt) → Loads load_int word b c (Ok tt) → Loads load_limits limits_piece c d (Ok tt) → Loads load_code ints d e (Ok tt)
    → Loads (load_constants e.reader.size_4 (load_function e.reader.size_4 n)) repaired_constants e f (Ok tt) → Loads (load_debug f.reader.size_4) repaired_debug_piece f ρ r
    → Loads (load_function σ.reader.size_4 k) repaired_function σ ρ r
unfolding load_function repaired function_piece
function_loaded {n = n} q h₁ h₂ h₃ h₄ h₅ h₆ h₇ =
    let s = same_then h₁.same (same_then h₂.same (same_then h₃.same (same_then h₄.same h₅.same))) in
    rw q
    (loads_then _ h₁ (λ src d₁.
    loads_then _ h₂ (λ ld d₂.
    loads_then _ h₃ (λ lld d₃.
    limits_then _ (loads_then _ h₄ (λ l d₄.
    loads_then _ h₅ (λ code d₅.
    loads_then _ (at_width (λ w. load_constants w (load_function w n)) s h₆) (λ ks d₆.
    loads_mapped _ (λ de u d₇.
    join d₁ (join d₂ (join d₃ (join d₄ (join d₅ (regroup (list constant_piece ks.constants) (children_piece (repaired_all ks.functions)) (repaired_debug_piece de) (join d₆ d₇)))))))
    (at_width load_debug (same_then s h₆.same) h₇)))))))))
