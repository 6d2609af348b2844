-- What reading at a place of the chunk gives.
use Rattle.std.specs.Prelude.{ℕ, ◌+◌, ◌*◌, ◌≡◌, List, drop, get_or, Result, Ok, Err}
use Rattle.std.specs.Borrow.{Bor}
use Rattle.format.specs.Tree.{Constant}
use Rattle.format.specs.Read.{Read, Reader, got, refused, load_block, load_num}
use Rattle.format.specs.Refusal.{number}
use Rattle.format.specs.declared.Refusal.{Refusal}
use Rattle.load_state.specs.declared.LoadState.{LoadState}
use Rattle.load_state.specs.declared.cursor.Got.{Got}

-- the reading x ends as the answer r says: with P of its value, the bytes left and r's value, or with its refusal
abbrev pub Ends : {A B : Type 0} → Read A → (A → List ℕ → B → Type 0) → Result B Refusal → Type 0
Ends (got a rest) P (Ok b) = P a rest b
Ends (got a rest) P (Err e) = ⊥
Ends (refused k) P (Ok b) = ⊥
Ends (refused k) P (Err e) = number e ≡ k

-- the reader R from a place on: what it gives and r's value meet P, and r says the next place; or r is its refusal
pub record ReadsBy {A B : Type 0} (bs : List ℕ) (R : Reader A) (P : A → B → Type 0) (next : B → ℕ) (at : ℕ) (r : Result B Refusal) : Type 0 where
  pub ends : Ends (R (drop at bs)) (λ a rest b. (rest ≡ drop (next b) bs) × P a b) r

-- the reader R gives r's value from a place on and ends at r's next place, or with r's refusal
abbrev pub ReadAt : {A : Type 0} → List ℕ → Reader A → ℕ → Result (Got A) Refusal → Type 0
ReadAt bs R at r = ReadsBy bs R (λ a g. a ≡ g.value) (λ g. g.next) at r

-- n bytes from a place on, or the refusal
abbrev pub BlockAt : List ℕ → ℕ → ℕ → Result (Got (Bor (List ℕ))) Refusal → Type 0
BlockAt bs n at r = ReadsBy bs (load_block n) (λ s g. s ≡ g.value.now) (λ g. g.next) at r

-- a lua_Number by its halves, the high one first, as a constant has them
abbrev pub HalvesAt : List ℕ → ℕ → Result (Got (ℕ × ℕ)) Refusal → Type 0
HalvesAt bs at r = ReadsBy bs load_num (λ k g. k ≡ Constant.num g.value.0 g.value.1) (λ g. g.next) at r

-- the number that four bytes from a place on stand for, low byte first
abbrev pub four_at : List ℕ → ℕ → ℕ
four_at bs at = get_or bs at 0 + 256 * (get_or bs (at + 1) 0 + 256 * (get_or bs (at + 2) 0 + 256 * get_or bs (at + 3) 0))

-- ---- the same from the place of a LoadState s on

abbrev pub ReadsByFrom : {A B : Type 0} → Reader A → (A → B → Type 0) → (B → ℕ) → LoadState → Result B Refusal → Type 0
ReadsByFrom R P next s r = ReadsBy s.chunk.now R P next s.pos r

abbrev pub ReadFrom : {A : Type 0} → Reader A → LoadState → Result (Got A) Refusal → Type 0
ReadFrom R s r = ReadAt s.chunk.now R s.pos r

abbrev pub BlockFrom : ℕ → LoadState → Result (Got (Bor (List ℕ))) Refusal → Type 0
BlockFrom n s r = BlockAt s.chunk.now n s.pos r

abbrev pub HalvesFrom : LoadState → Result (Got (ℕ × ℕ)) Refusal → Type 0
HalvesFrom s r = HalvesAt s.chunk.now s.pos r
