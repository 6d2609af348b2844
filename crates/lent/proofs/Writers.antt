-- A writer's writes, one after the other and in a loop.
use Rattle.lent.proofs.Prelude.{ℕ, ◌≡◌, refl, ◌∙◌, List, [], ◌∷◌, ◌++◌}
use Rattle.lent.specs.Writer.{Writes}
use Rattle.lent.specs.declared.Writer.{Writer}
use Rattle.lent.proofs.Writes.{put_none, put_then}

pub writes_none : {w : Writer} → Writes [] w w
writes_none = record { same = refl; puts = put_none }

pub writes_then : {a b : List ℕ} {w w' w'' : Writer} → Writes a w w' → Writes b w' w'' → Writes (a ++ b) w w''
writes_then p q = record { same = q.same ∙ p.same; puts = put_then p.puts q.puts }

-- an item, then others
pub writes_first : {x : ℕ} {b : List ℕ} {w w' w'' : Writer} → Writes (x ∷ []) w w' → Writes b w' w'' → Writes (x ∷ b) w w''
writes_first p q = writes_then p q

-- all is to be written from w₀ on, and left of it is to be written from w on
pub record WritesLeft (left : List ℕ) (w : Writer) (all : List ℕ) (w₀ : Writer) : Type 0 where
  pub rest : (w' : Writer) → Writes left w w' → Writes all w₀ w'

module _ {left all : List ℕ} {w w₀ : Writer} where
  pub left_put : {more : List ℕ} {w' : Writer} (a : List ℕ) → left ≡ a ++ more → WritesLeft left w all w₀ → Writes a w w' → WritesLeft more w' all w₀
  left_put a e l p = record { rest = λ w'' q. l.rest w'' (rw e (writes_then p q)) }

  pub left_end : left ≡ [] → WritesLeft left w all w₀ → Writes all w₀ w
  left_end e l = l.rest _ (rw e writes_none)
