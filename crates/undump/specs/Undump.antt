-- Where reading begins, a whole chunk loaded, and what a call leaves.
use Rattle.std.specs.Prelude.{ℕ, ◌≡◌, List, Result}
use Rattle.format.specs.Store.{function_piece}
use Rattle.format.specs.Undump.{load_chunk, UndumpLeft}
use Rattle.format.specs.declared.Undumped.{Undumped}
use Rattle.format.specs.declared.Refusal.{Refusal}
use Rattle.load_state.specs.ReadAt.{ReadsBy}
use Rattle.load.specs.Loads.{Space, Does}
use Rattle.undump.specs.declared.LoadedChunk.{LoadedChunk}

-- the place of the first byte of the chunk
abbrev pub beginning : ℕ
beginning = 0

-- lent memory, nothing stored so far
abbrev pub unused : List ℕ → List ℕ → Space
unused ws ts = record { words_at = 0; text_at = 0; words = ws; text = ts }

-- lent memory, a chunk stored
abbrev pub used : LoadedChunk → List ℕ → List ℕ → Space
used c ws ts = record { words_at = c.words; text_at = c.text; words = ws; text = ts }

-- a whole chunk was read, and its tree stored
abbrev pub LoadsChunk : (bs ws ts : List ℕ) → Result LoadedChunk Refusal → (ws' ts' : List ℕ) → Type 0
LoadsChunk bs ws ts r ws' ts' = ReadsBy bs load_chunk (λ x c. (x.size4 ≡ c.size_4) × Does (function_piece x.root) (unused ws ts) (used c ws' ts')) (λ c. c.next) beginning r

-- an answer, with what stands in lent memory
abbrev pub undump_left : Undumped → List ℕ → List ℕ → UndumpLeft
undump_left answer words text = record { answer = answer; words = words; text = text }
