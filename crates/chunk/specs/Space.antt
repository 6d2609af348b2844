-- The space that measure answers, and store: enough, and no more than enough.
use Rattle.std.specs.Prelude.{ℕ, ◌+◌, ◌≤◌, ◌≡◌, List, length}
use Rattle.format.specs.Valid.{most}
use Rattle.format.specs.declared.Undumped.{Undumped}
use Rattle.chunk.specs.Demand3.{UndumpCall}

-- of measure and store as they return, measure not being refused
pub record ExactlyEnough {bytes : List ℕ} (c : UndumpCall bytes) (m : Undumped) : Type 0 where
  -- with so many words and text bytes, within the limit, store is not refused: it answers what measure did
  pub enough : m.words ≤ most → m.text ≤ most → length c.lent.words ≡ m.words → length c.lent.text ≡ m.text → c.store.answer ≡ m
  -- with a word less it is refused by 8, with a text byte less by 9
  pub word_less : length c.lent.words + 1 ≡ m.words → c.store.answer.refusal ≡ 8
  pub byte_less : m.words ≤ most → length c.lent.words ≡ m.words → length c.lent.text + 1 ≡ m.text → c.store.answer.refusal ≡ 9
