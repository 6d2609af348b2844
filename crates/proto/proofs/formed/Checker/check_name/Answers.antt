-- What was checked is the text from the place reached before it to the one reached behind it. Where the text is ASCII, a string of it is UTF-8.
-- Tried by an attribute: `returns-in_err-r` and `returns-then-is_utf8` stay open.
use Rattle.lent.proofs.Prelude.{◌∙◌, sym, true≢false}
use Rattle.proto.proofs.Checks.{utf8_name, name_bad, name_stopped, ascii_name}
use Rattle.proto.proofs.formed.Checker.check_name.Goals as goal
use Rattle.proto.proofs.formed.Checker.check_name.Goals.{then-self, else-self}

pub returns-in_err-r : goal.returns-in_err-r
returns-in_err-r c = rw c.from_residual.ensures (name_stopped c.in_err-r.ensures)

pub returns-then-is_utf8 : goal.returns-then-is_utf8
returns-then-is_utf8 c = elim c.if-self.branch [
  | then-self w ↦ ascii_name c.in_ok-r.ensures (c.args.self.ascii_holds w.if-self.true)
  | else-self w ↦ utf8_name c.in_ok-r.ensures w.is_utf8.ensures w.of.ensures (sym w.value-is ∙ c.if-is_utf8.true)
]

pub returns-else-is_utf8 : goal.returns-else-is_utf8
returns-else-is_utf8 c = elim c.if-self.branch [
  | then-self w ↦ absurd (true≢false (sym w.if-self.true ∙ sym w.value-is ∙ c.if-is_utf8.false))
  | else-self w ↦ name_bad c.in_ok-r.ensures w.is_utf8.ensures w.of.ensures (sym w.value-is ∙ c.if-is_utf8.false)
]
