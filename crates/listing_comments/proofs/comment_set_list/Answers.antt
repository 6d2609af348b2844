-- C is not 0, or the word behind is past the count, or it stands there.
-- Tried by an attribute with these laws: both stay open.
use Rattle.lent.proofs.Prelude.{arith, sym, eq-eqb, ltb-true, ◌+◌}
use Rattle.proto.proofs.Items.{item_past}
use Rattle.listing_operands.proofs.ShownLists.{shows_ints, got_some}
use Rattle.lent.proofs.Writers.{writes_none}
use Rattle.listing_comments.proofs.comment_set_list.Goals as goal

pub returns-in-Some : goal.returns-in-Some
returns-in-Some c =
    let h = c.in-Some.ensures.lookup in
    shows_ints c.ints_at.ensures (rw (eq-eqb _ _ c.if-c-ne0.false, got_some c.ints_at.result.now (c.args.pc + 1) (ltb-true _ _ (sym h.0)) h.1) c.comment_items-in-Some.ensures)

pub returns-in_default : goal.returns-in_default
returns-in_default c = shows_ints c.ints_at.ensures (rw (eq-eqb _ _ c.if-c-ne0.false, item_past c.ints_at.result.now (c.args.pc + 1) (omega (arith, c.in_default.ensures.lookup))) writes_none)
