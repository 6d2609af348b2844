-- By the lines of the definition: searched before, a local, moved from another register, of which one more is then searched, or written.
-- Tried by an attribute: all but the local stay open, as the search gives up at a limit.
use Rattle.lent.proofs.Prelude.{arith, sym, ◌∙◌}
use Rattle.debug_info.proofs.Searches.{marked, moves_below, search_again, search_local, search_moved, search_wrote}
use Rattle.debug_info.proofs.object.+getobjname.Goals as goal

pub returns-then-before-n : goal.returns-then-before-n
returns-then-before-n t c = search search_again

pub returns-then-is_some : goal.returns-then-is_some
returns-then-is_some t c = search search_local

pub getobjname-requires : goal.getobjname-requires
getobjname-requires t c = (omega (arith, marked c.args.before c.from-n.result (omega (arith, c.ranges.reg)) c.if-before-n.false, c.decreases), tt)

pub overflow_cast-b : goal.overflow_cast-b
overflow_cast-b t c = record { fits = rw c.b.ensures (moves_below _ (sym c.moves_up.ensures ∙ c.if-moves_up.true)) }

pub returns-then-moves_up : goal.returns-then-moves_up
returns-then-moves_up t c text = search (search_moved, c.symbexec_at.ensures text, c.getobjname.ensures text)

pub returns : goal.returns
returns t c text = search (search_wrote, c.symbexec_at.ensures text, c.wrote.ensures text)
