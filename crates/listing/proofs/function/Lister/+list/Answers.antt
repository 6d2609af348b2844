-- A turn lists one of the functions in this one and keeps the store. Behind the last, the function is listed: itself, those in it, and the place behind.
-- Tried by an attribute with these laws: both stay open.
use Rattle.lent.proofs.Prelude.{arith, suc, ◌-◌, ◌≡◌, ◌∙◌}
use Rattle.format.proofs.Loops.{loop_turn, loop_end}
use Rattle.listing.proofs.Listers.{lists_none, lists_more, lists_function}
use Rattle.listing.proofs.function.Lister.+list.Goals as goal

pub loop-i-preserved : goal.loop-i-preserved
loop-i-preserved t c =
    let x = c.list-r.ensures in
    let i = c.loop-i.invariant in
    record {
      store = x.stays.0 ∙ i.store;
      full = x.stays.1 ∙ i.full;
      all = loop_turn c.loop-i-test.true i.all (lists_more c.put_byte.ensures (rw (i.store, i.full) at x.lists));
    }

pub returns-clause-lists : goal.returns-clause-lists
returns-clause-lists t c =
    let n = c.args.allowance - 1 in
    let e : c.args.allowance ≡ suc n = omega (arith, c.if-allowance-eq0.false) in
    rw e (lists_function n c.source_of-source.ensures c.put_function.ensures.lists c.functions_at-list.ensures c.word_at-n.ensures c.first_in-r.ensures.0 c.first_in-r.ensures.1 (loop_end c.loop-i-test.false c.loop-i.invariant.all lists_none) c.after_debug.ensures)
