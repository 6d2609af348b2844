-- All fit, or one is cut.
-- Tried by an attribute with these laws: `returns` stays open.
use Rattle.lent.proofs.Prelude.{◌+◌, ◌-◌, ◌*◌, refl, arith}
use Rattle.dump.proofs.Blocks.{ints_part, ints_put, ints_cut}
use Rattle.dump.proofs.block.put_ints.Goals as goal
use Rattle.dump.proofs.block.put_ints.Goals.{then-fit-l, else-fit-l}

pub returns : goal.returns
returns c =
    let q = ints_part {k = c.min-start.result + 4 * c.min-fit.result - c.min-start.result} c.args.out.now c.args.l.now (omega arith) c.min-fit.ensures c.store_ints.ensures (omega arith) refl in
    elim c.if-fit-l.branch [
      | then-fit-l w ↦ rw w.out-is (ints_cut _ c.min-start.ensures c.saturating_add.ensures c.min-fit.ensures q w.if-fit-l.true w.dump_int.ensures)
      | else-fit-l w ↦ rw w.out-is (ints_put _ c.min-start.ensures c.saturating_add.ensures c.min-fit.ensures q w.if-fit-l.false)
    ]
