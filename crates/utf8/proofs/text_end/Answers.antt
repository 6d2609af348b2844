-- ASCII goes on with the text so far, and so does each well-formed sequence. With these laws as the function's own the search leaves all four goals open.
use Rattle.lent.proofs.Prelude.{rules, arith, refl}
use Rattle.utf8.proofs.Texts.{text_byte, text_join, text_step, step_least, step_most}
use Rattle.utf8.proofs.text_end.Goals as goal

pub loop-i-preserved-then-bytes-i-lt128 : goal.loop-i-preserved-then-bytes-i-lt128
loop-i-preserved-then-bytes-i-lt128 c = search (rules, text_join, text_byte)

pub overflow_add-i-in-Ok : goal.overflow_add-i-in-Ok
overflow_add-i-in-Ok c = omega (arith, step_most c.args.bytes.now c.loop-i.i c.in-Ok.ensures)

pub loop-i-smaller : goal.loop-i-smaller
loop-i-smaller c = omega (arith, step_least c.args.bytes.now c.loop-i.i c.in-Ok.ensures, step_most c.args.bytes.now c.loop-i.i c.in-Ok.ensures)

pub loop-i-preserved : goal.loop-i-preserved
loop-i-preserved c = text_join c.loop-i.invariant (text_step c.args.bytes.now c.loop-i.i (omega arith) c.in-Ok.ensures refl)
