-- What is left to write is the repair of the bytes left: text as it is, then U+FFFD for an ill-formed step. With these laws as the function's own
-- the search leaves all four goals open.
use Rattle.lent.proofs.Prelude.{rules, arith, sym, ap, ◌∙◌, false≢true}
use Rattle.lent.proofs.Writers.{left_put, left_end}
use Rattle.utf8.proofs.Texts.{step_least, step_most, repair_text, repair_ill, repair_none}
use Rattle.utf8.specs.Utf8.{Step}
use Rattle.utf8.proofs.put_steps.Goals as goal
use Rattle.utf8.proofs.put_steps.Goals.{in-Ok, in-Ok-2}

pub returns-then-bytes-end : goal.returns-then-bytes-end
returns-then-bytes-end c = search (rules, left_end, repair_none, left_put, repair_text)

pub overflow_add-i : goal.overflow_add-i
overflow_add-i c = grind (arith, step_most c.args.bytes.now c.text_end-end.result)

pub loop-i-smaller : goal.loop-i-smaller
loop-i-smaller c = grind (arith, step_least c.args.bytes.now c.text_end-end.result, step_most c.args.bytes.now c.text_end-end.result)

pub loop-i-preserved : goal.loop-i-preserved
loop-i-preserved c = elim c.match-step_at.branch [
  | in-Ok w ↦ absurd (false≢true (sym (c.text_end-end.ensures.stops (omega arith)) ∙ ap (λ (s : Step). s.well_formed) (sym w.in-Ok.ensures)))
  | in-Ok-2 w ↦ (
    omega (arith, step_most c.args.bytes.now c.text_end-end.result w.in-Ok.ensures, w.n-is),
    rw w.n-is (left_put _ (repair_ill c.args.bytes.now c.text_end-end.result (omega arith) w.in-Ok.ensures (c.text_end-end.ensures.stops (omega arith)))
        (left_put _ (repair_text c.text_end-end.ensures.text) c.loop-i.invariant.1 c.put_bytes.ensures)
        c.put_bytes-in-loop-i.ensures),
  )
]
