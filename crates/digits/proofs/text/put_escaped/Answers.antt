-- The run is split from its last byte; each call of the closure answers as is_plain, whatever calls came before.
-- Tried by an attribute with these laws: both goals stay open.
use Rattle.lent.proofs.Prelude.{rules, refl, not}
use Rattle.std.proofs.lemmas.List.Sorted.{answers_always}
use Rattle.lent.proofs.Writers.{left_put, left_end}
use Rattle.digits.proofs.Strings.{escaped_run, escaped_none}
use Rattle.digits.specs.Digits.{is_plain}
use Rattle.digits.proofs.text.put_escaped.Goals as goal

pub loop-run-preserved-in-Some-split_last : goal.loop-run-preserved-in-Some-split_last
loop-run-preserved-in-Some-split_last c =
    let run = c.in-Some.ensures.steps in
    let first = run.1.2 (λ b. not (is_plain b)) (answers_always _ _ _ (λ f a r f' h. search rules)) in
    left_put _ refl
    (left_put _ (escaped_run _ _ _ c.in-Some-split_last.last.now run.1.0 run.0 c.in-Some-split_last.ensures.cases.0 run.1.1 first.1) c.loop-run.invariant c.put_bytes.ensures)
    c.put_escape.ensures

pub returns : goal.returns
returns c = left_end (escaped_none _ c.in-None.ensures.steps.0) c.loop-run.invariant
