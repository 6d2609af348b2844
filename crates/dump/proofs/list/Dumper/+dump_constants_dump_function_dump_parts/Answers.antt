-- The parts of a function one behind the other.
-- dump_function with no allowance and the turn of the loop go by attributes. Tried for these three, with these laws: they stay open.
use Rattle.lent.proofs.Prelude.{◌≡◌, ◌∙◌, not}
use Rattle.format.specs.Tree.{Function}
use Rattle.format.specs.Store.{word, list, constant_piece, children_piece}
use Rattle.format.specs.Read.{same}
use Rattle.proto.proofs.Walks.{valid_parts, valid_inside}
use Rattle.dump.specs.Step.{as_source}
use Rattle.dump.proofs.Lists.{list_dumped}
use Rattle.dump.proofs.Functions.{source_written, elided_inherited, elided_compared, constants_dumped, dumps_five, source_then_parts}
use Rattle.dump.proofs.list.Dumper.+dump_constants_dump_function_dump_parts.Goals as goal
use Rattle.dump.proofs.list.Dumper.+dump_constants_dump_function_dump_parts.Goals.{dump_function-then-is_own, dump_function-else-is_own}

pub dump_constants-returns : goal.dump_constants-returns
dump_constants-returns g t c = constants_dumped _ _ _ _ c.dump_list-functions.ensures (list_dumped c.word_at-n.ensures c.dump_word-r.ensures c.loop-test.false c.loop.invariant)

pub dump_function-returns : goal.dump_function-returns
dump_function-returns g t c (Function.function p fs) v =
    source_then_parts _ _ _ _ _ (as_source c.then_some.result) p fs
    (λ to h.
    let q = c.own_source-source.ensures p.source to h in
    let e : c.if-is_own.then_some ≡ not (same c.own_source-source.result.now c.args.outer.now) =
    elim c.if-is_own.branch [
      | dump_function-then-is_own w ↦ elided_compared _ _ (w.then_some-is ∙ w.ne.ensures)
      | dump_function-else-is_own w ↦ elided_inherited _ _ p.source w.then_some-is c.word_at-is_own.ensures w.if-is_own.false h q
    ] in
    (q, source_written _ _ c.then_some.ensures e))
    (c.dump_source-line_defined.ensures p.source)
    (c.dump_parts.ensures p fs (valid_parts _ p fs v) (valid_inside c.if-allowance-eq0.false p fs v))

pub dump_parts-returns : goal.dump_parts-returns
dump_parts-returns g t c = λ p fs v w.
    dumps_five (word p.line_defined) (word p.last_line_defined) (list constant_piece p.constants) (children_piece fs) (c.dump_two-packed.ensures p.line_defined p.last_line_defined) (c.dump_packed-code.ensures p v) (c.dump_code-constants.ensures p.code) (c.dump_constants-debug.ensures p.constants fs w) (c.dump_debug.ensures p.debug)
