-- The source, then what stands behind it.
-- Tried by an attribute with these laws: `returns` stays open.
use Rattle.lent.proofs.Prelude.{◌∙◌, ap, not}
use Rattle.format.specs.Tree.{Function}
use Rattle.proto.proofs.Walks.{valid_parts, valid_inside}
use Rattle.dump.specs.Step.{as_source}
use Rattle.dump.proofs.Functions.{source_written, elided_root, source_then_parts}
use Rattle.dump.proofs.list.Dumper.dump_root.Goals as goal

pub returns : goal.returns
returns g c (Function.function p fs) v =
    source_then_parts _ _ _ _ _ (as_source c.then_some.result) p fs (λ to h. (c.own_source-source.ensures p.source to h, source_written _ _ c.then_some.ensures (ap not (c.is_empty.ensures ∙ elided_root _))))
    (c.dump_source-defined.ensures p.source)
    (c.dump_parts.ensures p fs (valid_parts _ p fs v) (valid_inside c.if-allowance-eq0.false p fs v))
