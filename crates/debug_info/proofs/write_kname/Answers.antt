-- Not refused, the function stands at its place, and so do its constants.
-- Tried by an attribute with these laws: returns stays open.
use Rattle.lent.proofs.Prelude.{ap, ◌∙◌}
use Rattle.format.specs.Tree.{parts_of}
use Rattle.format.specs.Dump.{write_refused, written}
use Rattle.proto.proofs.Items.{somewhere, constants_stand}
use Rattle.debug_info.specs.Names.{kname}
use Rattle.debug_info.specs.Calls.{knamed}
use Rattle.debug_info.proofs.Calls.{place_answered}
use Rattle.debug_info.proofs.write_kname.Goals as goal

pub returns : goal.returns
unfolding knamed
returns c = let a = c.args in let out = a.out.now in
    place_answered (λ n. write_refused n out) (λ f. written (kname (parts_of f).constants a.c) out) _ _ _ c.in_ok-has_function.ensures
    (λ p fs v h. c.write_name.ensures ∙ ap (λ s. written s out) (c.operand_name.ensures _ p.constants (somewhere (constants_stand p fs h.stands (c.constants_at-constants.ensures p fs)))))
