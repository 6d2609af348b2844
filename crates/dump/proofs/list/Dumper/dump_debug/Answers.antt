-- The three lists one behind the other.
-- Where strip is told it goes by the attribute. Tried for this one, with these laws: it stays open.
use Rattle.lent.proofs.Prelude.{refl}
use Rattle.proto.proofs.Pieces.{same_refl}
use Rattle.dump.proofs.Steps.{dumps_as, dumps_three}
use Rattle.dump.proofs.list.Dumper.dump_debug.Goals as goal

pub returns : goal.returns
returns g c = λ d. dumps_as same_refl (rw c.if-self.false refl) (dumps_three (c.dump_code-locals.ensures d.lines) (c.dump_list-upvalues.ensures d.locals) (c.dump_list.ensures d.upvalues))
