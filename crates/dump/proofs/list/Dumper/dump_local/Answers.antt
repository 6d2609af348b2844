-- Its name, then two words.
-- Tried by an attribute with this law: `returns` stays open.
use Rattle.lent.proofs.Prelude.{append_assoc}
use Rattle.format.specs.Write.{dump_int, dump_text}
use Rattle.proto.proofs.Pieces.{same_refl}
use Rattle.dump.proofs.Steps.{dumps_as, dumps_then}
use Rattle.dump.proofs.list.Dumper.dump_local.Goals as goal

pub returns : goal.returns
returns g c = λ v. dumps_as same_refl (append_assoc (dump_text c.args.self.options.size_4 v.name) (dump_int v.start) (dump_int v.end)) (dumps_then (c.dump_name-start.ensures v.name) (c.dump_two.ensures v.start v.end))
