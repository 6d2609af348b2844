-- The two words are the place reached and a length that the text has from there on, or no string stands there.
-- Tried by an attribute: both goals stay open, as the room is known where is_within answers true.
use Rattle.lent.proofs.Prelude.{arith}
use Rattle.proto.proofs.Checks.{string_good, string_bad}
use Rattle.proto.proofs.formed.Checker.check_string.Goals as goal
use Rattle.proto.proofs.formed.Checker.check_string.Goals.{then-place-s-via-then-place-s, then-place-s-via-else-place-s+then-not-is_within}

pub returns-then-place-s : goal.returns-then-place-s
returns-then-place-s c = string_bad c.in_ok-get.ensures.lookup.0 c.in-len2-up.len_at_least (elim c.then-place-s.branch [
  | then-place-s-via-then-place-s w ↦ λ p q. omega arith
  | then-place-s-via-else-place-s+then-not-is_within w ↦ λ p q. w.is_within.ensures.not w.if-not-is_within.true q
])

pub returns : goal.returns
returns c = string_good c.in_ok-get.ensures.lookup.0 c.in-len2-up.len_at_least c.args.self.store.text_fits c.if-place-s.false (c.is_within.ensures.is c.if-not-is_within.false)
