-- Past the end the digits are only counted. With digits_lost among the function's own laws the search stops at one of its limits.
use Rattle.lent.proofs.Prelude.{rules}
use Rattle.digits.proofs.Rooms.{digits_lost}
use Rattle.digits.proofs.text.put_digits.Goals as goal

pub returns-then-w : goal.returns-then-w
returns-then-w g c = search (rules, digits_lost)
