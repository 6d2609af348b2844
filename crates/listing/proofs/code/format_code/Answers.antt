-- A turn writes one line of what is left, and behind the last word nothing is left. By an attribute both stay open.
use Rattle.lent.proofs.Prelude.{rules}
use Rattle.listing.proofs.Codes.{codes_turn, codes_end}
use Rattle.listing.proofs.code.format_code.Goals as goal

pub loop-pc-preserved : goal.loop-pc-preserved
loop-pc-preserved c = search (rules, codes_turn)

pub returns : goal.returns
returns c = search (rules, codes_end)
