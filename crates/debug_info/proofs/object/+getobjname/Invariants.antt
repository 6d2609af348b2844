-- Each call marks a register, so that fewer are left to search; that number is the measure, and bounds the definition's search.
use Rattle.debug_info.specs.Searched.{unsearched}
use Rattle.debug_info.proofs.object.+getobjname.Given as goal

abbrev pub decreases-getobjname : goal.decreases-getobjname
decreases-getobjname l = unsearched l.before
