-- Whatever writes the other functions from here writes all of them.
-- The measure is three times the allowance, and one and two more for dump_constants and dump_parts, which call one another at the same allowance.
use Rattle.lent.proofs.Prelude.{◌+◌, ◌*◌, not, eqb}
use Rattle.format.specs.Store.{function_piece}
use Rattle.format.specs.Valid.{Valid}
use Rattle.format.specs.Write.{dump_function}
use Rattle.format.proofs.Loops.{Loop}
use Rattle.dump.specs.Step.{progress, seen}
use Rattle.dump.proofs.Lists.{DumpsAll}
use Rattle.dump.proofs.list.Dumper.+dump_constants_dump_function_dump_parts.Given as goal

abbrev pub decreases-dump_function : goal.decreases-dump_function
decreases-dump_function g l = 3 * l.allowance

abbrev pub decreases-dump_parts : goal.decreases-dump_parts
decreases-dump_parts g l = 3 * l.allowance + 2

abbrev pub decreases-dump_constants : goal.decreases-dump_constants
decreases-dump_constants g l = 3 * l.allowance + 1

abbrev pub invariant-dump_constants-loop : goal.invariant-dump_constants-loop
invariant-dump_constants-loop g l = Loop (DumpsAll l.self (λ f. Valid f l.allowance) function_piece (λ f. dump_function f l.self.options.strip l.self.options.size_4 l.source l.source)) l.n (progress l.initial.r (seen (not (eqb g.row.STORED 0)) l.initial.out)) l.counter (progress l.r (seen (not (eqb g.row.STORED 0)) l.out))
