-- Not refused, the function stands at its place, and so do its lists.
-- Tried by an attribute with these laws: returns stays open, as the search gives up at a limit.
use Rattle.symbexec.specs.SymbExec.{symbexec}
use Rattle.debug_info.specs.Calls.{no_instruction, symbexec_answer}
use Rattle.debug_info.proofs.Calls.{register_listed}
use Rattle.debug_info.proofs.find_write.Goals as goal

pub returns : goal.returns
unfolding symbexec_answer
returns c = let a = c.args in let k = c.in_ok-lastpc.ensures in
    register_listed no_instruction (λ f. record { refusal = 0; instruction = symbexec f a.lastpc a.reg }) c.lists_at.ensures.store c.lists_at.ensures.lists (λ p fs h v. rw (c.symbexec_at.ensures _ p fs h v, c.from.ensures, k.found.0, k.found.1)) _ _ k.refused
