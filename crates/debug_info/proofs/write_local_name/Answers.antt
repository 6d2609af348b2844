-- Not refused, the function stands at its place, and so do its locals.
-- Tried by an attribute with these laws: returns stays open, as the search gives up at a limit.
use Rattle.lent.proofs.Prelude.{ap, ◌∙◌}
use Rattle.format.specs.Tree.{parts_of}
use Rattle.debug_info.specs.Names.{get_local_name}
use Rattle.debug_info.specs.Calls.{name_refused, named, local_named}
use Rattle.debug_info.proofs.Calls.{place_listed}
use Rattle.debug_info.proofs.write_local_name.Goals as goal

pub returns : goal.returns
unfolding local_named get_local_name
returns c = let a = c.args in let out = a.out.now in
    place_listed (name_refused out) (λ f. named (get_local_name (parts_of f).debug.locals a.local_number a.pc) out) c.lists_at-locals.ensures.store c.lists_at-locals.ensures.lists
    (λ p fs h v. c.write_known.ensures ∙ ap (λ o. named o out) (rw c.low.ensures at (c.active_local-v.ensures _ p.debug.locals (rw c.lists_at-locals.ensures.store at h.locals)))) c.in_ok-has_function.ensures
