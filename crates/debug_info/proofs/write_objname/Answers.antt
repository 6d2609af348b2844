-- Not refused, the function stands at its place, and so do its lists; no register was searched before.
-- Tried by an attribute with these laws: returns stays open, as the search gives up at a limit.
use Rattle.lent.proofs.Prelude.{ap, ◌∙◌}
use Rattle.debug_info.specs.Names.{getobjname}
use Rattle.debug_info.specs.Searched.{unsearched}
use Rattle.debug_info.specs.Calls.{name_refused, named, object_named}
use Rattle.debug_info.proofs.Calls.{register_listed}
use Rattle.debug_info.proofs.write_objname.Goals as goal

pub returns : goal.returns
unfolding object_named unsearched
returns c = let a = c.args in let out = a.out.now in let k = c.in_ok-pc.ensures in
    register_listed (name_refused out) (λ f. named (getobjname f a.pc a.stackpos) out) c.lists_at.ensures.store c.lists_at.ensures.lists
    (λ p fs h v. c.write_known.ensures ∙ ap (λ o. named o out) (rw (c.lists_at.ensures.store, k.found.0, k.found.1) at (c.getobjname-v.ensures _ p fs h v))) _ _ k.refused
