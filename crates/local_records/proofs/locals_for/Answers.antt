-- By the tests, in their order: what the walk finds stands there. Tried by an attribute: all three stay open, as the search gives up at a limit.
use Rattle.lent.proofs.Prelude.{◌<◌, ap, arith, length}
use Rattle.lent.specs.Memory.{far}
use Rattle.proto.specs.declared.store.Store.{Store}
use Rattle.local_records.proofs.Lookup.{for_8, for_11, for_0}
use Rattle.local_records.proofs.locals_for.Goals as goal

pub returns-then-records-count : goal.returns-then-records-count
returns-then-records-count c = search (for_8, c.in_ok-has_function.ensures, ap (λ (s : Store). s.words.now) c.lists_at-locals.ensures.store)

pub returns-then-out-known_len : goal.returns-then-out-known_len
returns-then-out-known_len c = let l : length c.args.out.now < far = omega arith in search (for_11, l, c.in_ok-has_function.ensures, ap (λ (s : Store). s.words.now) c.lists_at-locals.ensures.store)

pub returns : goal.returns
returns c = let l : length c.args.out.now < far = omega arith in search (for_0, l, c.in_ok-has_function.ensures, ap (λ (s : Store). s.words.now) c.lists_at-locals.ensures.store)
