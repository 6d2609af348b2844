-- Where has_room has room, any chunk of the tree that the store holds fits; else it is counted first.
-- Tried by an attribute with these laws: both stay open.
use Rattle.lent.proofs.Prelude.{◌≤◌, length, ap, arith}
use Rattle.lent.proofs.Writes.{whole_fits}
use Rattle.format.specs.Tree.{Function}
use Rattle.format.specs.Valid.{Holds}
use Rattle.format.specs.Write.{dump_chunk}
use Rattle.format.specs.Dump.{dumped}
use Rattle.proto.proofs.Calls.{all_written}
use Rattle.dump.proofs.Bounds.{chunk_bound}
use Rattle.dump.proofs.Room.{counted_fits, counted_long}
use Rattle.dump.proofs.dump_store.Goals as goal
use Rattle.dump.proofs.dump_store.Goals.{then-not-has_room+else-out-len, else-not-has_room}

pub returns-then-out-len : goal.returns-then-out-len
unfolding dumped
returns-then-out-len c =
    all_written (λ f. dump_chunk c.args.options.strip c.args.options.size_4 c.args.name.now f) _ _ _ _ c.in_ok-check_name.ensures c.in_ok-check_held.ensures (λ f t. counted_long c.args.out.now c.if-out-len.true (c.dump_chunk-len.ensures f t))

pub returns : goal.returns
unfolding dumped
returns c =
    all_written (λ f. dump_chunk c.args.options.strip c.args.options.size_4 c.args.name.now f) _ _ _ _ c.in_ok-check_name.ensures c.in_ok-check_held.ensures
    (λ f t. whole_fits (omega (arith, c.well_formed)) (room f t) (c.dump_chunk.ensures f t))
  where
    room : (f : Function) → Holds c.args.store.words.now c.args.store.text.now f → length (dump_chunk c.args.options.strip c.args.options.size_4 c.args.name.now f) ≤ length c.args.out.now
    room f t = elim c.if-not-has_room.branch [
      | then-not-has_room+else-out-len w ↦ counted_fits c.args.out.now w.if-out-len.false (omega (arith, c.well_formed)) (w.dump_chunk-len.ensures f t)
      | else-not-has_room w ↦ omega (arith, chunk_bound f c.args.options.strip c.args.options.size_4 c.args.name.now, ap length t.words_are, ap length t.text_is, c.has_room.ensures w.if-not-has_room.false)
    ]
