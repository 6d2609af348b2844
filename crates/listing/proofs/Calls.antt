-- The root of a store, listed.
use Rattle.lent.proofs.Prelude.{ℕ, ◌+◌, ◌≤◌, ◌≡◌, sym, ap, Bool, List, arith, length, length-append}
use Rattle.lent.specs.Memory.{Puts}
use Rattle.lent.specs.Writer.{Writes}
use Rattle.lent.specs.declared.Writer.{Writer}
use Rattle.format.specs.Tree.{Function, Functions}
use Rattle.format.specs.Store.{debug_piece, function_piece, function_pieces, children_piece}
use Rattle.format.specs.Valid.{depth, Valid, Holds}
use Rattle.proto.specs.Walk.{total, total_all, to_functions, to_lines}
use Rattle.proto.proofs.Pieces.{function_debug}
use Rattle.proto.proofs.Calls.{root_stands}
use Rattle.listing.specs.Listing.{list_function}
use Rattle.listing.specs.Lister.{Progress, progress, ListsFunction}

-- a tree has no more functions than words
mutual
  unfolding total total_all function_piece function_pieces

  total_words : (f : Function) (to : ℕ) → total f ≤ length ((function_piece f).words to)
  total_words (Function.function p fs) to =
      let at = to + length (to_functions p fs).text in
      let inside = totals_words fs (at + 0) in
      omega (
        arith,
        ap length ((function_debug p fs).words to),
        length-append ((to_lines p fs).words to) ((debug_piece p.debug).words (to + length (to_lines p fs).text)),
        length-append ((to_functions p fs).words to) ((children_piece fs).words at),
      )

  totals_words : (fs : Functions) (to : ℕ) → total_all fs ≤ length ((function_pieces fs).words to)
  totals_words Functions.none to = omega arith
  totals_words (Functions.more f fs) to =
      let a = total_words f to in
      let b = totals_words fs (to + length (function_piece f).text) in
      omega (arith, length-append ((function_piece f).words to) ((function_pieces fs).words (to + length (function_piece f).text)))

-- a writer is given up, and its bytes are those that it was lent
pub writes_end : {items out : List ℕ} {w w' : Writer} → Writes items w w' → (w.out.ghost_name ≡ w'.out.ghost_name → out ≡ w'.out.now) → Puts items w.at w.out.now w'.at out
writes_end p e = rw (e (sym p.same)) p.puts

-- the root, listed at the beginning of the output
pub root_writes : {words text name : List ℕ} {full : Bool} {w : Writer} {r : Progress}
    → ((f : Function) → Valid f depth → ListsFunction words text full name f (progress (record { at = 0; number = 1 }) w) r)
    → (f : Function) → Holds words text f → Writes (list_function f full name) w r.writer
root_writes l f h =
    let n = total_words f 0 in
    (l f h.valid).writes (record { to = 0; stands = root_stands h }) (omega (arith, ap length h.words_are, h.words_fit))
