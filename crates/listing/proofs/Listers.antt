-- A function and those in it, listed one after the other.
use Rattle.lent.proofs.Prelude.{ℕ, suc, ◌+◌, ◌≤◌, min, ◌≡◌, refl, sym, ◌∙◌, Bool, List, [], ◌∷◌, arith, get_or}
use Rattle.lent.specs.Memory.{far}
use Rattle.lent.specs.Writer.{Writes}
use Rattle.lent.specs.declared.Writer.{Writer}
use Rattle.lent.proofs.Writers.{writes_none, writes_then}
use Rattle.format.specs.Tree.{Debug, Parts, Function, Functions, count, filled}
use Rattle.format.specs.Store.{word, debug_piece, function_piece, function_pieces}
use Rattle.format.specs.Valid.{ValidParts, Valid, ValidAll}
use Rattle.proto.specs.Walk.{Skips, Past, total, total_all, to_functions, PassesAll, StandsAt}
use Rattle.proto.proofs.Sublists.{here_get}
use Rattle.proto.proofs.Pieces.{stands_left}
use Rattle.proto.proofs.Walks.{all_none, all_more, past_word, past_stands, passes_past, passes_lines, passes_function}
use Rattle.proto.proofs.Items.{functions_stand}
use Rattle.listing.specs.Listing.{format_function, list_function_recursive, list_functions}
use Rattle.listing.specs.Lister.{Progress, progress, ListsFunction}

-- n functions, whichever they are
pub record ListsAll (words text : List ℕ) (full : Bool) (source : List ℕ) (allowance n : ℕ) (s r : Progress) : Type 0 where
  pub passes : PassesAll words allowance n s.next r.next
  pub writes : (fs : Functions) → ValidAll fs allowance → count fs ≡ n → StandsAt words text s.next.at (function_pieces fs) → s.next.number + total_all fs ≤ far → Writes (list_functions fs full source s.next.number) s.writer r.writer

module _ {words text : List ℕ} {full : Bool} {source : List ℕ} {allowance : ℕ} where
  pub lists_none : {s : Progress} → ListsAll words text full source allowance 0 s s
  unfolding count list_functions
  lists_none {s} = record { passes = all_none; writes = go }
    where
      go : (fs : Functions) → ValidAll fs allowance → count fs ≡ 0 → StandsAt words text s.next.at (function_pieces fs) → s.next.number + total_all fs ≤ far → Writes (list_functions fs full source s.next.number) s.writer s.writer
      go Functions.none v e x b = writes_none
      go (Functions.more f fs) v e x b = absurd (omega arith)

  -- an empty line, a function, and the others
  pub lists_more : {s m : Progress} {w : Writer} → Writes (10 ∷ []) s.writer w
      → ((f : Function) → Valid f allowance → ListsFunction words text full source f (progress s.next w) m)
      → (k : ℕ) (r : Progress) → ListsAll words text full source allowance k m r → ListsAll words text full source allowance (suc k) s r
  unfolding count ValidAll total_all function_pieces list_functions
  lists_more {s} {m} p l k r a = record { passes = all_more (λ f v. (l f v).passes) k r.next a.passes; writes = go }
    where
      go : (fs : Functions) → ValidAll fs allowance → count fs ≡ suc k → StandsAt words text s.next.at (function_pieces fs) → s.next.number + total_all fs ≤ far → Writes (list_functions fs full source s.next.number) s.writer r.writer
      go Functions.none v e x b = absurd (omega arith)
      go (Functions.more f fs) v e x b =
          let y = l f v.0 in
          let h = stands_left (function_piece f) (function_pieces fs) x.stands in
          let n : m.next.number ≡ s.next.number + total f = omega (arith, (y.passes.passes x.to h.in_words).1 (omega arith)) in
          let behind = past_stands {p = function_piece f} {q = function_pieces fs} (passes_past y.passes) x.stands in
          let others = rw n at (a.writes fs v.1 (omega arith) (record { to = _; stands = behind }) (omega arith)) in
          writes_then (writes_then p (y.writes (record { to = x.to; stands = h }) (omega arith))) others

-- a function: its own text, then those in it
pub lists_function : {words text outer source : List ℕ} {full : Bool} {list num first m end : ℕ} {w : Writer} {s r : Progress} (n : ℕ)
    → ((p : Parts) (fs : Functions) → StandsAt words text s.next.at (function_piece (Function.function p fs)) → source ≡ filled outer p.source)
    → ((p : Parts) (fs : Functions) → ValidParts p → ValidAll fs n → StandsAt words text s.next.at (function_piece (Function.function p fs)) → s.next.number + 1 + total_all fs ≤ far → Writes (format_function p fs full source s.next.number) s.writer w)
    → ((p : Parts) (fs : Functions) → Past words (to_functions p fs) s.next.at list) → num ≡ get_or words list 0 → Skips words 1 list first → m ≡ min (s.next.number + 1) far
    → ListsAll words text full source n num (progress (record { at = first; number = m }) w) r → ((d : Debug) → Past words (debug_piece d) r.next.at end)
    → (f : Function) → Valid f (suc n) → ListsFunction words text full outer f s (progress (record { at = end; number = r.next.number }) r.writer)
unfolding Valid total list_function_recursive
lists_function {words} {text} {outer} {source} {full} {m = m} {s = s} {r = r} n own-source own-text fu e k g all debug (Function.function p fs) v =
    record {
      passes = passes_function n (passes_lines e fu k g all.passes) debug refl (Function.function p fs) v;
      writes = λ x b.
          let q : source ≡ filled outer p.source = own-source p fs x in
          let children = functions_stand p fs x.stands (fu p fs) in
          let first = past_stands {p = word (count fs)} {q = function_pieces fs} (past_word (count fs) k) children in
          let many = e ∙ here_get (count fs) _ children.in_words in
          let a : m ≡ s.next.number + 1 = omega arith in
          let others = rw a at (all.writes fs v.2 (sym many) (record { to = _; stands = first }) (omega arith)) in
          rw (← q) (writes_then (own-text p fs v.0 v.2 x (omega arith)) others);
    }
