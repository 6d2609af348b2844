-- A call that writes what the tree of a store gives: what is refused, and what is written.
use Rattle.std.specs.Prelude.{Option, Err, ok_or}
use Rattle.lent.proofs.Prelude.{ℕ, ◌≡◌, List}
use Rattle.lent.specs.Whole.{PutsWhole}
use Rattle.format.specs.Tree.{Function}
use Rattle.format.specs.Store.{words_of, text_of, function_piece}
use Rattle.format.specs.Refusal.{number}
use Rattle.format.specs.declared.Refusal.{Refusal}
use Rattle.format.specs.Valid.{Holds}
use Rattle.format.specs.Dump.{write_refused, written, written_left, on_tree, name_refusal, store_refusal, on_store}
use Rattle.format.proofs.Refusals.{refusal_above, name_good, by_name}
use Rattle.format.proofs.Writing.{written_whole}
use Rattle.proto.specs.Walk.{Stands}
use Rattle.proto.proofs.Sublists.{whole_here}
use Rattle.proto.proofs.Stores.{held_tree, no_tree}

-- the root stands at the beginning of its store
pub root_stands : {words text : List ℕ} {f : Function} → Holds words text f → Stands words text 0 0 (function_piece f)
root_stands {words} {text} {f} h = record { in_words = whole_here (words_of f) words h.words_are; in_text = whole_here (text_of f) text h.text_is }

module _ (bytes : Function → List ℕ) (words text name out : List ℕ) where
  pub refused_name : (e : Refusal) → number e ≡ name_refusal name → written_left (Err e) out ≡ on_store bytes words text name out
  refused_name e h = by_name name (λ n. write_refused n out) _ (refusal_above e) h

  pub refused_store : (e : Refusal) → 0 ≡ name_refusal name → number e ≡ store_refusal words text → written_left (Err e) out ≡ on_store bytes words text name out
  refused_store e n h =
      rw (name_good name n)
      (no_tree words text (λ x. write_refused (number e) out ≡ on_tree (λ n. write_refused n out) (λ f. written (bytes f) out) x) (refusal_above e) h (λ k. rw k))

  -- written whole, or refused by 11
  pub all_written : {n : Option ℕ} {out' : List ℕ} → 0 ≡ name_refusal name → 0 ≡ store_refusal words text → ((f : Function) → Holds words text f → PutsWhole (bytes f) out n out')
      → written_left (ok_or n Refusal.TooLittleOutput) out' ≡ on_store bytes words text name out
  all_written {n} {out'} e h w =
      rw (name_good name e)
      (held_tree words text (λ x. written_left (ok_or n Refusal.TooLittleOutput) out' ≡ on_tree (λ n. write_refused n out) (λ f. written (bytes f) out) x) h
      (λ f t. written_whole (w f t)))
