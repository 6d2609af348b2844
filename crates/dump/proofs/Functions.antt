-- Functions: their source, and their parts one behind the other.
use Rattle.lent.proofs.Prelude.{ℕ, suc, ◌≡◌, refl, sym, ap, ◌∙◌, List, [], ◌∷◌, ◌++◌, append_assoc, Bool, true, false, not, cond, arith, length, get_or, eqb, ne_eqb}
use Rattle.std.specs.Prelude.{Option, None, Some}
use Rattle.std.specs.Borrow.{Bor}
use Rattle.std.specs.Bool.{then_some}
use Rattle.lent.specs.Memory.{Every}
use Rattle.lent.specs.Memory.{Puts}
use Rattle.format.specs.Tree.{Constant as Value}
use Rattle.format.specs.Tree.{Source, Parts, Function, Functions, count, filled}
use Rattle.format.specs.Read.{same}
use Rattle.format.specs.Store.{Piece, ◌⊕◌, list, source_piece, constant_piece, function_piece}
use Rattle.format.specs.Valid.{Valid, ValidAll}
use Rattle.format.specs.Write.{dump_int, dump_size, dump_string, dump_text, dump_list, dump_constant, dump_constants, dump_function, dump_functions, elided, each}
use lib.Pointwise.{pointwise}
use Rattle.format.proofs.RoundTrip.{same_is}
use Rattle.proto.specs.Walk.{Stands, Skips, children}
use Rattle.proto.proofs.Sublists.{here_get}
use Rattle.proto.proofs.Items.{source_stands}
use Rattle.proto.proofs.Pieces.{Same, same_is as same-pieces, same_refl, same_sym, same_assoc, same_behind, source_words}
use Rattle.proto.proofs.Walks.{past_words}
use Rattle.proto.proofs.Stores.{children_count, children_list, every_valid}
use Rattle.dump.specs.Step.{Progress, Dumps, constants_piece, parts_piece, dump_parts, as_source}
use Rattle.dump.specs.declared.list.Dumper.{Dumper}
use Rattle.dump.proofs.Steps.{place, dumps_then, dumps_past, dumps_as}

-- ---- the source

-- one is written where it is not the one around it
source_kept : (b : Bool) (source : Bor (List ℕ)) → as_source (then_some (not b) source) ≡ cond b Source.inherited (Source.own source.now)
source_kept true source = refl
source_kept false source = refl

pub source_written : {v : Option (Bor (List ℕ))} {b : Bool} (around : List ℕ) (source : Bor (List ℕ)) → v ≡ then_some b source → b ≡ not (same source.now around) → as_source v ≡ elided around source.now
source_written around source e h = rw (e, h) (source_kept (same source.now around) source)

-- the root's is compared with the empty string
pub elided_root : (source : List ℕ) → eqb (length source) 0 ≡ same source []
unfolding same
elided_root [] = refl
elided_root (a ∷ source) = ne_eqb (suc (length source)) 0 (λ z. omega arith)

-- the test of two slices by == is the definition's
same_slices : (a b : List ℕ) → pointwise eqb a b ≡ same a b
unfolding same
same_slices [] [] = refl
same_slices [] (b ∷ t) = refl
same_slices (a ∷ s) [] = refl
same_slices (a ∷ s) (b ∷ t) = rw (same_slices s t) refl

-- an inherited one is the one around it, and any other is compared with it
module _ {b : Bool} (outer source : List ℕ) where
  pub elided_inherited : {words t : List ℕ} {at to x : ℕ} (s : Source) → b ≡ not (eqb x 0) → x ≡ get_or words at 0 → x ≡ 0 → Stands words t at to (source_piece s) → source ≡ filled outer s → b ≡ not (same source outer)
  elided_inherited Source.inherited e g z h f = e ∙ rw (z, f, same_is true outer outer ((λ k. refl), λ k. refl))
  elided_inherited (Source.own s) e g z h f = absurd (omega (arith, here_get 1 _ h.in_words))

  pub elided_compared : b ≡ not (pointwise eqb source outer) → b ≡ not (same source outer)
  elided_compared e = e ∙ ap not (same_slices source outer)

module _ {d : Dumper} (size4 : Bool) {at to len r : ℕ} {out out' : List ℕ} where
  pub source_none : {v : Option (Bor (List ℕ))} → v ≡ None → Puts (dump_size size4 0) len out r out' → Skips d.store.words.now 3 at to
      → (s : Source) → Dumps d (source_piece s) (dump_string size4 (as_source v)) (place at len out) (place to r out')
  source_none e p k s = dumps_past (past_words 3 (source_piece s) (source_words s) k) (λ t h. rw e p)

  pub source_own : {v : Option (Bor (List ℕ))} {source : Bor (List ℕ)} → v ≡ Some source → Puts (dump_text size4 source.now) len out r out' → Skips d.store.words.now 3 at to
      → (s : Source) → Dumps d (source_piece s) (dump_string size4 (as_source v)) (place at len out) (place to r out')
  source_own e p k s = dumps_past (past_words 3 (source_piece s) (source_words s) k) (λ t h. rw e p)

-- ---- the constants and the functions

-- the functions in a function, as a list
children_bytes : (fs : Functions) (strip size4 : Bool) (source : List ℕ) → each (λ f. dump_function f strip size4 source source) (children fs) ≡ dump_functions fs strip size4 source
unfolding each children dump_functions
children_bytes Functions.none strip size4 source = refl
children_bytes (Functions.more f fs) strip size4 source = rw (children_bytes fs strip size4 source)

-- the functions in a function stand behind its constants as a list
pub constants_list : (ks : List Value) (fs : Functions) → Same (constants_piece ks fs) (list constant_piece ks ⊕ list function_piece (children fs))
constants_list ks fs = same_behind (list constant_piece ks) (same-pieces (sym (children_list fs)))

module _ (strip size4 : Bool) (source : List ℕ) where
  -- how a function in one with this source is written
  abbrev pub inner_bytes : Function → List ℕ
  inner_bytes f = dump_function f strip size4 source source

  pub constants_bytes : (ks : List Value) (fs : Functions) → dump_constants size4 ks (count fs) (dump_functions fs strip size4 source) ≡ dump_list (dump_constant size4) ks ++ dump_list inner_bytes (children fs)
  constants_bytes ks fs = append_assoc (dump_list (dump_constant size4) ks) (dump_int (count fs)) (dump_functions fs strip size4 source) ∙ rw (children_count fs, children_bytes fs strip size4 source)

  module _ {d : Dumper} {s a r : Progress} (n : ℕ) where
    pub constants_dumped : ((l : List Value) → Dumps d (list constant_piece l) (dump_list (dump_constant size4) l) s a)
        → ((l : List Function) → Every (λ f. Valid f n) l → Dumps d (list function_piece l) (dump_list inner_bytes l) a r)
        → (ks : List Value) (fs : Functions) → ValidAll fs n → Dumps d (constants_piece ks fs) (dump_constants size4 ks (count fs) (dump_functions fs strip size4 source)) s r
    constants_dumped x y ks fs v = dumps_as (constants_list ks fs) (constants_bytes ks fs) (dumps_then (x ks) (y (children fs) (every_valid n fs v)))

-- ---- a function

pub seven : (x₁ x₂ x₃ x₄ x₅ x₆ x₇ : List ℕ) → x₁ ++ x₂ ++ x₃ ++ x₄ ++ x₅ ++ x₆ ++ x₇ ≡ x₁ ++ (x₂ ++ (x₃ ++ (x₄ ++ (x₅ ++ (x₆ ++ x₇)))))
seven x₁ x₂ x₃ x₄ x₅ x₆ x₇ = simp append_assoc

-- five parts, of which the first and the fourth have two pieces each
module _ {d : Dumper} {s b c e f r : Progress} where
  pub dumps_five : {p₂ p₃ p₅ : Piece} (p₁ p₁′ p₄ p₄′ : Piece) {x₁ x₂ x₃ x₄ x₅ : List ℕ} → Dumps d (p₁ ⊕ p₁′) x₁ s b → Dumps d p₂ x₂ b c → Dumps d p₃ x₃ c e → Dumps d (p₄ ⊕ p₄′) x₄ e f → Dumps d p₅ x₅ f r
      → Dumps d (p₁ ⊕ p₁′ ⊕ p₂ ⊕ p₃ ⊕ p₄ ⊕ p₄′ ⊕ p₅) (x₁ ++ x₂ ++ x₃ ++ x₄ ++ x₅) s r
  dumps_five {p₂} {p₃} {p₅} p₁ p₁′ p₄ p₄′ u₁ u₂ u₃ u₄ u₅ =
      let behind = dumps_as (same_sym (same_assoc p₄ p₄′ p₅)) refl (dumps_then u₄ u₅) in
      dumps_as (same_sym (same_assoc p₁ p₁′ (p₂ ⊕ p₃ ⊕ p₄ ⊕ p₄′ ⊕ p₅))) (simp append_assoc) (dumps_then u₁ (dumps_then u₂ (dumps_then u₃ behind)))

-- six parts, of which the fifth has two pieces
module _ {d : Dumper} {s a b c e f r : Progress} where
  pub dumps_six : {p₁ p₂ p₃ p₄ p₆ : Piece} (p₅ p₅′ : Piece) {x₁ x₂ x₃ x₄ x₅ x₆ : List ℕ} → Dumps d p₁ x₁ s a → Dumps d p₂ x₂ a b → Dumps d p₃ x₃ b c → Dumps d p₄ x₄ c e → Dumps d (p₅ ⊕ p₅′) x₅ e f → Dumps d p₆ x₆ f r
      → Dumps d (p₁ ⊕ p₂ ⊕ p₃ ⊕ p₄ ⊕ p₅ ⊕ p₅′ ⊕ p₆) (x₁ ++ x₂ ++ x₃ ++ x₄ ++ x₅ ++ x₆) s r
  dumps_six {p₁} {p₂} p₅ p₅′ u₁ u₂ u₃ u₄ u₅ u₆ = dumps_five p₁ p₂ p₅ p₅′ (dumps_then u₁ u₂) u₃ u₄ u₅ u₆

-- a function: its source, then what stands behind it
module _ {d : Dumper} {s m r : Progress} (strip size4 : Bool) (around outer source : List ℕ) (o : Source) where
  pub source_then_parts : (p : Parts) (fs : Functions) → ((to : ℕ) → Stands d.store.words.now d.store.text.now s.at to (source_piece p.source) → (source ≡ filled outer p.source) × (o ≡ elided around source))
      → Dumps d (source_piece p.source) (dump_string size4 o) s m → Dumps d (parts_piece p fs) (dump_parts strip size4 source p fs) m r
      → Dumps d (function_piece (Function.function p fs)) (dump_function (Function.function p fs) strip size4 around outer) s r
  unfolding function_piece dump_function
  source_then_parts p fs e x y =
      record {
        dumps = λ to h.
            let q = e to (source_stands p fs h) in
            let bytes : dump_function (Function.function p fs) strip size4 around outer ≡ dump_string size4 o ++ dump_parts strip size4 source p fs = rw (q.1, q.0) (simp append_assoc) in
            (dumps_as same_refl bytes (dumps_then x y)).dumps to h;
      }
