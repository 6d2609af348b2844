-- What the check of each part of a function finds, and of a whole store: it holds where, and only where, the store holds a tree.
use Rattle.lent.proofs.Prelude.{add-zero, add_assoc, append_assoc, length-append, zero-add, ℕ, zero, suc, zero-le, ◌+◌, ◌-◌, ◌*◌, ◌/◌, ◌%◌, ◌≤◌, ◌<◌, ◌≡◌, refl, sym, ap, ◌∙◌, List, [], ◌∷◌, Bool, true, false, cond, Option, none, some, arith, ℕ_discrete, length, get_or, eqb, eq-eqb, ne_eqb}
use Rattle.std.specs.Prelude.{Option as Answer, Some, None, ◌&&◌}
use Rattle.std.specs.Option.{option_eq}
use Rattle.std.proofs.lemmas.Option.{same_Some}
use Rattle.lent.specs.Memory.{Every, Word, Bytes}
use Rattle.format.specs.Tree.{Constant, Source, Debug, Parts, Function, Functions, count}
use Rattle.format.specs.Store.{Piece, ◌⊕◌, plain, word, string, pieces, list, ints, source_piece, constant_piece, local_piece, debug_piece, packed, function_piece, function_pieces, words_of, text_of, children_piece}
use Rattle.format.specs.Stored.{tree_of}
use Rattle.format.specs.Dump.{on_tree, store_refusal}
use Rattle.format.specs.Valid.{depth, most, Name, ValidSource, ValidConstant, ValidLocal, ValidList, ValidDebug, ValidParts, Valid, ValidAll, Holds}
use Rattle.format.specs.contracts.ConstantsStoredItem.TheImpl.{ghosts as Constants}
use Rattle.format.proofs.Stored.{holds_tree, tree_holds}
use Rattle.proto.specs.declared.formed.Places.{Places}
use Rattle.proto.specs.Walk.{Stands, children}
use Rattle.proto.specs.Formed.{behind, Both, beside, Check, Within, Many, Room, three, Three, ValidChildren}
use Rattle.proto.proofs.Sublists.{room_short, here_get, here_whole, whole_here}
use Rattle.proto.proofs.Pieces.{Same, same_sym, same_refl, same_is}
use Rattle.proto.proofs.Walks.{none_deep}
use Rattle.proto.proofs.Checks.{no_answer, As, check_wrong, check_as, check_of, check_then, check_stop}

-- the first word of a constant
abbrev kind_of : Constant → ℕ
kind_of Constant.nil = 0
kind_of (Constant.bool b) = 1
kind_of (Constant.num high low) = 3
kind_of (Constant.str s) = 4

bit : (n : ℕ) → n ≤ 1 → ◌≡◌ {A = ℕ} (cond (eqb n 1) 1 0) n
bit zero h = refl
bit (suc zero) h = refl
bit (suc (suc n)) h = absurd (omega arith)

bit_small : (b : Bool) → cond b 1 0 ≤ 1
bit_small true = omega arith
bit_small false = omega arith

module _ {words text : List ℕ} where
  -- ---- sources

  pub inherited_checked : {x : ℕ} {s : Places} {r : Answer Places} → x ≡ get_or words s.at 0 → x ≡ 0 → Check words text (Three 0 0 0) three s r → Check words text ValidSource source_piece s r
  inherited_checked e z c =
      check_as
      (λ w k.
      let e₂ : w.second ≡ 0 = omega (arith, k.second) in
      let e₃ : w.third ≡ 0 = omega (arith, k.third) in
      record { value = Source.inherited; valid = tt; same = rw (k.is, e₂, e₃) same_refl })
      (elim [
        | Source.inherited ↦ λ k h. record { value = record { first = 0; second = 0; third = 0 }; valid = record { is = refl; second = zero-le; third = zero-le }; same = same_refl }
        | Source.own l ↦ λ k h. absurd (omega (arith, here_get 1 _ h.in_words))
      ])
      c

  pub own_checked : {x : ℕ} {s : Places} {r : Answer Places} → x ≡ get_or words s.at 0 → 0 < x → Check words text (Both (Within 1 1) (λ n. Name n)) (beside word string) s r → Check words text ValidSource source_piece s r
  unfolding Both beside
  own_checked e z c =
      check_as (λ v k. let g : v.0 ≡ 1 = omega (arith, k.0.above, k.0.below) in record { value = Source.own v.1; valid = k.1; same = rw g same_refl })
      (elim [
        | Source.inherited ↦ λ k h. absurd (omega (arith, here_get 0 _ h.in_words))
        | Source.own l ↦ λ k h. record { value = (1, l); valid = (record { above = omega arith; below = omega arith }, k); same = same_refl }
      ])
      c

  pub own_then : {x : ℕ} {s m : Places} {r : Answer Places} → x ≡ get_or words s.at 0 → 0 < x → Check words text (Within 1 1) word s (Some m) → Check words text (λ n. Name n) string m r → Check words text ValidSource source_piece s r
  own_then e z c d = own_checked e z (check_then c d)

  pub own_stop : {x : ℕ} {s : Places} → x ≡ get_or words s.at 0 → 0 < x → Check words text (Within 1 1) word s None → Check words text ValidSource source_piece s None
  own_stop e z c = own_checked e z (check_stop _ _ c)

  -- ---- constants

  kind_here : {at to : ℕ} (k : Constant) → Stands words text at to (constant_piece k) → get_or words at 0 ≡ kind_of k
  kind_here Constant.nil h = here_get 0 _ h.in_words
  kind_here (Constant.bool b) h = here_get 1 _ h.in_words
  kind_here (Constant.num high low) h = here_get 3 _ h.in_words
  kind_here (Constant.str s) h = here_get 4 _ h.in_words

  module _ {x : ℕ} {s : Places} {r : Answer Places} (e : x ≡ get_or words s.at 0) where
    -- nil and false take no second word but 0, and true takes 1
    pub constant_plain : x ≤ 1 → Check words text (Three x x 0) three s r → Check words text ValidConstant constant_piece s r
    constant_plain h c = check_as (λ w k. let z : w.third ≡ 0 = omega (arith, k.third) in rw z (to w.first w.second (omega (arith, k.is)) (omega (arith, k.is, k.second)))) from c
      where
        to : (u v : ℕ) → u ≤ 1 → v ≤ u → As ValidConstant constant_piece (three (record { first = u; second = v; third = 0 }))
        to zero v h l = let z : v ≡ 0 = omega arith in rw z (record { value = Constant.nil; valid = tt; same = same_refl })
        to (suc zero) v h l = record { value = Constant.bool (eqb v 1); valid = tt; same = rw (bit v l) same_refl }
        to (suc (suc u)) v h l = absurd (omega arith)

        from : (v : Constant) → ValidConstant v → Stands words text s.at s.to (constant_piece v) → As (Three x x 0) three (constant_piece v)
        from Constant.nil k t =
            record { value = record { first = 0; second = 0; third = 0 }; valid = record { is = sym (e ∙ kind_here Constant.nil t); second = zero-le; third = zero-le }; same = same_refl }
        from (Constant.bool b) k t =
            let z = kind_here (Constant.bool b) t in
            record { value = record { first = 1; second = cond b 1 0; third = 0 }; valid = record { is = sym (e ∙ z); second = omega (arith, bit_small b); third = zero-le }; same = same_refl }
        from (Constant.num high low) k t = absurd (omega (arith, kind_here (Constant.num high low) t))
        from (Constant.str l) k t = absurd (omega (arith, kind_here (Constant.str l) t))

    pub num_checked : x ≡ 3 → Check words text (Three 3 4294967295 4294967295) three s r → Check words text ValidConstant constant_piece s r
    num_checked z c =
        check_as (λ w k. record { value = Constant.num w.second w.third; valid = (omega (arith, k.second), omega (arith, k.third)); same = rw k.is same_refl })
        (elim [
          | Constant.nil ↦ λ k h. absurd (omega (arith, kind_here Constant.nil h))
          | Constant.bool b ↦ λ k h. absurd (omega (arith, kind_here (Constant.bool b) h))
          | Constant.num high low ↦ λ k h. record { value = record { first = 3; second = high; third = low }; valid = record { is = refl; second = omega (arith, k.0); third = omega (arith, k.1) }; same = same_refl }
          | Constant.str l ↦ λ k h. absurd (omega (arith, kind_here (Constant.str l) h))
        ])
        c

    -- none of the kinds above
    pub str_checked : (x ≡ 0 → ⊥) → (x ≡ 1 → ⊥) → (x ≡ 3 → ⊥) → Check words text (Both (Within 4 4) Bytes) (beside word string) s r → Check words text ValidConstant constant_piece s r
    unfolding Both beside
    str_checked n₀ n₁ n₃ c =
        check_as (λ v k. let g : v.0 ≡ 4 = omega (arith, k.0.above, k.0.below) in record { value = Constant.str v.1; valid = k.1; same = rw g same_refl })
        (elim [
          | Constant.nil ↦ λ k t. absurd (n₀ (e ∙ kind_here Constant.nil t))
          | Constant.bool b ↦ λ k t. absurd (n₁ (e ∙ kind_here (Constant.bool b) t))
          | Constant.num high low ↦ λ k t. absurd (n₃ (e ∙ kind_here (Constant.num high low) t))
          | Constant.str l ↦ λ k t. record { value = (4, l); valid = (record { above = omega arith; below = omega arith }, k); same = same_refl }
        ])
        c

    pub str_then : {m : Places} → (x ≡ 0 → ⊥) → (x ≡ 1 → ⊥) → (x ≡ 3 → ⊥) → Check words text (Within 4 4) word s (Some m) → Check words text Bytes string m r → Check words text ValidConstant constant_piece s r
    str_then n₀ n₁ n₃ c d = str_checked n₀ n₁ n₃ (check_then c d)

  pub str_stop : {x : ℕ} {s : Places} → x ≡ get_or words s.at 0 → (x ≡ 0 → ⊥) → (x ≡ 1 → ⊥) → (x ≡ 3 → ⊥) → Check words text (Within 4 4) word s None → Check words text ValidConstant constant_piece s None
  str_stop e n₀ n₁ n₃ c = str_checked e n₀ n₁ n₃ (check_stop _ _ c)

  -- none stands where its words are not all there
  pub constant_short : {b : Bool} {s : Places} → Room b (length words) s.at Constants.WORDS → b ≡ false → Check words text ValidConstant constant_piece s None
  constant_short {s = s} room e = check_wrong (λ v k t. room_short room e (Constants.size v s.to) t.in_words)

  -- ---- locals

  pub local_checked : {s : Places} {r : Answer Places} → Check words text (Both (λ n. Name n) (Many Word 2)) (beside string plain) s r → Check words text ValidLocal local_piece s r
  unfolding Both beside Every
  local_checked c = check_as (λ v k. to v.0 k.0 v.1 k.1) (λ v k h. record { value = (v.name, v.start ∷ v.end ∷ []); valid = (k.name, (refl, (k.start, (k.end, tt)))); same = same_refl }) c
    where
      to : (name : List ℕ) → Name name → (l : List ℕ) → Many Word 2 l → As ValidLocal local_piece (string name ⊕ plain l)
      to name k (start ∷ end ∷ []) h = record { value = record { name = name; start = start; end = end }; valid = record { name = k; start = h.1.0; end = h.1.1.0 }; same = same_refl }
      to name k [] h = absurd (omega (arith, h.0))
      to name k (a ∷ []) h = absurd (omega (arith, h.0))
      to name k (a ∷ b ∷ c ∷ l) h = absurd (omega (arith, h.0))

-- ---- the functions in a function

abbrev functions_of : List Function → Functions
functions_of [] = Functions.none
functions_of (f ∷ l) = Functions.more f (functions_of l)

children_of : (l : List Function) → children (functions_of l) ≡ l
unfolding children
children_of [] = refl
children_of (f ∷ l) = rw (children_of l)

pub children_count : (fs : Functions) → length (children fs) ≡ count fs
unfolding children count
children_count Functions.none = refl
children_count (Functions.more f fs) = ap suc (children_count fs)

pub children_pieces : (fs : Functions) → pieces function_piece (children fs) ≡ function_pieces fs
unfolding children pieces function_pieces
children_pieces Functions.none = refl
children_pieces (Functions.more f fs) = rw (children_pieces fs)

pub every_valid : (n : ℕ) (fs : Functions) → ValidAll fs n → Every (λ f. Valid f n) (children fs)
unfolding children ValidAll Every
every_valid n Functions.none v = tt
every_valid n (Functions.more f fs) v = (v.0, every_valid n fs v.1)

valid_every : (n : ℕ) (fs : Functions) → Every (λ f. Valid f n) (children fs) → ValidAll fs n
unfolding children ValidAll Every
valid_every n Functions.none v = tt
valid_every n (Functions.more f fs) v = (v.0, valid_every n fs v.1)

pub children_list : (fs : Functions) → list function_piece (children fs) ≡ children_piece fs
children_list fs = rw (children_count fs, children_pieces fs)

module _ {words text : List ℕ} where
  pub children_checked : {s : Places} {r : Answer Places} {n : ℕ} → Check words text (ValidList (λ f. Valid f n)) (list function_piece) s r → Check words text (ValidChildren n) children_piece s r
  children_checked {n = n} c =
      check_as
      (λ l k.
      let e = children_of l in
      let fs = functions_of l in
      record {
        value = fs;
        valid = record { short = rw (← children_count fs, e) k.short; all = valid_every n fs (rw e k.items) };
        same = rw (← children_list fs, e) same_refl;
      })
      (λ fs k h. record { value = children fs; valid = record { items = every_valid n fs k.all; short = rw (children_count fs) k.short }; same = same_is (children_list fs) })
      c

-- ---- functions

module _ {words text : List ℕ} where
  pub debug_checked : {s : Places} {r : Answer Places} → Check words text (Both (ValidList Word) (Both (ValidList ValidLocal) (ValidList (λ n. Name n)))) (beside ints (beside (list local_piece) (list string))) s r
      → Check words text ValidDebug debug_piece s r
  unfolding Both beside
  debug_checked c =
      check_as
      (λ v k. record { value = record { lines = v.0; locals = v.1.0; upvalues = v.1.1 }; valid = record { lines = k.0; locals = k.1.0; upvalues = k.1.1 }; same = same_refl })
      (λ v k h. record { value = (v.lines, (v.locals, v.upvalues)); valid = (k.lines, (k.locals, k.upvalues)); same = same_refl })
      c

-- a function, with the four bytes of its packed word
abbrev parts_from : Source → ℕ → ℕ → ℕ → List ℕ → List Constant → Debug → Parts
parts_from source first last w code constants debug =
    record {
      source = source;
      line_defined = first;
      last_line_defined = last;
      num_upvalues = w / 16777216;
      num_params = w / 65536 % 256;
      is_vararg = w / 256 % 256;
      max_stack_size = w % 256;
      code = code;
      constants = constants;
      debug = debug;
    }

packed_word : (w : ℕ) → Word w → ((w / 16777216 * 256 + w / 65536 % 256) * 256 + w / 256 % 256) * 256 + w % 256 ≡ w
packed_word w h = omega arith

same_grouped : (s : Piece) (a b c : ℕ) (code ks fs d : Piece) → Same (s ⊕ word a ⊕ word b ⊕ word c ⊕ code ⊕ ks ⊕ fs ⊕ d) ((s ⊕ plain (a ∷ b ∷ c ∷ []) ⊕ code ⊕ ks) ⊕ fs ⊕ d)
same_grouped s a b c code ks fs d = record { words = λ to. simp (append_assoc, length-append, add_assoc, add-zero, zero-add); text = simp append_assoc }

word_packed : (p : Parts) → ValidParts p → Word (packed p)
word_packed p v = omega arith

module _ {words text : List ℕ} where
  -- its parts, one behind the other
  pub function_checked : {allowance : ℕ} {s : Places} {r : Answer Places} → (allowance ≡ 0 → ⊥)
      → Check words text
      (Both (Both ValidSource (Both (Many Word 3) (Both (ValidList Word) (ValidList ValidConstant)))) (Both (ValidChildren (allowance - 1)) ValidDebug))
      (beside (beside source_piece (beside plain (beside ints (list constant_piece)))) (beside children_piece debug_piece))
      s r
      → Check words text (λ k. Valid k allowance) function_piece s r
  unfolding Valid function_piece Both beside Every
  function_checked {allowance} z c =
      let y : allowance ≡ suc (allowance - 1) = omega arith in
      rw y
      (check_of
      c
      (λ v k. to v.0.0 v.0.1.0 v.0.1.1.0 v.0.1.1.1 v.1.0 v.1.1 k)
      (elim [
        | Function.function p fs ↦ λ k h. record {
          value = ((p.source, (p.line_defined ∷ p.last_line_defined ∷ packed p ∷ [], (p.code, p.constants))), (fs, p.debug));
          valid = (
            (k.0.source, ((refl, (k.0.line_defined, (k.0.last_line_defined, (word_packed p k.0, tt)))), (k.0.code, k.0.constants))),
            (record { short = k.1; all = k.2 }, k.0.debug),
          );
          same = same_sym (same_grouped (source_piece p.source) p.line_defined p.last_line_defined (packed p) (ints p.code) (list constant_piece p.constants) (children_piece fs) (debug_piece p.debug));
        }
      ]))
    where
      to : (source : Source) (l : List ℕ) (code : List ℕ) (constants : List Constant) (fs : Functions) (debug : Debug)
          → ((ValidSource source × (Many Word 3 l × (ValidList Word code × ValidList ValidConstant constants))) × (ValidChildren (allowance - 1) fs × ValidDebug debug))
          → As (λ k. Valid k (suc (allowance - 1))) function_piece ((source_piece source ⊕ plain l ⊕ ints code ⊕ list constant_piece constants) ⊕ children_piece fs ⊕ debug_piece debug)
      to source (first ∷ last ∷ w ∷ []) code constants fs debug k =
          record {
            value = Function.function (parts_from source first last w code constants debug) fs;
            valid = (
              record {
                source = k.0.0;
                line_defined = k.0.1.0.1.0;
                last_line_defined = k.0.1.0.1.1.0;
                num_upvalues = omega (arith, k.0.1.0.1.1.1.0);
                num_params = omega arith;
                is_vararg = omega arith;
                max_stack_size = omega arith;
                code = k.0.1.1.0;
                constants = k.0.1.1.1;
                debug = k.1.1;
              },
              k.1.0.short,
              k.1.0.all,
            );
            same = rw (packed_word w k.0.1.0.1.1.1.0) (same_grouped (source_piece source) first last w (ints code) (list constant_piece constants) (children_piece fs) (debug_piece debug));
          }
      to source [] code constants fs debug k = absurd (omega (arith, k.0.1.0.0))
      to source (a ∷ []) code constants fs debug k = absurd (omega (arith, k.0.1.0.0))
      to source (a ∷ b ∷ []) code constants fs debug k = absurd (omega (arith, k.0.1.0.0))
      to source (a ∷ b ∷ c ∷ d ∷ l) code constants fs debug k = absurd (omega (arith, k.0.1.0.0))

  pub function_deep : {n : ℕ} {s : Places} → n ≡ 0 → Check words text (λ f. Valid f n) function_piece s None
  function_deep e = check_wrong (λ f k t. none_deep e f k)

-- ---- a whole store

-- what is shown of every tree that the store holds, or of none, is shown of tree_of
module _ (words text : List ℕ) where
  pub held_tree : (P : Option Function → Type 0) → 0 ≡ store_refusal words text → ((f : Function) → Holds words text f → P (some f)) → P (tree_of words text)
  held_tree P h k =
      (elim (tree_of words text) as (λ x. tree_of words text ≡ x → 0 ≡ on_tree (λ n. n) (λ f. 0) x → P x) [ none ↦ λ e h. absurd (omega (arith, h)) | some f ↦ λ e h. k f (tree_holds words text f e) ]) refl h

  pub no_tree : {n : ℕ} (P : Option Function → Type 0) → 0 < n → n ≡ store_refusal words text → (n ≡ 10 → P none) → P (tree_of words text)
  no_tree {n} P l h k = (elim (tree_of words text) as (λ x. n ≡ on_tree (λ m. m) (λ f. 0) x → P x) [ none ↦ k | some f ↦ λ h. absurd (omega (arith, h)) ]) h

pub held_no : (words text : List ℕ) → ((f : Function) → Holds words text f → ⊥) → 10 ≡ store_refusal words text
held_no words text k =
    (elim (tree_of words text) as (λ x. tree_of words text ≡ x → 10 ≡ on_tree (λ n. n) (λ f. 0) x) [ none ↦ λ e. refl | some f ↦ λ e. absurd (k f (tree_holds words text f e)) ]) refl

module _ {words text : List ℕ} {r : Answer Places} (c : Check words text (λ f. Valid f depth) function_piece (record { at = 0; to = 0 }) r) where
  -- what holds a tree is passed to its end
  pub store_passed : (f : Function) → Holds words text f → r ≡ Some (record { at = length words; to = length text })
  store_passed f h =
      c.complete f h.valid (record { in_words = whole_here (words_of f) words h.words_are; in_text = whole_here (text_of f) text h.text_is }) ∙ rw (h.words_are, h.text_is, zero-add (length words), zero-add (length text))

  -- what is passed to its end holds a tree
  pub store_held : r ≡ Some (record { at = length words; to = length text }) → length words ≤ most → length text ≤ most → 0 ≡ store_refusal words text
  store_held o k l =
      let x = c.sound _ o in
      let p : record { at = length words; to = length text } ≡ behind (function_piece x.value) (record { at = 0; to = 0 }) = same_Some _ _ (sym o ∙ c.complete x.value x.valid x.stands) in
      let a : length words ≡ 0 + length (words_of x.value) = ap (λ q. q.at) p in
      let b : length text ≡ 0 + length (text_of x.value) = ap (λ q. q.to) p in
      let w : words_of x.value ≡ words = here_whole words (words_of x.value) x.stands.in_words (omega arith) in
      let t : text_of x.value ≡ text = here_whole text (text_of x.value) x.stands.in_text (omega arith) in
      rw (holds_tree (record { valid = x.valid; words_are = w; text_is = t; words_fit = k; text_fits = l }))

  pub store_no : (r ≡ Some (record { at = length words; to = length text }) → ⊥) → 10 ≡ store_refusal words text
  store_no n = held_no words text (λ f h. n (store_passed f h))

  -- the test that it is passed to its end, by a test of places
  module _ {b : Bool} (E : Places → Places → Bool) (d : (x y : Places) → E x y ≡ (eqb x.at y.at && eqb x.to y.to)) (e : b ≡ option_eq E r (Some (record { at = length words; to = length text })))
      (k : length words ≤ most) (l : length text ≤ most) where
    store_answer : cond b 0 10 ≡ store_refusal words text
    store_answer = rw e (go r refl)
      where
        go : (x : Answer Places) → r ≡ x → cond (option_eq E x (Some (record { at = length words; to = length text }))) 0 10 ≡ store_refusal words text
        go None h = store_no (λ z. no_answer (sym h ∙ z))
        go (Some q) h =
            rw d
            (elim (ℕ_discrete q.at (length words)) [
              | no a ↦ rw (ne_eqb q.at (length words) a) (store_no (λ z. a (ap (λ p. p.at) (same_Some _ _ (sym h ∙ z)))))
              | yes a ↦ elim (ℕ_discrete q.to (length text)) [
                | no t ↦ rw (eq-eqb q.at (length words) a, ne_eqb q.to (length text) t) (store_no (λ z. t (ap (λ p. p.to) (same_Some _ _ (sym h ∙ z)))))
                | yes t ↦ rw (eq-eqb q.at (length words) a, eq-eqb q.to (length text) t) (store_held (h ∙ rw (a, t)) k l)
              ]
            ])

    pub passed_0 : b ≡ true → 0 ≡ store_refusal words text
    passed_0 h = rw h at store_answer

    pub passed_10 : b ≡ false → 10 ≡ store_refusal words text
    passed_10 h = rw h at store_answer
