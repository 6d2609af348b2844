-- A store holds one tree only, the one that its words say: tree_of finds it, and finds none where there is none.
use Rattle.lent.proofs.Prelude.{ℕ, zero, suc, ◌+◌, ◌/◌, ◌%◌, ◌≡◌, refl, sym, ap, ◌∙◌, none, some, List, [], ◌∷◌, ◌++◌, append_assoc, append-nil, true, false, arith, add-zero, length, length-take, length-drop, take_at, drop_at, drop-drop}
use mathlib.Core.Logic.{◌↔◌, ite}
use Rattle.format.specs.Tree.{Constant, Source, Local, Debug, Parts, Function, Functions, count}
use Rattle.format.specs.Read.{Read, Reader, got, refused, ◌>>=◌, return, load_byte as word, many, many_functions}
use Rattle.format.specs.Store.{Piece, word as word_piece, ◌⊕◌, string, pieces, list, ints, source_piece, constant_piece, local_piece, debug_piece, packed, function_piece, function_pieces, text_of}
use Rattle.format.specs.Valid.{depth, ValidParts, Valid, ValidAll, Holds}
use Rattle.format.specs.Stored.{part, Here, stored_source, stored_constant, stored_name, stored_local, stored_debug, stored_function, holds?, held_by, tree_of}
use Rattle.format.specs.Constants.{meaning_of, value_of, constant_words, LiesIn}
use Rattle.format.specs.Tag.{tag_number, tag_of}
use Rattle.format.specs.declared.Constant.{Constant as Answer}
use Rattle.format.specs.declared.Constant.TheVariants.{Nil, Bool as Truth, Num, String}
use Rattle.format.proofs.RoundTrip.{Reads, pure, step, last, value_is, byte_law}

module _ {xs : List ℕ} where
  pub here_left : {place : ℕ} (s t : List ℕ) → Here xs place (s ++ t) → Here xs place s
  here_left s t h = record { more = t ++ h.more; is = h.is ∙ append_assoc s t h.more }

  pub here_right : {place : ℕ} (s t : List ℕ) → Here xs place (s ++ t) → Here xs (place + length s) t
  here_right {place} s t h =
      record { more = h.more; is = sym (drop-drop (length s) place xs) ∙ rw (h.is, append_assoc s t h.more) (drop_at s (t ++ h.more) (length s) refl) }

  pub here_part : {place : ℕ} (s : List ℕ) → Here xs place s → part xs place (length s) ≡ s
  here_part s h = rw h.is (take_at s h.more (length s) refl)

-- the four bytes in a word, taken out again
pub unpacked : (p : Parts) → ValidParts p
    → (packed p / 16777216 ≡ p.num_upvalues) × (packed p / 65536 % 256 ≡ p.num_params) × (packed p / 256 % 256 ≡ p.is_vararg) × (packed p % 256 ≡ p.max_stack_size)
unpacked p v = omega arith

module _ (text : List ℕ) where
  -- wherever the piece's text stands, r finds a in its words
  pub record Finds {A : Type 0} (r : Reader A) (p : Piece) (a : A) : Type 0 where
    pub find : (at : ℕ) → Here text at p.text → Reads r (p.words at) a

  next : {A B : Type 0} {r : Reader A} (k : A → Reader B) {p : Piece} (q : Piece) {a : A} {b : B} → Finds r p a → Finds (k a) q b → Finds (r >>= k) (p ⊕ q) b
  next k {p} q f g =
      record { find = λ at h. step k (q.words (at + length p.text)) (f.find at (here_left p.text q.text h)) (g.find (at + length p.text) (here_right p.text q.text h)) }

  ends : {A B : Type 0} {r : Reader A} (k : A → Reader B) {p : Piece} {a : A} {b : B} → Reads (k a) [] b → Finds r p a → Finds (r >>= k) p b
  ends k e f = record { find = λ at h. last k e (f.find at h) }

  word_law : (w : ℕ) → Finds word (word_piece w) w
  word_law w = record { find = λ at h. byte_law w }

  -- a string's place and length, of which g is made
  string_law : {A : Type 0} (g : List ℕ → A) (s : List ℕ) → Finds (word >>= λ place. word >>= λ n. return (g (part text place n))) (string s) (g s)
  string_law g s = record { find = λ at h. step _ _ (byte_law at) (last _ (value_is (ap g (here_part s h)) (pure _)) (byte_law (length s))) }

  source_law : (s : Source) → Finds (stored_source text) (source_piece s) s
  source_law Source.inherited = next _ _ (word_law 0) (next _ _ (word_law 0) (ends _ (pure _) (word_law 0)))
  source_law (Source.own s) = next _ _ (word_law 1) (string_law Source.own s)

  constant_law : (k : Constant) → Finds (stored_constant text) (constant_piece k) k
  constant_law Constant.nil = next _ _ (word_law 0) (next _ _ (word_law 0) (ends _ (pure _) (word_law 0)))
  constant_law (Constant.bool true) = next _ _ (word_law 1) (next _ _ (word_law 1) (ends _ (pure _) (word_law 0)))
  constant_law (Constant.bool false) = next _ _ (word_law 1) (next _ _ (word_law 0) (ends _ (pure _) (word_law 0)))
  constant_law (Constant.num high low) = next _ _ (word_law 3) (next _ _ (word_law high) (ends _ (pure _) (word_law low)))
  constant_law (Constant.str s) = next _ _ (word_law 4) (string_law Constant.str s)

  local_law : (v : Local) → Finds (stored_local text) (local_piece v) v
  local_law v = next _ _ (string_law (λ s. s) v.name) (next _ _ (word_law v.start) (ends _ (pure _) (word_law v.end)))

  many_law : {A : Type 0} (r : Reader A) (piece : A → Piece) → ((a : A) → Finds r (piece a) a) → (l : List A) → Finds (many r (length l)) (pieces piece l) l
  unfolding many pieces
  many_law r piece law [] = record { find = λ at h. pure [] }
  many_law r piece law (a ∷ l) = next _ _ (law a) (ends _ (pure _) (many_law r piece law l))

  list_law : {A : Type 0} (r : Reader A) (piece : A → Piece) → ((a : A) → Finds r (piece a) a) → (l : List A) → Finds (word >>= many r) (list piece l) l
  list_law r piece law l = next _ _ (word_law (length l)) (many_law r piece law l)

  words_law : (l : List ℕ) → Reads (many word (length l)) l l
  unfolding many
  words_law [] = pure []
  words_law (a ∷ l) = step _ l (byte_law a) (last _ (pure _) (words_law l))

  ints_law : (l : List ℕ) → Finds (word >>= many word) (ints l) l
  ints_law l = record { find = λ at h. step _ l (byte_law (length l)) (words_law l) }

  debug_law : (d : Debug) → Finds (stored_debug text) (debug_piece d) d
  debug_law d = next _ _ (ints_law d.lines) (next _ _ (list_law (stored_local text) local_piece local_law d.locals) (ends _ (pure _) (list_law (stored_name text) string (string_law (λ s. s)) d.upvalues)))

  mutual
    unfolding stored_function function_piece many_functions count Valid

    pub stored_law : (f : Function) (allowance : ℕ) → Valid f allowance → Finds (stored_function text allowance) (function_piece f) f
    stored_law (Function.function p fs) zero v = absurd v
    stored_law (Function.function p fs) (suc allowance) v =
        let u = unpacked p v.0 in
        next _ _ (source_law p.source)
        (next _ _ (word_law p.line_defined)
        (next _ _ (word_law p.last_line_defined)
        (next _ _ (word_law (packed p))
        (next _ _ (ints_law p.code)
        (next _ _ (list_law (stored_constant text) constant_piece constant_law p.constants)
        (next _ _ (next _ _ (word_law (count fs)) (stored_all_law fs allowance v.2)) (ends _ (value_is (rw (u.0, u.1, u.2, u.3)) (pure _)) (debug_law p.debug))))))))

    stored_all_law : (fs : Functions) (allowance : ℕ) → ValidAll fs allowance → Finds (many_functions (stored_function text allowance) (count fs)) (function_pieces fs) fs
    stored_all_law Functions.none allowance v = record { find = λ at h. pure Functions.none }
    stored_all_law (Functions.more f fs) allowance v = next _ _ (stored_law f allowance v.0) (ends _ (pure _) (stored_all_law fs allowance v.1))

-- what a store holds is what its words say
pub holds_stored : {words text : List ℕ} {f : Function} → Holds words text f → stored_function text depth words ≡ got f []
holds_stored {words} {text} {f} h =
    let here : Here text 0 (text_of f) = record { more = []; is = sym h.text_is ∙ sym (append-nil (text_of f)) } in
    rw (← append-nil words, ← h.words_are) (((stored_law text f depth h.valid).find 0 here).run [])

-- tree_of finds the tree that the store holds, and nothing else
pub tree_holds : (words text : List ℕ) (f : Function) → tree_of words text ≡ some f → Holds words text f
unfolding tree_of
tree_holds words text f e = by (stored_function text depth words) e
  where
    found : (g : Function) (d : Dec (Holds words text g)) → ite d (some g) none ≡ some f → Holds words text f
    found g (yes h) e = let s : g ≡ f = cc in rw s at h
    found g (no h) e = let z : ◌≡◌ {A = ℕ} 0 1 = cc in absurd (omega arith)

    by : (x : Read Function) → held_by words text x ≡ some f → Holds words text f
    by (got g rest) e = found g (holds? words text g) e
    by (refused n) e = let z : ◌≡◌ {A = ℕ} 0 1 = cc in absurd (omega arith)

pub holds_tree : {words text : List ℕ} {f : Function} → Holds words text f → tree_of words text ≡ some f
unfolding tree_of
holds_tree {words} {text} {f} h = rw (holds_stored h) (by (holds? words text f))
  where
    by : (d : Dec (Holds words text f)) → ite d (some f) none ≡ some f
    by (yes k) = refl
    by (no k) = absurd (k h)

-- ==== the statement: tree_of agrees with Holds in both directions, so a store determines its tree

pub tree_of_law : (words text : List ℕ) (f : Function) → (tree_of words text ≡ some f) ↔ Holds words text f
tree_of_law words text f = (tree_holds words text f, holds_tree)

pub holds_one : {words text : List ℕ} {f g : Function} → Holds words text f → Holds words text g → f ≡ g
holds_one p q = let e = sym (holds_tree p) ∙ holds_tree q in cc

-- the number and the values of a constant of an answer are the words that its value has in a store, its text at the constant's place
pub constant_numbered : (bytes : List ℕ) (k : Answer) → LiesIn bytes k → (constant_piece (value_of bytes k)).words (meaning_of k).first ≡ constant_words k
constant_numbered bytes Nil h = refl
constant_numbered bytes (Truth b) h = refl
constant_numbered bytes (Num high low) h = refl
constant_numbered bytes (String s) h = let e : length (part bytes s.start s.len) ≡ s.len = simp (length-take, length-drop) (omega arith) in rw (e, add-zero s.start)

-- its tag's number is its number
pub tag_numbered : (k : Answer) → tag_number (tag_of k) ≡ (meaning_of k).number
tag_numbered Nil = refl
tag_numbered (Truth b) = refl
tag_numbered (Num high low) = refl
tag_numbered (String s) = refl
