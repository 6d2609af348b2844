-- What stands at the places that walking finds: the lists of a function, their counts, their items, strings and constants.
use Rattle.lent.proofs.Prelude.{Bool, false, ℕ, zero, suc, ◌+◌, ◌*◌, ◌≤◌, ◌<◌, ◌≡◌, refl, sym, ap, ◌∙◌, List, [], ◌∷◌, ◌++◌, none, some, arith, add-zero, mul-suc, mul-zero, length, take, drop, get_or, length-take-le}
use Rattle.std.specs.Prelude.{Some, None}
use Rattle.std.specs.Int.{to_be_bytes}
use Rattle.std.proofs.lemmas.Nat.{be_bytes_4}
use mir.Syntax.{w32}
use Rattle.format.specs.Tree.{Local, Source, Parts, Function, Functions}
use Rattle.format.specs.Store.{Piece, word, ◌⊕◌, string, pieces, list, ints, source_piece, constant_piece, local_piece, debug_piece, packed, function_piece, children_piece}
use Rattle.format.specs.declared.StoredItem.{Ghosts}
use Rattle.format.specs.contracts.ConstantsStoredItem.TheImpl.{ghosts as Constants}
use Rattle.format.specs.contracts.IntsStoredItem.TheImpl.{ghosts as Ints}
use Rattle.format.specs.declared.Constant.TheVariants.{Nil}
use Rattle.format.specs.Stored.{part}
use Rattle.format.specs.declared.Span.{Span}
use Rattle.format.specs.Valid.{ValidParts}
use Rattle.format.proofs.Stored.{here_left, here_right, here_part}
use Rattle.proto.specs.Constants.{ConstantAt}
use Rattle.proto.specs.Formed.{Room}
use Rattle.proto.specs.Walk.{Stands, StandsAt, item, Skips, NthAt, Past, to_code, to_constants, to_functions, to_lines, to_locals, to_upvalues}
use Rattle.proto.specs.Debug.{local_of}
use Rattle.proto.specs.Head.{head_of}
use Rattle.proto.proofs.Sublists.{room_short, here_get, here_front, skip_item}
use Rattle.proto.proofs.Pieces.{Same, same_sym, same_assoc, function_debug, stands_same, stands_left, stands_right, pieces_words}
use Rattle.proto.proofs.Walks.{past_stands}

-- ---- the lists of a function

module _ {words text : List ℕ} {at to : ℕ} (p : Parts) (fs : Functions) (h : Stands words text at to (function_piece (Function.function p fs))) where
  lines : Stands words text at to (to_lines p fs ⊕ debug_piece p.debug)
  lines = stands_same (function_debug p fs) h

  front : Stands words text at to (to_functions p fs ⊕ children_piece fs)
  front = stands_left (to_lines p fs) (debug_piece p.debug) lines

  pub code_stands : {r : ℕ} → Past words (to_code p fs) at r → Stands words text r (to + length (to_code p fs).text) (ints p.code)
  code_stands w =
      past_stands {p = to_code p fs} {q = ints p.code} w (stands_left (to_constants p fs) (list constant_piece p.constants) (stands_left (to_functions p fs) (children_piece fs) front))

  pub constants_stand : {r : ℕ} → Past words (to_constants p fs) at r → Stands words text r (to + length (to_constants p fs).text) (list constant_piece p.constants)
  constants_stand w = past_stands {p = to_constants p fs} {q = list constant_piece p.constants} w (stands_left (to_functions p fs) (children_piece fs) front)

  pub functions_stand : {r : ℕ} → Past words (to_functions p fs) at r → Stands words text r (to + length (to_functions p fs).text) (children_piece fs)
  functions_stand w = past_stands {p = to_functions p fs} {q = children_piece fs} w front

  pub lines_stand : {r : ℕ} → Past words (to_lines p fs) at r → Stands words text r (to + length (to_lines p fs).text) (ints p.debug.lines)
  lines_stand w = stands_left (ints p.debug.lines) (list local_piece p.debug.locals ⊕ list string p.debug.upvalues) (past_stands {p = to_lines p fs} {q = debug_piece p.debug} w lines)

  -- behind the lines
  names : Stands words text at to (to_locals p fs ⊕ list local_piece p.debug.locals ⊕ list string p.debug.upvalues)
  names = stands_same (same_sym (same_assoc (to_lines p fs) (ints p.debug.lines) (list local_piece p.debug.locals ⊕ list string p.debug.upvalues))) lines

  pub locals_stand : {r : ℕ} → Past words (to_locals p fs) at r → Stands words text r (to + length (to_locals p fs).text) (list local_piece p.debug.locals)
  locals_stand w =
      stands_left (list local_piece p.debug.locals) (list string p.debug.upvalues) (past_stands {p = to_locals p fs} {q = list local_piece p.debug.locals ⊕ list string p.debug.upvalues} w names)

  pub upvalues_stand : {r : ℕ} → Past words (to_upvalues p fs) at r → Stands words text r (to + length (to_upvalues p fs).text) (list string p.debug.upvalues)
  upvalues_stand w =
      past_stands {p = to_upvalues p fs} {q = list string p.debug.upvalues} w
      (stands_same (same_sym (same_assoc (to_locals p fs) (list local_piece p.debug.locals) (list string p.debug.upvalues))) names)

  -- its head stands where it begins, and so does its source
  pub head_stands : Stands words text at to (to_code p fs)
  head_stands = stands_left (to_code p fs) (ints p.code) (stands_left (to_constants p fs) (list constant_piece p.constants) (stands_left (to_functions p fs) (children_piece fs) front))

  pub source_stands : Stands words text at to (source_piece p.source)
  source_stands = stands_left (source_piece p.source) (word p.line_defined ⊕ word p.last_line_defined ⊕ word (packed p)) head_stands

pub somewhere : {words text : List ℕ} {at to : ℕ} {p : Piece} → Stands words text at to p → StandsAt words text at p
somewhere h = record { to = _; stands = h }

-- ---- items of a list

pub item_past : {A : Type 0} (l : List A) (i : ℕ) → length l ≤ i → item l i ≡ none
unfolding item
item_past [] i h = refl
item_past (a ∷ l) zero h = absurd (omega arith)
item_past (a ∷ l) (suc i) h = item_past l i (omega arith)

-- there is an item i
pub record Item {A : Type 0} (l : List A) (i : ℕ) : Type 0 where
  pub value : A
  pub is : item l i ≡ some value

pub item_there : {A : Type 0} (l : List A) (i : ℕ) → i < length l → Item l i
unfolding item
item_there [] i h = absurd (omega arith)
item_there (a ∷ l) zero h = record { value = a; is = refl }
item_there (a ∷ l) (suc i) h = let x = item_there l i (omega arith) in record { value = x.value; is = x.is }

-- it and those behind it
pub item_drop : {A : Type 0} (l : List A) (i : ℕ) {a : A} → item l i ≡ some a → drop i l ≡ a ∷ drop (suc i) l
unfolding item
item_drop [] i e = cc
item_drop (b ∷ l) zero {a} e = let g : b ≡ a = cc in rw g
item_drop (b ∷ l) (suc i) e = item_drop l i e

-- words behind their count are a list of pieces of a word
word_pieces : (l : List ℕ) (to : ℕ) → (pieces word l).words to ≡ l
unfolding pieces
word_pieces [] to = refl
word_pieces (a ∷ l) to = rw (word_pieces l (to + 0))

word_text : (l : List ℕ) → (pieces word l).text ≡ []
unfolding pieces
word_text [] = refl
word_text (a ∷ l) = word_text l

pub ints_list : (l : List ℕ) → Same (ints l) (list Ints.piece l)
ints_list l = record { words = λ to. ap (λ (m : List ℕ). length l ∷ m) (sym (word_pieces l (to + 0))); text = sym (word_text l) }

-- the place n words on
pub skips_on : {words : List ℕ} {n at : ℕ} → Skips words n at (at + n)
skips_on = record { skips = λ l e h. refl }

module _ {words text : List ℕ} where
  module _ {at to : ℕ} where
    -- ---- the items of a list

    pub ints_count : (l : List ℕ) → Stands words text at to (ints l) → get_or words at 0 ≡ length l
    ints_count l h = here_get (length l) l h.in_words

    pub ints_item : {i r x : ℕ} (l : List ℕ) → i < length l → Stands words text at to (ints l) → Skips words (1 + 1 * i) at r → x ≡ get_or words r 0 → x ≡ get_or l i 0
    ints_item {i} l k h s e = let n : 1 + 1 * i ≡ suc i = omega arith in rw n at (skip_item (length l ∷ l) (omega arith) h.in_words s e)

    pub list_count : {A : Type 0} (piece : A → Piece) (l : List A) → Stands words text at to (list piece l) → get_or words at 0 ≡ length l
    list_count piece l h = here_get (length l) _ h.in_words

  pieces_item : {A : Type 0} (piece : A → Piece) (k : ℕ) → ((a : A) (to : ℕ) → length ((piece a).words to) ≡ k) → (l : List A) (i : ℕ) (a : A) (at to : ℕ) → item l i ≡ some a
      → Stands words text at to (pieces piece l) → (k * suc i ≤ length ((pieces piece l).words to)) × StandsAt words text (at + k * i) (piece a)
  unfolding item pieces
  pieces_item piece k e [] i a at to h s = let z : ◌≡◌ {A = ℕ} 0 1 = cc in absurd (omega arith)
  pieces_item piece k e (b ∷ l) zero a at to h s =
      let g : b ≡ a = cc in
      let n : length ((pieces piece (b ∷ l)).words to) ≡ k * suc (length l) = pieces_words piece k e (b ∷ l) to in
      let m : at + k * 0 ≡ at = rw (mul-zero k) (add-zero at) in
      (rw (n, mul-suc k 0, mul-suc k (length l), mul-zero k) (omega arith), rw (m, ← g) (record { to = to; stands = stands_left (piece b) (pieces piece l) s }))
  pieces_item piece k e (b ∷ l) (suc i) a at to h s =
      let x = pieces_item piece k e l i a _ _ h (stands_right (piece b) (pieces piece l) s) in
      let n : length ((pieces piece (b ∷ l)).words to) ≡ k * suc (length l) = pieces_words piece k e (b ∷ l) to in
      let m : length ((pieces piece l).words (to + length (piece b).text)) ≡ k * length l = pieces_words piece k e l (to + length (piece b).text) in
      let j : at + k * suc i ≡ at + length ((piece b).words to) + k * i = rw (e b to, mul-suc k i) (omega arith) in
      (rw (n, mul-suc k (suc i), mul-suc k (length l)) (omega (arith, x.0)), rw j x.1)

  pub list_item : {A : Type 0} {at to r : ℕ} (piece : A → Piece) (k : ℕ) → ((a : A) (to : ℕ) → length ((piece a).words to) ≡ k) → (l : List A) (i : ℕ) (a : A) → item l i ≡ some a
      → Stands words text at to (list piece l) → Skips words (1 + k * i) at r → StandsAt words text r (piece a)
  list_item {at = at} {to = to} {r = r} piece k e l i a h s w =
      let x = pieces_item piece k e l i a (at + 1) (to + 0) h (stands_right (word (length l)) (pieces piece l) s) in
      let m = length l ∷ (pieces piece l).words (to + 0) in
      let n : length (take (1 + k * i) m) ≡ 1 + k * i = length-take-le (1 + k * i) m (omega (arith, x.0, mul-suc k i)) in
      let g : r ≡ at + 1 + k * i = w.skips (take (1 + k * i) m) n (here_front (1 + k * i) m s.in_words) ∙ omega arith in
      rw g x.1

  -- the items of a list of words, a part of the words
  pub ints_here : {at to x a : ℕ} {r : List ℕ} (l : List ℕ) → Stands words text at to (ints l) → x ≡ get_or words at 0 → Skips words 1 at a → r ≡ part words a x → r ≡ l
  ints_here {at} {x = x} {a = a} l h g s q =
      let w = h.in_words in
      let u : x ≡ length l = g ∙ here_get (length l) l w in
      let v : a ≡ at + 1 = s.skips (length l ∷ []) refl (here_left (length l ∷ []) l w) in
      q ∙ rw (u, v) (here_part l (here_right (length l ∷ []) l w))

  -- ---- strings and sources

  pub string_here : {at to : ℕ} {z : Span} {r : List ℕ} (s : List ℕ) → z ≡ record { start = to; len = length s } → r ≡ part text z.start z.len → Stands words text at to (string s) → r ≡ s
  string_here s e q h = q ∙ rw e (here_part s h.in_text)

-- ---- an item by its index, and a string

-- item i of a list
module _ {Self : Type 0} {words text : List ℕ} {at i : ℕ} (T : Ghosts Self) (l : List T.Value) (h : StandsAt words text at (list T.piece l)) where
  -- there is none
  pub nth_none : NthAt words at T.WORDS i None → none ≡ item l i
  nth_none n = sym (item_past l i (omega (arith, list_count T.piece l h.stands)))

  -- it stands at r, where x is what is read of it
  pub nth_some : {r : ℕ} {x : T.Value} → NthAt words at T.WORDS i (Some r) → ((a : T.Value) → StandsAt words text r (T.piece a) → x ≡ a) → some x ≡ item l i
  nth_some n f =
      let y = item_there l i (omega (arith, n.0, list_count T.piece l h.stands)) in
      ap some (f y.value (list_item T.piece T.WORDS T.size l i y.value y.is h.stands n.1)) ∙ sym y.is

-- the place and the length of a string
pub string_span : {words : List ℕ} {at a y z to : ℕ} (s t : List ℕ) → Stands words t at to (string s) → y ≡ get_or words at 0 → Skips words 1 at a → z ≡ get_or words a 0 → ◌≡◌ {A = Span} (record { start = y; len = z }) (record { start = to; len = length s })
string_span {to = to} s t h e f g =
    let w = h.in_words in
    rw (e ∙ here_get to _ w, skip_item (to ∷ length s ∷ []) (omega arith) w f g)

-- ---- locals

-- a name, and behind it two words
pub local_is : {words : List ℕ} {at a b x y : ℕ} (name : Span) → ((s t : List ℕ) (to : ℕ) → Stands words t at to (string s) → name ≡ record { start = to; len = length s }) → Skips words 2 at a → x ≡ get_or words a 0 → Skips words 3 at b → y ≡ get_or words b 0
    → (text : List ℕ) (v : Local) → StandsAt words text at (local_piece v) → local_of text (record { name = name; start = x; end = y }) ≡ v
local_is {x = x} {y = y} name n s e s' e' text v h =
    let l = h.to ∷ length v.name ∷ v.start ∷ v.end ∷ [] in
    let z = stands_left (string v.name) (word v.start ⊕ word v.end) h.stands in
    let q : x ≡ v.start = skip_item l (omega arith) h.stands.in_words s e in
    let r : y ≡ v.end = skip_item l (omega arith) h.stands.in_words s' e' in
    rw (n v.name text h.to z, q, r) (ap (λ (b : List ℕ). record { name = b; start = v.start; end = v.end }) (here_part v.name z.in_text))

-- ---- the head of a function

-- behind the source stand three words
head_items : (s : Source) (to a b c : ℕ) → let l = (source_piece s).words to ++ (a ∷ b ∷ c ∷ []) in (length l ≡ 6) × (get_or l 3 0 ≡ a) × (get_or l 4 0 ≡ b) × (get_or l 5 0 ≡ c)
head_items Source.inherited to a b c = (refl, refl, refl, refl)
head_items (Source.own s) to a b c = (refl, refl, refl, refl)

-- four bytes
bytes_below : (a b c d : ℕ) → a < 256 → b < 256 → c < 256 → d < 256 → (i : ℕ) → get_or (a ∷ b ∷ c ∷ d ∷ []) i 0 < 256
bytes_below a b c d ha hb hc hd zero = ha
bytes_below a b c d ha hb hc hd (suc zero) = hb
bytes_below a b c d ha hb hc hd (suc (suc zero)) = hc
bytes_below a b c d ha hb hc hd (suc (suc (suc zero))) = hd
bytes_below a b c d ha hb hc hd (suc (suc (suc (suc i)))) = omega arith

pub packed_bytes : (p : Parts) → ValidParts p → to_be_bytes w32 (packed p) ≡ p.num_upvalues ∷ p.num_params ∷ p.is_vararg ∷ p.max_stack_size ∷ []
packed_bytes p v = be_bytes_4 _ _ refl (bytes_below p.num_upvalues p.num_params p.is_vararg p.max_stack_size v.num_upvalues v.num_params v.is_vararg v.max_stack_size) (omega arith)

pub head_here : {words : List ℕ} {at a b c x y z : ℕ} {l : List ℕ} → Skips words 3 at a → x ≡ get_or words a 0 → Skips words 4 at b → y ≡ get_or words b 0 → Skips words 5 at c → z ≡ get_or words c 0 → l ≡ to_be_bytes w32 z
    → (p : Parts) (fs : Functions) (t : List ℕ) → ValidParts p → StandsAt words t at (function_piece (Function.function p fs))
    → record { line_defined = x; last_line_defined = y; num_upvalues = get_or l 0 0; num_params = get_or l 1 0; is_vararg = get_or l 2 0; max_stack_size = get_or l 3 0 } ≡ head_of p
head_here {x = x} {y = y} {z = z} {l = l} f i g j k m q p fs t v stands =
    let h = (head_stands p fs stands.stands).in_words in
    let w = head_items p.source stands.to p.line_defined p.last_line_defined (packed p) in
    let e : x ≡ p.line_defined = skip_item _ (omega (arith, w.0)) h f i ∙ w.1 in
    let e' : y ≡ p.last_line_defined = skip_item _ (omega (arith, w.0)) h g j ∙ w.2 in
    let o : z ≡ packed p = skip_item _ (omega (arith, w.0)) h k m ∙ w.3 in
    let u : l ≡ p.num_upvalues ∷ p.num_params ∷ p.is_vararg ∷ p.max_stack_size ∷ [] = q ∙ rw o (packed_bytes p v) in
    rw (e, e', u)

-- ---- a constant

-- none stands where its words are not all there
pub constant_away : {words : List ℕ} {at : ℕ} {b : Bool} → Room b (length words) at Constants.WORDS → b ≡ false → ConstantAt words at Nil
constant_away room e =
    record {
      value = λ k t to h. absurd (room_short room e (Constants.size k to) h.in_words);
      numbered = λ k t to h. absurd (room_short room e (Constants.size k to) h.in_words);
    }
