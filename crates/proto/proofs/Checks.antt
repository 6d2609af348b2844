-- Steps of the check, one after the other: words, strings and lists.
use Rattle.lent.proofs.Prelude.{append-nil, ℕ, suc, zero-le, ◌+◌, ◌-◌, ◌≤◌, ◌<◌, ◌^◌, ◌≡◌, refl, sym, ap, ◌∙◌, List, [], ◌∷◌, Bool, true, false, true≢false, arith, dec_lt, add-zero, add_assoc, length, drop, get_or, length-append, length-drop, length-take, get_or-eq_default, get_or-take, get_or-drop, length-take-le}
use Rattle.std.specs.Prelude.{Option as Answer, Some, None}
use Rattle.std.specs.List.{slice_range}
use Rattle.std.proofs.lemmas.List.Folds.{drop_split}
use Rattle.std.proofs.Math.Seq.{drop-length}
use Rattle.std.proofs.lemmas.Option.{none-some, same_Some}
use Rattle.lent.specs.Memory.{Every, Word, Bytes}
use Rattle.utf8.specs.Utf8.{is_utf8, is_ascii}
use Rattle.utf8.proofs.Laws.{utf8_bytes, utf8_ascii}
use Rattle.utf8.proofs.Ascii.{ascii_at}
use Rattle.format.specs.Read.{limit}
use Rattle.format.specs.Store.{Piece, plain, word, ◌⊕◌, string, pieces, list, ints}
use Rattle.format.specs.Stored.{part, Here}
use Rattle.format.specs.Valid.{Name, ValidList}
use Rattle.format.proofs.Stored.{here_part}
use Rattle.format.proofs.Loops.{Loop, loop_turn, loop_stop, loop_end}
use Rattle.proto.specs.declared.formed.Places.{Places}
use Rattle.proto.specs.Walk.{Stands}
use Rattle.proto.specs.Formed.{Found, behind, Both, beside, Check, Within, Many, Room, three, Three}
use Rattle.proto.proofs.Sublists.{here_length, room_short, here_item, here_get, here_none, here_two, here_three, here_take}
use Rattle.proto.proofs.Pieces.{Same, same_refl, stands_same, same_sym, stands_left, stands_right, stands_join}

-- the piece is that of a valid value
pub record As {A : Type 0} (ok : A → Type 0) (piece : A → Piece) (p : Piece) : Type 0 where
  pub value : A
  pub valid : ok value
  pub same : Same (piece value) p

-- ---- the words from a place on

-- as a slice's get gives them
abbrev pub Rest : List ℕ → ℕ → List ℕ → Type 0
Rest words at l = (at ≤ length words) × (length words ≤ length words) × (l ≡ slice_range words at (length words)) × (length l + at ≡ length words)

module _ (words l : List ℕ) (at : ℕ) (h : Rest words at l) where
  rest_item : (i : ℕ) → get_or words (at + i) 0 ≡ get_or l i 0
  rest_item i =
      let d : drop at words ≡ l = drop_split words at (length words) h.0 ∙ rw (drop-length words) (append-nil _) ∙ sym h.2 in
      rw (← d) (sym (get_or-drop at words i 0))

  rest_first : get_or words at 0 ≡ get_or l 0 0
  rest_first = rw (add-zero at) at (rest_item 0)

-- no answer is a place
pub no_answer : {A : Type 0} {q : Places} → None ≡ Some q → A
no_answer {q = q} e = absurd (none-some q e)

behind_same : {p q : Piece} → Same p q → (s : Places) → behind p s ≡ behind q s
behind_same e s = rw (e.words s.to, e.text)

module _ {words text : List ℕ} where
  module _ {A : Type 0} {ok : A → Type 0} {piece : A → Piece} where
    pub check_wrong : {s : Places} → ((a : A) → ok a → Stands words text s.at s.to (piece a) → ⊥) → Check words text ok piece s None
    check_wrong f = record { sound = λ q e. no_answer e; complete = λ a k t. absurd (f a k t) }

    -- a value stands there, and any that does is passed
    pub check_good : {s r : Places} (a : A) → ok a → Stands words text s.at s.to (piece a) → ((b : A) → ok b → Stands words text s.at s.to (piece b) → r ≡ behind (piece b) s) → Check words text ok piece s (Some r)
    check_good a v t pass = record { sound = λ q e. record { value = a; valid = v; stands = t }; complete = λ b w u. rw (pass b w u) }

    -- what was found, and past it
    pub found : {s r : Places} → Check words text ok piece s (Some r) → Found words text ok piece s
    found {r = r} c = c.sound r refl

    pub passed : {s r : Places} → Check words text ok piece s (Some r) → (a : A) → ok a → Stands words text s.at s.to (piece a) → r ≡ behind (piece a) s
    passed c a k t = same_Some _ _ (c.complete a k t)

    pub check_passed : {s r : Places} (c : Check words text ok piece s (Some r)) → r ≡ behind (piece (found c).value) s
    check_passed c = let x = found c in passed c x.value x.valid x.stands

  module _ {A B : Type 0} {ok : A → Type 0} {ok' : B → Type 0} {p : A → Piece} {q : B → Piece} where
    -- the same check of other values
    pub check_as : {s : Places} {r : Answer Places} → ((a : A) → ok a → As ok' q (p a)) → ((b : B) → ok' b → Stands words text s.at s.to (q b) → As ok p (q b)) → Check words text ok p s r → Check words text ok' q s r
    check_as {s} f g c =
        record {
          sound = λ z e. let x = c.sound z e in let y = f x.value x.valid in record { value = y.value; valid = y.valid; stands = stands_same (same_sym y.same) x.stands };
          complete = λ b k t. let y = g b k t in rw (← behind_same y.same s) (c.complete y.value y.valid (stands_same (same_sym y.same) t));
        }

    -- the same, where the values are told by what was checked
    pub check_of : {s : Places} {r : Answer Places} → Check words text ok p s r → ((a : A) → ok a → As ok' q (p a)) → ((b : B) → ok' b → Stands words text s.at s.to (q b) → As ok p (q b)) → Check words text ok' q s r
    check_of c f g = check_as f g c

    -- one behind the other
    pub check_then : {s m : Places} {r : Answer Places} → Check words text ok p s (Some m) → Check words text ok' q m r → Check words text (Both ok ok') (beside p q) s r
    unfolding Both beside
    check_then {s} {m} {r} c d =
        record {
          sound = λ z h.
              let x = found c in
              let y = d.sound z h in
              record { value = (x.value, y.value); valid = (x.valid, y.valid); stands = stands_join (p x.value) (q y.value) x.stands (rw (check_passed c) at y.stands) };
          complete = λ v k t.
              let e = passed c v.0 k.0 (stands_left (p v.0) (q v.1) t) in
              let u : Stands words text m.at m.to (q v.1) = rw e (stands_right (p v.0) (q v.1) t) in
              let g : behind (q v.1) m ≡ behind (p v.0 ⊕ q v.1) s = rw (e, length-append ((p v.0).words s.to) ((q v.1).words (s.to + length (p v.0).text)), length-append (p v.0).text (q v.1).text, add_assoc s.at _ _, add_assoc s.to _ _) in
              d.complete v.1 k.1 u ∙ rw g;
        }

  -- what is not well formed is not so beside any other
  pub check_stop : {A B : Type 0} {ok : A → Type 0} {p : A → Piece} (ok' : B → Type 0) (q : B → Piece) {s : Places} → Check words text ok p s None → Check words text (Both ok ok') (beside p q) s None
  unfolding Both beside
  check_stop ok' q c = check_wrong (λ v k t. no_answer (c.complete v.0 k.0 (stands_left _ (q v.1) t)))

  -- ---- three words

  three_stand : {s : Places} {kind x y : ℕ} → s.at + 3 ≤ length words → get_or words s.at 0 ≡ kind → get_or words (s.at + 1) 0 ≤ x → get_or words (s.at + 2) 0 ≤ y → Check words text (Three kind x y) three s (Some (record { at = s.at + 3; to = s.to }))
  three_stand {s} h u v w =
      check_good (record { first = get_or words s.at 0; second = get_or words (s.at + 1) 0; third = get_or words (s.at + 2) 0 })
      (record { is = u; second = v; third = w }) (record { in_words = here_three h; in_text = here_none }) (λ v k t. rw add-zero)

  module _ {s : Places} {l : List ℕ} (h : Rest words s.at l) where
    -- the first of those from the place on
    pub three_good : {kind x y : ℕ} → 3 ≤ length l → get_or l 0 0 ≡ kind → get_or l 1 0 ≤ x → get_or l 2 0 ≤ y → Check words text (Three kind x y) three s (Some (record { at = s.at + 3; to = s.to }))
    three_good k u v w = three_stand (omega arith) (rest_first words l s.at h ∙ u) (rw (rest_item words l s.at h 1) v) (rw (rest_item words l s.at h 2) w)

  module _ {s : Places} {b : Bool} (room : Room b (length words) s.at 3) where
    -- where there is room for them
    pub three_in_room : {kind x y : ℕ} → b ≡ true → get_or words s.at 0 ≡ kind → get_or words (s.at + 1) 0 ≤ x → get_or words (s.at + 2) 0 ≤ y → Check words text (Three kind x y) three s (Some (record { at = s.at + 3; to = s.to }))
    three_in_room e u v w = three_stand (omega (arith, room.is e)) u v w

    pub three_short : {kind x y : ℕ} → b ≡ false → Check words text (Three kind x y) three s None
    three_short e = check_wrong (λ w k t. room_short room e refl t.in_words)

-- ---- lists

module _ {A : Type 0} {words text : List ℕ} {P : A → Type 0} where
  -- a count, and as many items
  counted : {q : List A → Piece} {n : ℕ} {s m : Places} {r : Answer Places} → n ≤ limit → Check words text (Within n n) word s (Some m) → Check words text (Many P n) q m r → Check words text (ValidList P) (λ l. word (length l) ⊕ q l) s r
  unfolding Both beside
  counted {q} {n} {s} z c d =
      let w = check_then c d in
      record {
        sound = λ p e.
            let x = w.sound p e in
            let v = x.value in
            let k = x.valid in
            let g : v.0 ≡ length v.1 = omega (arith, k.0.above, k.0.below, k.1.0) in
            let u : Stands words text s.at s.to (word (length v.1) ⊕ q v.1) = rw g at x.stands in
            record { value = v.1; valid = record { items = k.1.1; short = rw k.1.0 z }; stands = u };
        complete = λ l k t.
            let x = found c in
            let g : length l ≡ n = omega (arith, here_get (length l) _ t.in_words, here_get x.value _ x.stands.in_words, x.valid.above, x.valid.below) in
            w.complete (length l, l) (record { above = omega arith; below = omega arith }, (g, k.items)) t;
      }

  count_none : (q : List A → Piece) {s : Places} → Check words text (Within 0 limit) word s None → Check words text (ValidList P) (λ l. word (length l) ⊕ q l) s None
  count_none q c = check_wrong (λ l k t. no_answer (c.complete (length l) (record { above = zero-le; below = k.short }) (stands_left (word (length l)) (q l) t)))

-- n items
pub record CheckAll {A : Type 0} (words text : List ℕ) (P : A → Type 0) (piece : A → Piece) (n : ℕ) (s : Places) (r : Answer Places) : Type 0 where
  pub all : Check words text (Many P n) (pieces piece) s r

module _ {A : Type 0} {words text : List ℕ} {P : A → Type 0} {piece : A → Piece} where
  all_none : {s : Places} → CheckAll words text P piece 0 s (Some s)
  unfolding pieces Every
  all_none {s} =
      record {
        all = record {
          sound = λ q e. record { value = []; valid = (refl, tt); stands = record { in_words = here_none; in_text = here_none } };
          complete = elim [ [] ↦ λ k t. rw (add-zero s.at, add-zero s.to) | a ∷ l ↦ λ k t. absurd (omega (arith, k.0)) ];
        };
      }

  -- an item, and the others
  more_of : {s : Places} {r : Answer Places} {n : ℕ} → Check words text (Both P (Many P n)) (beside piece (pieces piece)) s r → CheckAll words text P piece (suc n) s r
  unfolding pieces Every Both beside
  more_of c =
      record {
        all = check_as (λ v k. record { value = v.0 ∷ v.1; valid = (ap suc k.1.0, (k.0, k.1.1)); same = same_refl })
            (elim [ [] ↦ λ k t. absurd (omega (arith, k.0)) | a ∷ l ↦ λ k t. record { value = (a, l); valid = (k.1.0, (omega (arith, k.0), k.1.1)); same = same_refl } ])
            c;
      }

  all_more : {s m : Places} → Check words text P piece s (Some m) → (n : ℕ) (r : Answer Places) → CheckAll words text P piece n m r → CheckAll words text P piece (suc n) s r
  all_more c n r d = more_of (check_then c d.all)

  all_stop : {s : Places} → Check words text P piece s None → (n : ℕ) → CheckAll words text P piece (suc n) s None
  all_stop c n = more_of (check_stop _ (pieces piece) c)

  pub items_turn : {n i : ℕ} {s m r : Places} → i < n → Loop (CheckAll words text P piece) n s i m → Check words text P piece m (Some r) → Loop (CheckAll words text P piece) n s (i + 1) r
  items_turn h l c = loop_turn h l (all_more c)

  module _ {n i : ℕ} {s m r : Places} (k : n ≤ limit) (c : Check words text (Within n n) word s (Some m)) (l : Loop (CheckAll words text P piece) n m i r) where
    pub items_end : n ≤ i → Check words text (ValidList P) (list piece) s (Some r)
    items_end h = counted k c (loop_end h l all_none).all

    pub item_wrong : i < n → Check words text P piece r None → Check words text (ValidList P) (list piece) s None
    item_wrong h d = counted k c (loop_stop h l (all_stop d)).all

pub count_wrong : {A : Type 0} {words text : List ℕ} {P : A → Type 0} (piece : A → Piece) {s : Places} → Check words text (Within 0 limit) word s None → Check words text (ValidList P) (list piece) s None
count_wrong piece c = count_none (pieces piece) c

-- ---- words and bytes as they stand

every_below : (b : ℕ) (l : List ℕ) → ((i : ℕ) → get_or l i 0 < b) → Every (λ x. x < b) l
unfolding Every
every_below b [] f = tt
every_below b (x ∷ l) f = (f 0, every_below b l (λ i. f (suc i)))

-- a part of a slice has the slice's bound
part_below : (b : ℕ) (xs : List ℕ) (place n : ℕ) → ((i : ℕ) → get_or xs i 0 < b) → Every (λ x. x < b) (part xs place n)
part_below b xs place n f = every_below b (part xs place n) (λ i. elim (dec_lt i n) [
  | yes h ↦ rw (get_or-take n (drop place xs) i 0 h, get_or-drop place xs i 0) (f (place + i))
  | no h ↦ let e : length (part xs place n) ≤ i = rw length-take (omega arith) in rw (get_or-eq_default (part xs place n) 0 e) (omega (arith, f 0))
])

module _ {words text : List ℕ} {s : Places} where
  module _ {n : ℕ} where
    pub words_good : {b : Bool} → ((i : ℕ) → get_or words i 0 < 2 ^ 32) → Room b (length words) s.at n → b ≡ true → Check words text (Many Word n) plain s (Some (record { at = s.at + n; to = s.to }))
    words_good w room e =
        let l = part words s.at n in
        let g : length l ≡ n = length-take-le n (drop s.at words) (rw length-drop (room.is e)) in
        check_good l (g, part_below (2 ^ 32) words s.at n w) (record { in_words = here_take n; in_text = here_none }) (λ x z t. rw (z.0, add-zero))

    pub words_bad : {b : Bool} → Room b (length words) s.at n → b ≡ false → Check words text (Many Word n) plain s None
    words_bad room e = check_wrong (λ x z t. room_short room e z.0 t.in_words)

    -- words after their count
    pub ints_checked : {m : Places} {r : Answer Places} → n ≤ limit → Check words text (Within n n) word s (Some m) → Check words text (Many Word n) plain m r → Check words text (ValidList Word) ints s r
    ints_checked h c d = counted {q = plain} h c d

  pub ints_short : Check words text (Within 0 limit) word s None → Check words text (ValidList Word) ints s None
  ints_short c = count_none plain c

-- ---- strings

module _ {words text : List ℕ} {s : Places} where
  module _ {rest : List ℕ} (h : Rest words s.at rest) (two : 2 ≤ length rest) where
    pub string_good : ((i : ℕ) → get_or text i 0 < 256) → get_or rest 0 0 ≡ s.to → get_or rest 1 0 ≤ length text - s.to → Check words text Bytes string s (Some (record { at = s.at + 2; to = s.to + get_or rest 1 0 }))
    string_good y p q =
        let n = get_or rest 1 0 in
        let l = part text s.to n in
        let g : length l ≡ n = length-take-le n (drop s.to text) (rw length-drop q) in
        let w : Here words s.at (s.to ∷ length l ∷ []) = rw (g, ← p) (rw (rest_first words rest s.at h, rest_item words rest s.at h 1) at (here_two {xs = words} {at = s.at} (omega arith))) in
        check_good l (part_below 256 text s.to n y) (record { in_words = w; in_text = here_take n }) (λ x z t. rw (second x t))
      where
        second : (x : List ℕ) → Stands words text s.at s.to (string x) → get_or rest 1 0 ≡ length x
        second x t = sym (rest_item words rest s.at h 1) ∙ here_item (s.to ∷ length x ∷ []) 1 (omega arith) t.in_words

    pub string_bad : (get_or rest 0 0 ≡ s.to → get_or rest 1 0 ≤ length text - s.to → ⊥) → Check words text Bytes string s None
    string_bad f =
        check_wrong
        (λ x v t.
        let i : get_or rest 1 0 ≡ length x = sym (rest_item words rest s.at h 1) ∙ here_item (s.to ∷ length x ∷ []) 1 (omega arith) t.in_words in
        f (sym (rest_first words rest s.at h) ∙ here_get s.to _ t.in_words) (omega (arith, here_length x t.in_text)))

module _ {words text : List ℕ} {s r : Places} (c : Check words text Bytes string s (Some r)) where
  -- a string that is a name
  named : ((l : List ℕ) → Stands words text s.at s.to (string l) → r ≡ behind (string l) s → Name l) → Check words text (λ n. Name n) string s (Some r)
  named f =
      let x = found c in
      check_good x.value (f x.value x.stands (check_passed c)) x.stands (λ l v t. passed c l (utf8_bytes l v) t)

  module _ {b : List ℕ} {u : Bool} (e : u ≡ is_utf8 b) (f : b ≡ part text s.to (r.to - s.to)) where
    string_is : (l : List ℕ) → Stands words text s.at s.to (string l) → r ≡ behind (string l) s → b ≡ l
    string_is l t p = let n : r.to - s.to ≡ length l = rw p (omega arith) in f ∙ rw n (here_part l t.in_text)

    pub utf8_name : u ≡ true → Check words text (λ n. Name n) string s (Some r)
    utf8_name k = named (λ l t p. rw (string_is l t p) at (sym e ∙ k))

    pub name_bad : u ≡ false → Check words text (λ n. Name n) string s None
    name_bad z = check_wrong (λ l v t. true≢false (sym (e ∙ rw (string_is l t (passed c l (utf8_bytes l v) t)) v) ∙ z))

  -- each name is text where all of the text is ASCII
  pub ascii_name : is_ascii text ≡ true → Check words text (λ n. Name n) string s (Some r)
  ascii_name h = named (λ l t p. utf8_ascii l (rw (here_part l t.in_text) at (part_below 0x80 text s.to (length l) (ascii_at text h))))

pub name_stopped : {words text : List ℕ} {s : Places} → Check words text Bytes string s None → Check words text (λ n. Name n) string s None
name_stopped c = check_wrong (λ l v t. no_answer (c.complete l (utf8_bytes l v) t))
