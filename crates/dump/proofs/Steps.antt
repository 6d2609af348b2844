-- Steps of the writer: one behind the other, and a word, a string, a constant.
use Rattle.lent.proofs.Prelude.{ℕ, ◌+◌, ◌*◌, ◌<◌, ◌≡◌, refl, sym, ◌∙◌, List, [], ◌∷◌, ◌++◌, append_assoc, Bool, arith, add-zero, add_assoc, length, get_or, length-append}
use Rattle.std.specs.Int.{to_be_bytes, to_le_bytes}
use mir.Syntax.{w32, w64}
use Rattle.lent.specs.Memory.{Puts}
use Rattle.lent.proofs.Writes.{put_none, put_then}
use Rattle.format.specs.Tree.{Constant as Value}
use Rattle.format.specs.Tree.{Parts}
use Rattle.format.specs.Store.{Piece, plain, word, ◌⊕◌, string, ints, constant_piece, packed}
use Rattle.format.specs.Valid.{ValidParts}
use Rattle.format.specs.Write.{dump_int, dump_text, dump_code, dump_constant, each}
use Rattle.format.specs.Constants.{value_of}
use Rattle.format.specs.declared.Constant.{Constant}
use Rattle.format.specs.contracts.ConstantsStoredItem.TheImpl.{ghosts as Constants}
use Rattle.format.specs.contracts.NamesStoredItem.TheImpl.{ghosts as Names}
use Rattle.format.proofs.Stored.{here_left}
use Rattle.proto.specs.Constants.{ConstantAt}
use Rattle.proto.specs.Walk.{Stands, Skips, Past}
use Rattle.proto.proofs.Items.{packed_bytes}
use Rattle.proto.proofs.Sublists.{here_get, here_item}
use Rattle.proto.proofs.Pieces.{Same, same_refl, stands_same, stands_left, stands_right}
use Rattle.proto.proofs.Walks.{past_word, past_words, past_ints, skip_items}
use Rattle.dump.specs.Step.{Progress, Dumps}
use Rattle.dump.specs.declared.list.Dumper.{Dumper}
use Rattle.dump.proofs.Blocks.{two_put}

-- so that a state is found by its parts
abbrev pub place : (at len : ℕ) (out : List ℕ) → Progress
place at len out = record { at = at; len = len; out = out }

module _ {d : Dumper} where
  pub dumps_none : {s : Progress} → Dumps d (plain []) [] s s
  dumps_none = record { dumps = λ to h. (sym (add-zero _), put_none) }

  pub dumps_then : {p q : Piece} {b c : List ℕ} {s m r : Progress} → Dumps d p b s m → Dumps d q c m r → Dumps d (p ⊕ q) (b ++ c) s r
  dumps_then {p} {q} x y =
      record {
        dumps = λ to h.
            let u = x.dumps to (stands_left p q h) in
            let v = y.dumps (to + length p.text) (rw u.0 (stands_right p q h)) in
            (v.0 ∙ rw (u.0, length-append (p.words to) (q.words (to + length p.text))) (add_assoc _ _ _), put_then u.1 v.1);
      }

  -- past a piece, with what is written where it stands
  pub dumps_past : {p : Piece} {b : List ℕ} {at to len r : ℕ} {out out' : List ℕ} → Past d.store.words.now p at to → ((t : ℕ) → Stands d.store.words.now d.store.text.now at t p → Puts b len out r out') → Dumps d p b (place at len out) (place to r out')
  dumps_past x f = record { dumps = λ t h. (x.past t h.in_words, f t h) }

  -- the piece and the bytes written otherwise
  pub dumps_as : {p q : Piece} {b c : List ℕ} {s r : Progress} → Same p q → b ≡ c → Dumps d q c s r → Dumps d p b s r
  dumps_as e f x = record { dumps = λ to h. let y = x.dumps to (stands_same e h) in (rw (e.words to) y.0, rw f y.1) }

  pub dumps_three : {p q o : Piece} {x y z : List ℕ} {s a b r : Progress} → Dumps d p x s a → Dumps d q y a b → Dumps d o z b r → Dumps d (p ⊕ q ⊕ o) (x ++ y ++ z) s r
  dumps_three {x = x} {y} {z} u v w = dumps_as same_refl (append_assoc x y z) (dumps_then u (dumps_then v w))

  module _ {at to len r x : ℕ} {out out' : List ℕ} where
    pub word_dumped : x ≡ get_or d.store.words.now at 0 → Puts (dump_int x) len out r out' → Skips d.store.words.now 1 at to → (v : ℕ) → Dumps d (word v) (dump_int v) (place at len out) (place to r out')
    word_dumped e p s v = dumps_past (past_word v s) (λ t h. rw (e ∙ here_get v [] h.in_words) at p)

    pub two_dumped : {y n : ℕ} → x < 4294967296 → x ≡ get_or d.store.words.now at 0 → Skips d.store.words.now 1 at n → y ≡ get_or d.store.words.now n 0 → Puts (to_le_bytes w64 (x + 4294967296 * y)) len out r out' → Skips d.store.words.now 2 at to
        → (v w : ℕ) → Dumps d (word v ⊕ word w) (dump_int v ++ dump_int w) (place at len out) (place to r out')
    two_dumped {n = n} b e m f p s v w =
        dumps_past (past_words 2 (word v ⊕ word w) (λ t. refl) s)
        (λ t h.
        let i = h.in_words in
        let k : n ≡ at + 1 = m.skips (v ∷ []) refl (here_left (v ∷ []) (w ∷ []) i) in
        let o : get_or d.store.words.now n 0 ≡ w = rw k (here_item (v ∷ w ∷ []) 1 (omega arith) i) in
        rw (e ∙ here_get v (w ∷ []) i, f ∙ o) at (two_put x _ b p))

    pub packed_dumped : x ≡ get_or d.store.words.now at 0 → Puts (to_be_bytes w32 x) len out r out' → Skips d.store.words.now 1 at to
        → (p : Parts) → ValidParts p → Dumps d (word (packed p)) (p.num_upvalues ∷ p.num_params ∷ p.is_vararg ∷ p.max_stack_size ∷ []) (place at len out) (place to r out')
    packed_dumped e q s p v = dumps_past (past_word (packed p) s) (λ t h. rw (e ∙ here_get (packed p) [] h.in_words, packed_bytes p v) at q)

    -- a count, then so many integers
    pub code_dumped : {m : ℕ} {out₁ k : List ℕ} → x ≡ get_or d.store.words.now at 0 → Puts (dump_int x) len out m out₁ → ((l t : List ℕ) (to : ℕ) → Stands d.store.words.now t at to (ints l) → k ≡ l) → Puts (each dump_int k) m out₁ r out' → Skips d.store.words.now (1 + x) at to
        → (l : List ℕ) → Dumps d (ints l) (dump_code l) (place at len out) (place to r out')
    code_dumped e p f q s l =
        let one : 1 + 1 * x ≡ 1 + x = omega arith in
        dumps_past (past_ints l (skip_items 1 e (rw one s))) (λ t h. rw (← f l _ t h) (put_then (rw (e ∙ here_get (length l) l h.in_words, ← f l _ t h) at p) q))

  module _ {at to len r : ℕ} {out out' : List ℕ} where
    pub name_dumped : (size4 : Bool) {n : List ℕ} → ((s : List ℕ) (t : ℕ) → Stands d.store.words.now d.store.text.now at t (string s) → n ≡ s) → Puts (dump_text size4 n) len out r out' → Skips d.store.words.now Names.WORDS at to
        → (s : List ℕ) → Dumps d (string s) (dump_text size4 s) (place at len out) (place to r out')
    name_dumped size4 f p s n = dumps_past (past_words Names.WORDS (string n) (Names.size n) s) (λ t h. rw (f n t h) at p)

    pub constant_dumped : (size4 : Bool) {c : Constant} → ConstantAt d.store.words.now at c → Puts (dump_constant size4 (value_of d.store.text.now c)) len out r out' → Skips d.store.words.now Constants.WORDS at to
        → (k : Value) → Dumps d (constant_piece k) (dump_constant size4 k) (place at len out) (place to r out')
    constant_dumped size4 f p s k = dumps_past (past_words Constants.WORDS (constant_piece k) (Constants.size k) s) (λ t h. rw (f.value k _ t h) at p)
