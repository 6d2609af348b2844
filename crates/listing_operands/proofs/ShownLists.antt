-- Laws of what the calls promise: texts one after the other, under a test, and of an item of a list.
use Rattle.lent.proofs.Prelude.{ℕ, zero, suc, ◌<◌, ◌≡◌, sym, ap, List, [], ◌∷◌, ◌++◌, Option, some, arith, length, get_or, ltb, ltb-true}
use Rattle.std.proofs.Common.{Bor, is_some, IfSome, ltb-false}
use Rattle.std.specs.Option.{option_copied}
use Rattle.std.specs.declared.option.Option as rust
use Rattle.std.specs.declared.option.Option.TheVariants.{Some, None}
use Rattle.lent.specs.Writer.{Writes}
use Rattle.lent.specs.declared.Writer.{Writer}
use Rattle.lent.proofs.Writers.{writes_then}
use Rattle.format.specs.Tree.{Constant as Value}
use Rattle.format.specs.Store.{Piece, string, list, ints, constant_piece}
use Rattle.format.specs.declared.Constant.{Constant}
use Rattle.format.specs.Constants.{value_of}
use Rattle.proto.specs.Walk.{Stands, item}
use Rattle.proto.specs.Constants.{read}
use Rattle.proto.specs.Lists.{StandsIn}
use Rattle.proto.specs.declared.store.Store.{Store}
use Rattle.proto.proofs.Items.{item_past}
use Rattle.listing_operands.specs.Shown.{Shows}

-- ---- item i of a list

-- which was got
pub got_some : {A : Type 0} (l : List A) (i : ℕ) {x : A} → i < length l → x ≡ get_or l i x → item l i ≡ some x
unfolding item
got_some [] i h e = absurd (omega arith)
got_some (a ∷ l) zero h e = ap some (sym e)
got_some (a ∷ l) (suc i) h e = got_some l i (omega arith) e

-- and copied
pub got_copied : (l : List ℕ) (i : ℕ) (o : rust.Option (Bor ℕ)) → is_some o ≡ ltb i (length l) → IfSome o (λ x. x.now ≡ get_or l i x.now) → read (λ n. n) (option_copied o) ≡ item l i
got_copied l i None e h = sym (item_past l i (ltb-false i (length l) (sym e)))
got_copied l i (Some x) e h = sym (got_some l i (ltb-true i (length l) (sym e)) h)

module _ {A : Type 0} {store : Store} {place : ℕ} {w w' : Writer} where
  module _ {piece : A → Piece} where
    -- ---- one after the other, and under a test

    pub shows_put : {t : List ℕ} → Writes t w w' → Shows store place piece (λ a. t) w w'
    shows_put p = record { shows = λ a h. p }

    pub shows_then : {say more : A → List ℕ} {w'' : Writer} → Shows store place piece say w w' → Shows store place piece more w' w'' → Shows store place piece (λ a. say a ++ more a) w w''
    shows_then s t = record { shows = λ a h. writes_then (s.shows a h) (t.shows a h) }

    pub shows_is : {say more : A → List ℕ} → Shows store place piece more w w' → ((a : A) → say a ≡ more a) → Shows store place piece say w w'
    shows_is s e = record { shows = λ a h. rw (e a) (s.shows a h) }

  -- ---- item i of a list, which is x

  pub shows_of : (piece : A → Piece) (say : Option A → List ℕ) (i : ℕ) (x : Option A) → ((l : List A) → StandsIn store place (list piece l) → x ≡ item l i) → Writes (say x) w w' → Shows store place (list piece) (λ l. say (item l i)) w w'
  shows_of piece say i x e p = record { shows = λ l s. rw (e l s) at p }

module _ {store : Store} {place : ℕ} {w w' : Writer} where
  -- the words of a list that stands at a place
  pub shows_ints : {r : List ℕ} {say : List ℕ → List ℕ} → ((l t : List ℕ) (to : ℕ) → Stands store.words.now t place to (ints l) → r ≡ l) → Writes (say r) w w' → Shows store place ints say w w'
  shows_ints e p = record { shows = λ l s. rw (e l store.text.now s.to s.stands) at p }

  -- the constant that stands at a place
  pub constant_shown : (k : Constant) (say : Value → List ℕ) → ((v : Value) (t : List ℕ) (to : ℕ) → Stands store.words.now t place to (constant_piece v) → value_of t k ≡ v) → Writes (say (value_of store.text.now k)) w w' → Shows store place constant_piece say w w'
  constant_shown k say e p = record { shows = λ v s. rw (e v store.text.now s.to s.stands) at p }

  -- the string that stands at a place
  pub string_shown : {r : List ℕ} (say : List ℕ → List ℕ) → ((s : List ℕ) (to : ℕ) → Stands store.words.now store.text.now place to (string s) → r ≡ s) → Writes (say r) w w' → Shows store place string say w w'
  string_shown say e p = record { shows = λ s x. rw (e s x.to x.stands) at p }
