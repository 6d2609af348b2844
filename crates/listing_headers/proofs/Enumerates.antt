-- A loop that writes the items of a list that stands in the words, each with its index: what is left to write are the items from here on.
use Rattle.lent.proofs.Prelude.{ℕ, ◌+◌, ◌*◌, ◌≤◌, ◌<◌, ◌≡◌, ◌∙◌, List, ◌++◌, arith, add-one, length, drop, get_or, drop_of_length-le}
use Rattle.lent.specs.Writer.{Writes}
use Rattle.lent.specs.declared.Writer.{Writer}
use Rattle.lent.proofs.Writers.{WritesLeft, left_put, left_end, writes_then}
use Rattle.format.specs.Store.{Piece, list}
use Rattle.proto.specs.Walk.{Skips}
use Rattle.proto.specs.Lists.{StandsIn}
use Rattle.proto.specs.declared.store.Store.{Store}
use Rattle.proto.proofs.Items.{item_there, item_drop, list_count, list_item}
use Rattle.listing_operands.specs.Shown.{Shows}
use Rattle.listing_headers.specs.Tables.{enumerated, title, format_list}

-- before item i of whatever list stands there, the loop having begun at w₀
pub record EnumeratesList {A : Type 0} (store : Store) (place : ℕ) (piece : A → Piece) (say : ℕ → A → List ℕ) (i : ℕ) (w w₀ : Writer) : Type 0 where
  pub left : (l : List A) → StandsIn store place (list piece l) → WritesLeft (enumerated say i (drop i l)) w (enumerated say 0 l) w₀

module _ {A : Type 0} {store : Store} {place : ℕ} {piece : A → Piece} {say : ℕ → A → List ℕ} {w w₀ : Writer} where
  -- item i stands k words behind the one before it
  pub list_turn : {i n k r : ℕ} {w' : Writer} → EnumeratesList store place piece say i w w₀ → Shows store r piece (say i) w w' → Skips store.words.now (1 + k * i) place r → ((a : A) (to : ℕ) → length ((piece a).words to) ≡ k)
      → n ≡ get_or store.words.now place 0 → i < n → EnumeratesList store place piece say (i + 1) w' w₀
  unfolding enumerated
  list_turn {i} {k = k} t p s wide e h =
      record {
        left = λ l x.
            let c = e ∙ list_count piece l x.stands in
            let a = item_there l i (omega arith) in
            let q : enumerated say i (drop i l) ≡ say i a.value ++ enumerated say (i + 1) (drop (i + 1) l) = rw (item_drop l i a.is, add-one i) in
            left_put (say i a.value) q (t.left l x) (p.shows a.value (list_item piece k wide l i a.value a.is x.stands s));
      }

  -- behind a title
  pub list_end : {i n : ℕ} {start : Writer} (what : List ℕ) (number : ℕ) → EnumeratesList store place piece say i w w₀ → Writes (title what n number) start w₀ → n ≡ get_or store.words.now place 0 → n ≤ i
      → Shows store place (list piece) (λ l. format_list what say l number) start w
  unfolding enumerated
  list_end {i} {n} what number t p e h =
      record {
        shows = λ l x.
            let q : n ≡ length l = e ∙ list_count piece l x.stands in
            rw (← q) (writes_then p (left_end (rw (drop_of_length-le l {i = i} (omega arith))) (t.left l x)));
      }
