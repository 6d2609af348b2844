-- Where there is room for the bytes of a piece, each step of the walk has room for its own, and leaves room for the rest: so what fits is written whole.
use Rattle.std.specs.Prelude.{None}
use Rattle.lent.proofs.Prelude.{ℕ, ◌+◌, ◌-◌, ◌≤◌, ◌<◌, ◌≡◌, refl, ◌∙◌, List, [], ◌∷◌, ◌++◌, false, arith, length, take, drop, length-append, leb, lt-leb}
use Rattle.lent.specs.Memory.{Every, far, Puts}
use Rattle.lent.specs.Whole.{PutsWhole}
use Rattle.lent.proofs.Writes.{put_length, put_fits}
use Rattle.format.specs.Store.{Piece, ◌⊕◌, pieces}
use Rattle.format.specs.Write.{each}
use Rattle.format.proofs.Loops.{Loop, loop_turn}
use Rattle.proto.specs.Walk.{Stands}
use Rattle.proto.proofs.Pieces.{stands_left, stands_right}
use Rattle.dump.specs.Step.{Progress, Dumps}
use Rattle.dump.specs.declared.list.Dumper.{Dumper}
use Rattle.dump.proofs.Lists.{DumpsAll, all_more}

-- bytes that were counted, in some space: they fit, or none is written
module _ {bytes : List ℕ} {n : ℕ} (out : List ℕ) where
  pub counted_fits : n ≤ length out → length out < far → Puts bytes 0 [] n [] → length bytes ≤ length out
  counted_fits h l p = omega (arith, p.puts (omega arith) (omega arith))

  pub counted_long : length out < n → Puts bytes 0 [] n [] → PutsWhole bytes out None out
  counted_long h p =
      let e : leb (length bytes) (length out) ≡ false = lt-leb (length bytes) (length out) (omega (arith, p.puts (omega arith) (omega arith))) in
      record { counts = rw e refl; leaves = rw e refl }

-- the piece stands there, and there is room for the bytes
pub record Fits (d : Dumper) (p : Piece) (bytes : List ℕ) (s : Progress) : Type 0 where
  pub to : ℕ
  pub stands : Stands d.store.words.now d.store.text.now s.at to p
  pub room : s.len + length bytes ≤ length s.out
  pub small : length s.out ≤ far

-- it is the piece of a value
pub record Ready {A : Type 0} (d : Dumper) (ok : A → Type 0) (piece : A → Piece) (bytes : A → List ℕ) (s : Progress) : Type 0 where
  pub value : A
  pub valid : ok value
  pub fits : Fits d (piece value) (bytes value) s

-- i of n items are written, from s₀ to s, and there is room for the others
pub record Writing {A : Type 0} (d : Dumper) (ok : A → Type 0) (piece : A → Piece) (bytes : A → List ℕ) (n : ℕ) (s₀ : Progress) (i : ℕ) (s : Progress) : Type 0 where
  pub same : length s.out ≡ length s₀.out
  pub loop : Loop (DumpsAll d ok piece bytes) n s₀ i s
  pub left : Ready d (λ l. (length l ≡ n - i) × Every ok l) (pieces piece) (each bytes) s

module _ {d : Dumper} {s : Progress} where
  -- all of it is written, and around it the space is as it was
  pub fits_written : {m : Progress} {p : Piece} {b : List ℕ} → Fits d p b s → Dumps d p b s m → (m.len ≡ s.len + length b) × (m.out ≡ take s.len s.out ++ b ++ drop (s.len + length b) s.out)
  fits_written f x = put_fits (x.dumps f.to f.stands).1 f.room f.small

  fits_length : {m : Progress} {p : Piece} {b : List ℕ} → Fits d p b s → Dumps d p b s m → length m.out ≡ length s.out
  fits_length f x = put_length (x.dumps f.to f.stands).1 (omega (arith, f.room, f.small)) f.small

  module _ (p q : Piece) (b c : List ℕ) (f : Fits d (p ⊕ q) (b ++ c) s) where
    pub fits_left : Fits d p b s
    fits_left = record { to = f.to; stands = stands_left p q f.stands; room = omega (arith, f.room, length-append b c); small = f.small }

    pub fits_right : {m : Progress} → Dumps d p b s m → Fits d q c m
    fits_right x =
        record {
          to = f.to + length p.text;
          stands = rw (x.dumps f.to (stands_left p q f.stands)).0 (stands_right p q f.stands);
          room = omega (arith, f.room, length-append b c, (fits_written fits_left x).0, fits_length fits_left x);
          small = rw (fits_length fits_left x) f.small;
        }

module _ {A : Type 0} {d : Dumper} {ok : A → Type 0} {piece : A → Piece} {bytes : A → List ℕ} {n i : ℕ} {s₀ s : Progress} (h : i < n) (w : Writing d ok piece bytes n s₀ i s) where
  -- the next item, and those behind it
  next_item : {P : Type 0} → ((a : A) (l : List A) → length l ≡ n - (i + 1) → ok a → Every ok l → Fits d (piece a ⊕ pieces piece l) (bytes a ++ each bytes l) s → P) → P
  unfolding Every pieces each
  next_item {P} f = go w.left.value w.left.valid.0 w.left.valid.1 w.left.fits
    where
      go : (l : List A) → length l ≡ n - i → Every ok l → Fits d (pieces piece l) (each bytes l) s → P
      go [] e k x = absurd (omega arith)
      go (a ∷ l) e k x = f a l (omega arith) k.0 k.1 x

  pub writing_next : Ready d ok piece bytes s
  writing_next = next_item (λ a l e v k f. record { value = a; valid = v; fits = fits_left (piece a) (pieces piece l) (bytes a) (each bytes l) f })

  pub writing_turn : {m : Progress} → ((a : A) → ok a → Dumps d (piece a) (bytes a) s m) → Writing d ok piece bytes n s₀ (i + 1) m
  writing_turn x =
      next_item
      (λ a l e v k f.
      record {
        same = fits_length (fits_left (piece a) (pieces piece l) (bytes a) (each bytes l) f) (x a v) ∙ w.same;
        loop = loop_turn h w.loop (all_more x);
        left = record { value = l; valid = (e, k); fits = fits_right (piece a) (pieces piece l) (bytes a) (each bytes l) f (x a v) };
      })
