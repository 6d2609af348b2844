-- Lists, written in a loop.
use Rattle.lent.proofs.Prelude.{ℕ, suc, ◌≤◌, ◌≡◌, sym, ◌∙◌, List, [], ◌∷◌, arith, length, get_or}
use Rattle.lent.specs.Memory.{Every}
use Rattle.format.specs.Store.{Piece, word, pieces, list}
use Rattle.format.specs.Write.{dump_int, dump_list, each}
use Rattle.format.proofs.Loops.{Loop, loop_end}
use Rattle.proto.proofs.Sublists.{here_get}
use Rattle.dump.specs.Step.{Progress, Dumps}
use Rattle.dump.specs.declared.list.Dumper.{Dumper}
use Rattle.dump.proofs.Steps.{dumps_none, dumps_then}

-- nothing is asked of an item
abbrev pub Any : {A : Type 0} → A → Type 0
Any a = Unit {0}

pub every_all : {A : Type 0} {P : A → Type 0} → ((a : A) → P a) → (l : List A) → Every P l
unfolding Every
every_all h [] = tt
every_all h (a ∷ l) = (h a, every_all h l)

-- from s to r past every list of n items
pub record DumpsAll {A : Type 0} (d : Dumper) (ok : A → Type 0) (piece : A → Piece) (bytes : A → List ℕ) (n : ℕ) (s r : Progress) : Type 0 where
  pub all : (l : List A) → Every ok l → length l ≡ n → Dumps d (pieces piece l) (each bytes l) s r

module _ {A : Type 0} {d : Dumper} {ok : A → Type 0} {piece : A → Piece} {bytes : A → List ℕ} where
  all_none : {s : Progress} → DumpsAll d ok piece bytes 0 s s
  unfolding pieces each
  all_none {s} = record { all = go }
    where
      go : (l : List A) → Every ok l → length l ≡ 0 → Dumps d (pieces piece l) (each bytes l) s s
      go [] k e = dumps_none
      go (a ∷ l) k e = absurd (omega arith)

  pub all_more : {s m : Progress} → ((a : A) → ok a → Dumps d (piece a) (bytes a) s m) → (n : ℕ) (r : Progress) → DumpsAll d ok piece bytes n m r → DumpsAll d ok piece bytes (suc n) s r
  unfolding pieces each Every
  all_more {s} x n r y = record { all = go }
    where
      go : (l : List A) → Every ok l → length l ≡ suc n → Dumps d (pieces piece l) (each bytes l) s r
      go [] k e = absurd (omega arith)
      go (a ∷ l) k e = dumps_then (x a k.0) (y.all l k.1 (omega arith))

  -- behind the count, a loop that has come to its end
  pub list_dumped : {n i : ℕ} {s m r : Progress} → n ≡ get_or d.store.words.now s.at 0 → ((v : ℕ) → Dumps d (word v) (dump_int v) s m) → n ≤ i → Loop (DumpsAll d ok piece bytes) n m i r
      → (l : List A) → Every ok l → Dumps d (list piece l) (dump_list bytes l) s r
  list_dumped e x h w l k =
      record {
        dumps = λ to y.
            let g : length l ≡ _ = sym (here_get (length l) _ y.in_words) ∙ sym e in
            (dumps_then (x (length l)) ((loop_end h w all_none).all l k g)).dumps to y;
      }
