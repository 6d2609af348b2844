-- Pieces stored one after the other.
use Rattle.lent.proofs.Prelude.{◌+◌, min, ◌≡◌, refl, ◌∙◌, [], ◌++◌, arith, length, length-append}
use Rattle.lent.specs.Memory.{far}
use Rattle.lent.proofs.Writes.{put_none, put_then, put_length}
use Rattle.format.specs.Store.{Piece, plain, ◌⊕◌}
use Rattle.format.proofs.Pieces.{Same, same_assoc}
use Rattle.load.specs.declared.Loader.{Loader}
use Rattle.load.specs.Loads.{Space, Wrote, Does, Stores}
use Rattle.load.proofs.Steps.{same_then}

pub nothing : {σ : Space} → Does (plain []) σ σ
nothing = record { does = λ τ e h. record { stored = []; many = refl; exact = λ k. refl; words = put_none; text = put_none } }

-- two pieces: the second stands where the first ended
pub join : {p q : Piece} {σ m σ' : Space} → Does p σ m → Does q m σ' → Does (p ⊕ q) σ σ'
join {p} {q} {σ} {m} {σ'} d e =
    record {
      does = λ τ f h.
          let a : Wrote τ p σ m = d.does τ f h in
          let t : m.text_at ≡ min (σ.text_at + length p.text) far = (a.text.puts (omega arith) h).0 in
          let l : length m.text ≡ length σ.text = put_length a.text (omega arith) h in
          let b : Wrote (τ + length p.text) q m σ' = e.does (τ + length p.text) (omega arith) (omega arith) in
          let lt : length (p.text ++ q.text) ≡ length p.text + length q.text = length-append p.text q.text in
          record {
            stored = a.stored ++ b.stored;
            many = simp length-append (rw (a.many, b.many));
            exact = λ k. rw (a.exact (omega arith), b.exact (omega arith));
            words = put_then {b = b.stored} a.words b.words;
            text = put_then a.text b.text;
          };
    }

pub stores_then : {p q : Piece} {σ m σ' : Loader} → Stores p σ m → Stores q m σ' → Stores (p ⊕ q) σ σ'
stores_then h k = record { same = same_then h.same k.same; pos = k.pos ∙ h.pos; does = join h.does k.does }

-- a piece that reads the same
same_piece : {p q : Piece} {σ σ' : Space} → Same p q → Does p σ σ' → Does q σ σ'
same_piece {p} {q} {σ} {σ'} e d =
    record {
      does = λ τ g h.
          let a : Wrote τ p σ σ' = d.does τ g h in
          record { stored = a.stored; many = rw (← e.words τ) a.many; exact = λ k. rw (← e.words τ) (a.exact (rw e.text k)); words = a.words; text = rw (← e.text) a.text };
    }

pub regroup : {σ σ' : Space} (p q r : Piece) → Does ((p ⊕ q) ⊕ r) σ σ' → Does (p ⊕ (q ⊕ r)) σ σ'
regroup p q r d = same_piece (same_assoc p q r) d
