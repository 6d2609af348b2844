-- The program's answer, by what measure and store answered.
use Rattle.lent.proofs.Prelude.{ℕ, ◌≤◌, ◌<◌, ◌≡◌, ap, ◌∙◌, false, List, take, lt-ltb, le-ltb}
use Rattle.format.specs.Undump.{measured, undumped, stored}
use Rattle.format.specs.Dump.{WriteLeft, write_refused}
use Rattle.format.specs.declared.Undumped.{Undumped}
use Rattle.undump.specs.Undump.{undump_left}
use Rattle.listing.specs.Listing.{listed}
use Rattle.listchunk.specs.ListChunk.{stdin, listed_of, listed_chunk}
use Rattle.format.proofs.Measured.{measure_then_store}

module _ (chunk words text out : List ℕ) {m u : Undumped} {words' text' : List ℕ} (e : m ≡ measured chunk stdin)
    (h : undump_left u words' text' ≡ stored chunk stdin m.words m.text m.read words text) where
  together : undump_left u words' text' ≡ undumped chunk stdin words text
  together = h ∙ rw e (measure_then_store chunk stdin words text)

  pub chunk_refused : 0 < u.refusal → write_refused u.refusal out ≡ listed_chunk chunk words text out
  unfolding listed_chunk
  chunk_refused k =
      let l : write_refused u.refusal out ≡ listed_of (undump_left u words' text') out = rw (lt-ltb 0 u.refusal k) in
      l ∙ ap (λ l. listed_of l out) together

  pub chunk_listed : {ws ts : List ℕ} {left : WriteLeft} → u.refusal ≤ 0 → ws ≡ take u.words words' → ts ≡ take u.text text' → left ≡ listed ws ts stdin false out → left ≡ listed_chunk chunk words text out
  unfolding listed_chunk
  chunk_listed z w t k =
      let l : listed (take u.words words') (take u.text text') stdin false out ≡ listed_of (undump_left u words' text') out = rw (le-ltb 0 u.refusal z) in
      rw (w, t) at k ∙ l ∙ ap (λ l. listed_of l out) together
