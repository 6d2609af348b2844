-- What reading a string gives at a place of the chunk.
use Rattle.std.specs.Prelude.{Some, Ok}
use Rattle.lent.proofs.Prelude.{ℕ, zero, suc, ◌+◌, ◌-◌, ◌≤◌, ◌<◌, ◌≡◌, refl, List, arith, length, drop, length-drop, drop-drop}
use Rattle.format.specs.Tree.{Source}
use Rattle.format.specs.Read.{got, load_size, string_of}
use Rattle.format.specs.Stored.{part}
use Rattle.load_state.specs.declared.cursor.Got.{Got}
use Rattle.load_state.specs.ReadAt.{ReadFrom}
use Rattle.load.specs.declared.cursor.ChunkReader.{ChunkReader}
use Rattle.load.specs.Loads.{Strings}
use Rattle.load_state.proofs.Bytes.{byte_got, block_got}
use Rattle.load.proofs.Steps.{reads_then}

string_got : (bs : List ℕ) (at n : ℕ) → 0 < n → n ≤ length bs - at → string_of n (drop at bs) ≡ got (Source.own (part bs at (n - 1))) (drop (at + n) bs)
string_got bs at zero k h = absurd (omega arith)
string_got bs at (suc n) k h =
    let l : n ≤ length (drop at bs) = rw length-drop (omega arith) in
    let d : suc n - 1 ≡ n = omega arith in
    let e : at + n + 1 ≡ at + suc n = omega arith in
    rw (d, block_got n (drop at bs) l, drop-drop n at bs, byte_got bs (at + n) (omega arith), e)

-- a string that is all there
pub string_own : {s : ChunkReader} {size : Got ℕ} → ReadFrom (load_size s.size_4) s.state (Ok size) → 0 < size.value → size.value ≤ length s.state.chunk.now - size.next
    → Strings s (Ok (record { value = Some (record { start = size.next; len = size.value - 1 }); next = size.next + size.value }))
string_own h k l = record { reads = reads_then string_of h (λ a e. record { ends = rw (e, string_got _ _ _ k l) (refl, refl) }); within = omega arith }
