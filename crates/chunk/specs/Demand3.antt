-- Demand 3 of the scope: dumps laid end to end are found again by calls of measure and store, the two counted as one, that begin each where the
-- one before left off. It speaks of calls as they return: each is held to the contract of the call for C, and to nothing else.
use Rattle.std.specs.Prelude.{ℕ, ◌+◌, ◌<◌, ◌≡◌, ◌⊎◌, ◌↔◌, List, [], ◌∷◌, ◌++◌, map, Bool, false, cond, length, take, drop, eqb}
use Rattle.std.proofs.Math.Option.{Option, none, some}
use Rattle.format.specs.Tree.{Function, root_source, stripped, fill}
use Rattle.format.specs.Read.{got, width_of}
use Rattle.format.specs.Valid.{Holds, HoldOne}
use Rattle.format.specs.Stored.{tree_of}
use Rattle.format.specs.Undump.{Chunk, load_chunk, measured, UndumpLeft, undump_refused, stored, UndumpLent, Refuses, words_used, text_used}
use Rattle.format.specs.Dump.{write_left, dumped}
use Rattle.format.specs.declared.Undumped.{Undumped}
use Rattle.format.specs.declared.Written.{Written}
use Rattle.undump.specs.Undump.{undump_left}

-- ---- dumps

-- a call of dump that has returned: the store as it stood then, the chunk name, strip, the width, the space lent; the answer, and what it left there
pub record DumpCall : Type 0 where
  pub words : List ℕ
  pub text : List ℕ
  pub name : List ℕ
  pub strip : Bool
  pub size4 : Bool
  pub out : List ℕ
  pub answer : Written
  pub left : List ℕ
  -- the contract of lua_chunk_dump
  pub contract : write_left answer left ≡ dumped words text name strip size4 out

abbrev pub Accepted : DumpCall → Type 0
Accepted d = d.answer.refusal ≡ 0

-- the bytes that it wrote, none where it was refused
abbrev pub bytes_of : DumpCall → List ℕ
bytes_of d = take d.answer.len d.left

-- a refused call gives no dump
unfoldable pub dumps_of : List DumpCall → List DumpCall
dumps_of [] = []
dumps_of (d ∷ ds) = cond (eqb d.answer.refusal 0) (d ∷ dumps_of ds) (dumps_of ds)

unfoldable pub end_to_end : List DumpCall → List ℕ
end_to_end [] = []
end_to_end (d ∷ ds) = bytes_of d ++ end_to_end ds

-- the source of the root that was dumped
abbrev pub root_of : Option Function → List ℕ → List ℕ
root_of none name = []
root_of (some f) name = root_source f name

abbrev pub dumped_source : DumpCall → List ℕ
dumped_source d = root_of (tree_of d.words d.text) d.name

-- ---- measure and store

-- a call of measure on these bytes that has returned: the answer
pub record MeasureCall (bytes name : List ℕ) : Type 0 where
  pub answer : Undumped
  -- the contract of lua_chunk_measure
  pub contract : answer ≡ measured bytes name

-- a call of store on these bytes that has returned, lent this and handed what measure answered: the answer, and what it left in the space
pub record StoreCall (bytes : List ℕ) (lent : UndumpLent) (m : Undumped) : Type 0 where
  pub answer : Undumped
  pub words : List ℕ
  pub text : List ℕ
  -- the contract of lua_chunk_store
  pub contract : undump_left answer words text ≡ stored bytes lent.name m.words m.text m.read lent.words lent.text

-- the two as one call, under one chunk name
pub record UndumpCall (bytes : List ℕ) : Type 0 where
  pub lent : UndumpLent
  pub measure : MeasureCall bytes lent.name
  pub store : StoreCall bytes lent measure.answer

-- refused where either is: measure's answer where that is refused, else store's
abbrev pub answer_of : {bytes : List ℕ} → UndumpCall bytes → Undumped
answer_of c = cond (eqb c.measure.answer.refusal 0) c.store.answer c.measure.answer

abbrev pub left_by : {bytes : List ℕ} → UndumpCall bytes → UndumpLeft
left_by c = undump_left (answer_of c) c.store.words c.store.text

-- calls one after the other: each gets the slice from its place, which moves on by the bytes read that the call answered
pub data Calls (slice : List ℕ) : ℕ → Type 0 where
  done : {place : ℕ} → Calls slice place
  call : {place : ℕ} (c : UndumpCall (drop place slice)) → Calls slice (place + (answer_of c).read) → Calls slice place

-- ---- one call, on bytes that begin with the dump d

-- the store left, under a chunk name, holds the tree that was dumped, stripped where the dump is
pub record FindsStripped (d : DumpCall) (left : UndumpLeft) (name : List ℕ) : Type 0 where
  pub tree : Function
  pub tree' : Function
  pub holds : Holds (words_used left) (text_used left) tree
  pub holds' : Holds d.words d.text tree'
  pub one : fill tree name ≡ fill (stripped tree' d.strip) d.name

-- a call that is not refused gives back the dump's width. A root source that is empty is read back as the chunk name, so there the tree is found under the empty name
pub record Takes (d : DumpCall) (name : List ℕ) (left : UndumpLeft) : Type 0 where
  pub read : left.answer.read ≡ length (bytes_of d)
  pub width : left.answer.width ≡ width_of d.size4
  pub finds : d.strip ≡ false → (¬ (dumped_source d ≡ [])) ⊎ (name ≡ []) → HoldOne (words_used left) (text_used left) name d.words d.text d.name
  pub finds_stripped : (¬ (dumped_source d ≡ [])) ⊎ (name ≡ []) → FindsStripped d left name
  pub finds_unnamed : FindsStripped d left []

-- any call: refused by 1, 8 and 9, each under its condition and not otherwise, with nothing written; or it takes the dump
pub record CallOnDump (d : DumpCall) (bytes : List ℕ) (c : UndumpLent) (left : UndumpLeft) : Type 0 where
  pub chunk : Chunk
  pub rest : List ℕ
  pub begins : bytes_of d ++ rest ≡ bytes
  pub reads : load_chunk bytes ≡ got chunk rest
  pub refused : (n : ℕ) → 0 < n → (left.answer.refusal ≡ n) ↔ Refuses c (got chunk rest) n
  pub untouched : (n : ℕ) → 0 < n → left.answer.refusal ≡ n → left ≡ undump_refused n c.words c.text
  pub takes : left.answer.refusal ≡ 0 → Takes d c.name left

-- ---- all calls

-- the dumps that are left behind a call: all where it is refused
abbrev pub dumps_left : Undumped → DumpCall → List DumpCall → List DumpCall
dumps_left answer d ds = cond (eqb answer.refusal 0) ds (d ∷ ds)

-- each call stands at the first of the dumps that are left, as long as there is one
unfoldable pub Session : {slice : List ℕ} {place : ℕ} → Calls slice place → List DumpCall → Type 0
Session Calls.done ds = Unit {0}
Session (Calls.call c cs) [] = Unit {0}
Session {slice} {place} (Calls.call c cs) (d ∷ ds) = CallOnDump d (drop place slice) c.lent (left_by c) × Session cs (dumps_left (answer_of c) d ds)

pub record Demand3 : Type 0 where
  -- any dump calls, and any calls on their dumps with any bytes behind, refused ones included
  pub session : (dumps : List DumpCall) (behind : List ℕ) (calls : Calls (end_to_end dumps ++ behind) 0) → Session calls (dumps_of dumps)
  -- no two widths give one dump
  pub same_width : (d e : DumpCall) → Accepted d → Accepted e → bytes_of d ≡ bytes_of e → d.size4 ≡ e.size4
  -- no two different trees give one dump without strip
  pub differ : (d e : DumpCall) → Accepted d → Accepted e → d.strip ≡ false → e.strip ≡ false → bytes_of d ≡ bytes_of e
      → HoldOne d.words d.text d.name e.words e.text e.name
  -- no dump begins a different one
  pub none_begins : (d e : DumpCall) (more : List ℕ) → Accepted d → Accepted e → bytes_of d ++ more ≡ bytes_of e → bytes_of d ≡ bytes_of e
  -- equal bytes are equal lists of dumps
  pub same_dumps : (ds es : List DumpCall) → end_to_end ds ≡ end_to_end es → map bytes_of (dumps_of ds) ≡ map bytes_of (dumps_of es)
