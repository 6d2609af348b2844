-- What measure and store answer, and what store leaves in lent memory.
use Rattle.std.specs.Prelude.{ℕ, ◌+◌, ◌-◌, ◌≤◌, ◌<◌, min, ◌≡◌, List, ◌++◌, map, Bool, true, false, cond, ◌&&◌, length, take, drop, leb, eqb, Result, Ok, Err}
use Rattle.utf8.specs.Utf8.{is_utf8, repair}
use Rattle.format.specs.Tree.{Source, Local, Debug, Function, Functions, with}
use Rattle.format.specs.Read.{Read, Reader, ◌>>=◌, return, width_of, load_header, load_function}
use Rattle.format.specs.Store.{words_of, text_of}
use Rattle.format.specs.Valid.{depth, most}
use Rattle.format.specs.Refusal.{number}
use Rattle.format.specs.declared.MeasuredChunk.{MeasuredChunk}
use Rattle.format.specs.declared.Undumped.{Undumped}
use Rattle.format.specs.declared.Refusal.{Refusal}

-- ---- sources, local and upvalue names go through repair; constants stay as they are

abbrev pub repaired_source : Source → Source
repaired_source Source.inherited = Source.inherited
repaired_source (Source.own s) = Source.own (repair s)

abbrev pub repaired_local : Local → Local
repaired_local v = record { name = repair v.name; start = v.start; end = v.end }

abbrev pub repaired_debug : Debug → Debug
repaired_debug d = record { lines = d.lines; locals = map repaired_local d.locals; upvalues = map repair d.upvalues }

unfoldable mutual
  pub repaired : Function → Function
  repaired (Function.function p fs) = Function.function (with (repaired_source p.source) (repaired_debug p.debug) p) (repaired_all fs)

  pub repaired_all : Functions → Functions
  repaired_all Functions.none = Functions.none
  repaired_all (Functions.more f fs) = Functions.more (repaired f) (repaired_all fs)

-- ---- a chunk: the header and the root function (luaU_undump); what stands behind is left

-- what it holds: whether its sizes take four bytes, and the root function
pub record Chunk : Type 0 where
  pub size4 : Bool
  pub root : Function

unfoldable pub load_chunk : Reader Chunk
load_chunk = do
  size4 ← load_header
  f ← load_function size4 depth
  return (record { size4 = size4; root = repaired f })

-- a chunk name, refused by 1 where it is not UTF-8 or too long
abbrev pub name_ok : List ℕ → Bool
name_ok name = is_utf8 name && leb (length name) most

-- a refusal: its number, zeros beside it
abbrev pub refused_by : ℕ → Undumped
refused_by n = record { refusal = n; width = 0; words = 0; text = 0; read = 0 }

-- what a call answers that measured a chunk, or is refused
abbrev pub undumped_result : Result MeasuredChunk Refusal → Undumped
undumped_result (Ok m) = record { refusal = 0; width = m.width; words = m.needs.words; text = m.needs.text; read = m.needs.read }
undumped_result (Err e) = refused_by (number e)

-- ---- measure: 1, then 2 to 7 as reading meets them

-- so many words or text bytes, as they are answered: one more than the limit for all that are above it
abbrev pub up_to_most : ℕ → ℕ
up_to_most n = min n (most + 1)

-- a chunk's numbers, of which so many bytes were read
abbrev pub measure_of : Chunk → ℕ → Undumped
measure_of c read =
    record { refusal = 0; width = width_of c.size4; words = up_to_most (length (words_of c.root)); text = up_to_most (length (text_of c.root)); read = read }

-- by what reading the bytes gives
abbrev pub measured_by : List ℕ → Read Chunk → Undumped
measured_by chunk (Read.got c rest) = measure_of c (length chunk - length rest)
measured_by chunk (Read.refused n) = refused_by n

-- measure(chunk, name)
unfoldable pub measured : List ℕ → List ℕ → Undumped
measured chunk name = cond (name_ok name) (measured_by chunk (load_chunk chunk)) (refused_by 1)

-- ---- the two calls as one: 1, 2 to 7, 8, 9

-- an answer, with what then stands in lent memory
pub record UndumpLeft : Type 0 where
  pub answer : Undumped
  pub words : List ℕ
  pub text : List ℕ

abbrev pub undump_refused : ℕ → List ℕ → List ℕ → UndumpLeft
undump_refused n words text = record { answer = refused_by n; words = words; text = text }

-- whether so many fit the space lent, and the limit
abbrev pub fits : ℕ → List ℕ → Bool
fits n lent = leb n (min (length lent) most)

-- what was used of the space, then what stood there
abbrev pub over : List ℕ → List ℕ → List ℕ
over used lent = used ++ drop (length used) lent

-- a chunk's store, in the space lent
abbrev pub store_left : Chunk → ℕ → List ℕ → List ℕ → UndumpLeft
store_left c read words text =
    record {
      answer = record { refusal = 0; width = width_of c.size4; words = length (words_of c.root); text = length (text_of c.root); read = read };
      words = over (words_of c.root) words;
      text = over (text_of c.root) text;
    }

-- a chunk was read: 8, 9, else its store
abbrev pub stored_or : Chunk → ℕ → List ℕ → List ℕ → UndumpLeft
stored_or c read words text =
    cond (fits (length (words_of c.root)) words)
    (cond (fits (length (text_of c.root)) text) (store_left c read words text) (undump_refused 9 words text))
    (undump_refused 8 words text)

-- by what reading the bytes gives
abbrev pub undumped_by : List ℕ → Read Chunk → List ℕ → List ℕ → UndumpLeft
undumped_by chunk (Read.got c rest) words text = stored_or c (length chunk - length rest) words text
undumped_by chunk (Read.refused n) words text = undump_refused n words text

-- measure(chunk, name), then store with the numbers that it answered
unfoldable pub undumped : List ℕ → List ℕ → List ℕ → List ℕ → UndumpLeft
undumped chunk name words text = cond (name_ok name) (undumped_by chunk (load_chunk chunk) words text) (undump_refused 1 words text)

-- ---- store: as measure is refused; 15; else 8, 9 or the chunk's store

-- whether three numbers are those that measure answers
abbrev pub as_measured : Undumped → ℕ → ℕ → ℕ → Bool
as_measured m need_words need_text need_read = eqb need_words m.words && (eqb need_text m.text && eqb need_read m.read)

-- store(chunk, name, need_words, need_text, need_read, words, text)
unfoldable pub stored : List ℕ → List ℕ → ℕ → ℕ → ℕ → List ℕ → List ℕ → UndumpLeft
stored chunk name need_words need_text need_read words text =
    let m = measured chunk name in
    cond (eqb m.refusal 0)
    (cond (as_measured m need_words need_text need_read) (undumped chunk name words text) (undump_refused 15 words text))
    (undump_refused m.refusal words text)

-- ---- when the two as one are refused

-- what they are lent: the chunk name, and the space with what stands there
pub record UndumpLent : Type 0 where
  pub name : List ℕ
  pub words : List ℕ
  pub text : List ℕ

-- refusal n is given, reading the bytes giving x: 1; 2 to 7 as reading meets them; 8; 9
pub data Refuses (c : UndumpLent) : Read Chunk → ℕ → Type 0 where
  bad_name : {x : Read Chunk} → name_ok c.name ≡ false → Refuses c x 1
  reading : {n : ℕ} → name_ok c.name ≡ true → Refuses c (Read.refused n) n
  few_words : {x : Chunk} {rest : List ℕ} → name_ok c.name ≡ true → min (length c.words) most < length (words_of x.root) → Refuses c (Read.got x rest) 8
  few_text : {x : Chunk} {rest : List ℕ} → name_ok c.name ≡ true → length (words_of x.root) ≤ min (length c.words) most → min (length c.text) most < length (text_of x.root)
      → Refuses c (Read.got x rest) 9

-- the store that is left: what was used of the space
abbrev pub words_used : UndumpLeft → List ℕ
words_used left = take left.answer.words left.words

abbrev pub text_used : UndumpLeft → List ℕ
text_used left = take left.answer.text left.text
