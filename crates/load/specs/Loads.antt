-- What a step of the reader does, against what reading gives (Read) and what a store holds (Store).
use Rattle.std.specs.Prelude.{ℕ, zero, suc, ◌+◌, ◌≤◌, min, ◌≡◌, List, [], ◌∷◌, length, get_or, Option, Some, None, Result, IfOk}
use Rattle.lent.specs.Memory.{far, Puts}
use Rattle.utf8.specs.Utf8.{repair}
use Rattle.format.specs.Tree.{Source}
use Rattle.format.specs.Read.{Reader, load_string, load_text, load_constant}
use Rattle.format.specs.Store.{Piece, string, source_piece}
use Rattle.format.specs.Valid.{most}
use Rattle.format.specs.Stored.{part}
use Rattle.format.specs.Undump.{repaired_source}
use Rattle.format.specs.Constants.{meaning_of, value_of, LiesIn}
use Rattle.format.specs.declared.Constant.{Constant}
use Rattle.format.specs.declared.Refusal.{Refusal}
use Rattle.load_state.specs.declared.cursor.Got.{Got}
use Rattle.load_state.specs.ReadAt.{ReadsByFrom, four_at}
use Rattle.format.specs.declared.Span.{Span}
use Rattle.load.specs.declared.cursor.ChunkReader.{ChunkReader}
use Rattle.load.specs.declared.Loader.{Loader}

-- ---- reading

-- n numbers of four bytes each, one after the other
unfoldable pub fours : List ℕ → ℕ → ℕ → List ℕ
fours bs at zero = []
fours bs at (suc n) = four_at bs at ∷ fours bs (at + 4) n

-- the bytes of a span
abbrev pub bytes_of : List ℕ → Span → List ℕ
bytes_of bs z = part bs z.start z.len

-- the string that a span stands for, where there is one
abbrev pub spanned : List ℕ → Option Span → Source
spanned bs None = Source.inherited
spanned bs (Some z) = Source.own (bytes_of bs z)

-- a span lies in the chunk, where there is one
abbrev pub Lies : List ℕ → Option Span → Type 0
Lies bs None = Unit {0}
Lies bs (Some z) = z.start + z.len ≤ length bs

-- a string, its size of the width of s: the span lies in the chunk
pub record Strings (s : ChunkReader) (r : Result (Got (Option Span)) Refusal) : Type 0 where
  pub reads : ReadsByFrom (load_string s.size_4) (λ v g. v ≡ spanned s.state.chunk.now g.value) (λ g. g.next) s.state r
  pub within : IfOk r (λ g. Lies s.state.chunk.now g.value)

-- a name or a string constant, which is empty where there is no string
pub record Texts (s : ChunkReader) (r : Result (Got Span) Refusal) : Type 0 where
  pub reads : ReadsByFrom (load_text s.size_4) (λ v g. v ≡ bytes_of s.state.chunk.now g.value) (λ g. g.next) s.state r
  pub within : IfOk r (λ g. g.value.start + g.value.len ≤ length s.state.chunk.now)

-- a constant: what is answered stands for it, its string lies in the chunk, and its tag is the answer's number
pub record ReadsConstant (s : ChunkReader) (r : Result (Got Constant) Refusal) : Type 0 where
  pub reads : ReadsByFrom (load_constant s.size_4) (λ a z. a ≡ value_of s.state.chunk.now z.value) (λ z. z.next) s.state r
  pub lies : IfOk r (λ z. LiesIn s.state.chunk.now z.value)
  pub numbered : IfOk r (λ z. get_or s.state.chunk.now s.state.pos 0 ≡ (meaning_of z.value).number)

-- ---- storing

-- lent memory, with the words and text bytes so far
pub record Space : Type 0 where
  pub words_at : ℕ
  pub text_at : ℕ
  pub words : List ℕ
  pub text : List ℕ

abbrev pub space : Loader → Space
space σ = record { words_at = σ.words_at; text_at = σ.text_at; words = σ.words.now; text = σ.text.now }

-- a piece stored, τ text bytes standing so far: its text is written, and as many words as it has, which are its own where the text keeps within the limit
pub record Wrote (τ : ℕ) (p : Piece) (σ σ' : Space) : Type 0 where
  pub stored : List ℕ
  pub many : length stored ≡ length (p.words τ)
  pub exact : τ + length p.text ≤ most → stored ≡ p.words τ
  pub words : Puts stored σ.words_at σ.words σ'.words_at σ'.words
  pub text : Puts p.text σ.text_at σ.text σ'.text_at σ'.text

-- a place in the text is τ, or has stopped at the farthest
pub record Does (p : Piece) (σ σ' : Space) : Type 0 where
  pub does : (τ : ℕ) → σ.text_at ≡ min τ far → length σ.text ≤ far → Wrote τ p σ σ'

-- the chunk, the width of sizes and the lent memory are the same
pub record Same (σ σ' : Loader) : Type 0 where
  pub chunk : σ'.reader.state.chunk ≡ σ.reader.state.chunk
  pub size_4 : σ'.reader.size_4 ≡ σ.reader.size_4
  pub words : σ'.words.ghost_name ≡ σ.words.ghost_name
  pub text : σ'.text.ghost_name ≡ σ.text.ghost_name

-- the reader moves on to a place, and nothing is stored
pub record Moves (next : ℕ) (σ σ' : Loader) : Type 0 where
  pub same : Same σ σ'
  pub pos : σ'.reader.state.pos ≡ next
  pub space : space σ' ≡ space σ

-- bytes go to the text, and nothing else changes
pub record PutsText (bytes : List ℕ) (σ σ' : Loader) : Type 0 where
  pub same : Same σ σ'
  pub reader : σ'.reader ≡ σ.reader
  pub words_at : σ'.words_at ≡ σ.words_at
  pub words : σ'.words.now ≡ σ.words.now
  pub puts : Puts bytes σ.text_at σ.text.now σ'.text_at σ'.text.now

-- a piece is stored, and nothing read
pub record Stores (p : Piece) (σ σ' : Loader) : Type 0 where
  pub same : Same σ σ'
  pub pos : σ'.reader.state.pos ≡ σ.reader.state.pos
  pub does : Does p (space σ) (space σ')

-- from σ to σ' by the reader R, with P of what it gives and r's value, or with r's refusal
pub record LoadsBy {A B : Type 0} (R : Reader A) (P : A → B → Type 0) (σ σ' : Loader) (r : Result B Refusal) : Type 0 where
  pub same : Same σ σ'
  pub reads : ReadsByFrom R P (λ b. σ'.reader.state.pos) σ.reader.state r

-- what it gives being stored as a piece
abbrev pub Loads : {A : Type 0} → Reader A → (A → Piece) → Loader → Loader → Result (Unit {0}) Refusal → Type 0
Loads R piece σ σ' r = LoadsBy R (λ a (b : Unit {0}). Does (piece a) (space σ) (space σ')) σ σ' r

-- ---- what is stored, names repaired

abbrev pub repaired_name : List ℕ → Piece
repaired_name s = string (repair s)

abbrev pub repaired_source_piece : Source → Piece
repaired_source_piece s = source_piece (repaired_source s)
