-- The functions of a tree in its store: where each begins, and its source.
use Rattle.std.specs.Prelude.{ℕ, ◌+◌, ◌≡◌, List, [], ◌∷◌, ◌++◌, cond, length, eqb, Result, Ok, Err}
use Rattle.std.proofs.Math.Option.{Option, none, some}
use Rattle.std.specs.declared.ops.ControlFlow.{ControlFlow}
use Rattle.std.specs.declared.ops.ControlFlow.TheVariants.{Continue, Break}
use Rattle.format.specs.Tree.{Source, Function, Functions, filled}
use Rattle.format.specs.Store.{function_piece}
use Rattle.format.specs.Stored.{tree_of, Here}
use Rattle.format.specs.Dump.{under_name, on_tree}
use Rattle.format.specs.Refusal.{number}
use Rattle.format.specs.declared.Refusal.{Refusal}
use Rattle.proto.specs.Walk.{to_functions}
use Rattle.proto.specs.declared.place.SourceSpan.{SourceSpan}
use Rattle.proto.specs.declared.place.SourceSpan.TheVariants.{Text, Name}
use Rattle.proto.specs.declared.place.SourceAt.{SourceAt}

-- ---- sources

-- where a function's source stands, its text being at a place: the one around it where it is inherited
abbrev pub span_of : SourceSpan → ℕ → Source → SourceSpan
span_of around to Source.inherited = around
span_of around to (Source.own s) = Text to (to + length s)

-- a source filled in: its bytes, and where they stand
pub record Filled : Type 0 where
  pub bytes : List ℕ
  pub span : SourceSpan

abbrev pub filled_in : Filled → ℕ → Source → Filled
filled_in around to s = record { bytes = filled around.bytes s; span = span_of around.span to s }

-- the chunk name, for which the root's stands where it is inherited
abbrev pub chunk_name : List ℕ → Filled
chunk_name name = record { bytes = name; span = Name 0 (length name) }

-- ---- functions in preorder, each with the place where it begins

pub record Placed : Type 0 where
  pub place : ℕ
  pub function : Function
  pub source : Filled

unfoldable mutual
  -- a function that stands at a place of the words, its text at a place of the text, and those in it
  pub placed : Function → ℕ → ℕ → Filled → List Placed
  placed (Function.function p fs) at to around =
      record { place = at; function = Function.function p fs; source = filled_in around to p.source }
      ∷ placed_all fs (at + length ((to_functions p fs).words to) + 1) (to + length (to_functions p fs).text) (filled_in around to p.source)

  pub placed_all : Functions → ℕ → ℕ → Filled → List Placed
  placed_all Functions.none at to around = []
  placed_all (Functions.more f fs) at to around =
      placed f at to around ++ placed_all fs (at + length ((function_piece f).words to)) (to + length (function_piece f).text) around

-- the one that begins at a place
unfoldable pub begins_at : ℕ → List Placed → Option Placed
begins_at place [] = none
begins_at place (x ∷ l) = cond (eqb place x.place) (some x) (begins_at place l)

-- in the store of a tree under a chunk name
abbrev pub function_at : Function → List ℕ → ℕ → Option Placed
function_at f name place = begins_at place (placed f 0 0 (chunk_name name))

-- ---- the search

-- what it answers: where the function's source stands, or else the place behind those searched
abbrev pub Seeks : Option Placed → ℕ → ControlFlow SourceSpan ℕ → Type 0
Seeks none end r = r ≡ Continue end
Seeks (some x) end r = r ≡ Break x.source.span

pub record Search (words : List ℕ) (place : ℕ) (around : SourceSpan) (f : Function) (at : ℕ) (r : ControlFlow SourceSpan ℕ) : Type 0 where
  pub seeks : (to : ℕ) (bytes : List ℕ) → Here words at ((function_piece f).words to)
      → Seeks (begins_at place (placed f at to (record { bytes = bytes; span = around }))) (at + length ((function_piece f).words to)) r

-- ---- calls on a function of a store: refused by 1, 10, 12, in this order

-- on the function that begins at a place
abbrev pub on_function : {A : Type 0} → (ℕ → A) → (Placed → A) → Option Placed → A
on_function refuse answer none = refuse 12
on_function refuse answer (some x) = answer x

-- a call on the function that begins at a place, with no chunk name
abbrev pub on_place : {A : Type 0} → (ℕ → A) → (Placed → A) → List ℕ → List ℕ → ℕ → A
on_place refuse answer words text place = on_tree refuse (λ f. on_function refuse answer (function_at f [] place)) (tree_of words text)

-- its refusal, 0 where there is none
unfoldable pub place_refusal : List ℕ → List ℕ → ℕ → ℕ
place_refusal words text place = on_place (λ n. n) (λ x. 0) words text place

abbrev pub no_source : ℕ → SourceAt
no_source n = record { refusal = n; in_text = 0; start = 0; end = 0 }

abbrev pub span_answer : SourceSpan → SourceAt
span_answer (Text start end) = record { refusal = 0; in_text = 1; start = start; end = end }
span_answer (Name start end) = record { refusal = 0; in_text = 0; start = start; end = end }

-- the answer of a call that finds a source or is refused
abbrev pub source_result : Result SourceSpan Refusal → SourceAt
source_result (Ok z) = span_answer z
source_result (Err e) = no_source (number e)

-- where the source of the function at a place stands, under a chunk name that is good
unfoldable pub found_answer : List ℕ → List ℕ → List ℕ → ℕ → SourceAt
found_answer words text name place = on_tree no_source (λ f. on_function no_source (λ x. span_answer x.source.span) (function_at f name place)) (tree_of words text)

-- source_at: where the source of the function at a place stands
unfoldable pub source_answer : List ℕ → List ℕ → List ℕ → ℕ → SourceAt
source_answer words text name place =
    under_name no_source name (found_answer words text name place)

-- source: its bytes, none where source_at refuses
unfoldable pub source_part : List ℕ → List ℕ → List ℕ → ℕ → List ℕ
source_part words text name place =
    under_name (λ n. []) name (on_tree (λ n. []) (λ f. on_function (λ n. []) (λ x. x.source.bytes) (function_at f name place)) (tree_of words text))
