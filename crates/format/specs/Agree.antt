-- When two trees agree, function by function and field by field, each under the source that an inherited root source stands for.
use Rattle.std.specs.Prelude.{ℕ, ◌≡◌, List, []}
use Rattle.format.specs.Tree.{Source, Debug, Parts, Function, Functions, filled, parts_of}
use Rattle.format.specs.Valid.{Holds}

-- every field but the source and the debug lists is the same
pub record SameBody (p p' : Parts) : Type 0 where
  pub line_defined : p.line_defined ≡ p'.line_defined
  pub last_line_defined : p.last_line_defined ≡ p'.last_line_defined
  pub num_upvalues : p.num_upvalues ≡ p'.num_upvalues
  pub num_params : p.num_params ≡ p'.num_params
  pub is_vararg : p.is_vararg ≡ p'.is_vararg
  pub max_stack_size : p.max_stack_size ≡ p'.max_stack_size
  pub code : p.code ≡ p'.code
  pub constants : p.constants ≡ p'.constants

-- the debug lists are the same
pub record SameDebug (d d' : Debug) : Type 0 where
  pub lines : d.lines ≡ d'.lines
  pub locals : d.locals ≡ d'.locals
  pub upvalues : d.upvalues ≡ d'.upvalues

-- all fields agree, the sources filled in: an inherited one stands for outer, and for outer'
pub record SameParts (outer : List ℕ) (p : Parts) (outer' : List ℕ) (p' : Parts) : Type 0 where
  pub source : filled outer p.source ≡ filled outer' p'.source
  pub body : SameBody p p'
  pub debug : SameDebug p.debug p'.debug

-- the debug lists are empty, all else is as it was
pub record StrippedParts (p p' : Parts) : Type 0 where
  pub source : p.source ≡ p'.source
  pub body : SameBody p p'
  pub lines : p'.debug.lines ≡ []
  pub locals : p'.debug.locals ≡ []
  pub upvalues : p'.debug.upvalues ≡ []

-- two trees of one shape, where R holds of each function of one and the function of the other in its place, with what an inherited source of each stands for
unfoldable mutual
  pub ByFunction : (List ℕ → Parts → List ℕ → Parts → Type 0) → Function → List ℕ → Function → List ℕ → Type 0
  ByFunction R (Function.function p fs) outer (Function.function p' fs') outer' =
      R outer p outer' p' × ByFunctions R fs (filled outer p.source) fs' (filled outer' p'.source)

  pub ByFunctions : (List ℕ → Parts → List ℕ → Parts → Type 0) → Functions → List ℕ → Functions → List ℕ → Type 0
  ByFunctions R Functions.none outer Functions.none outer' = Unit {0}
  ByFunctions R Functions.none outer (Functions.more f' fs') outer' = ⊥
  ByFunctions R (Functions.more f fs) outer Functions.none outer' = ⊥
  ByFunctions R (Functions.more f fs) outer (Functions.more f' fs') outer' = ByFunction R f outer f' outer' × ByFunctions R fs outer fs' outer'

-- all fields agree, function by function, inherited sources filled in
abbrev pub Agree : Function → List ℕ → Function → List ℕ → Type 0
Agree f outer f' outer' = ByFunction SameParts f outer f' outer'

-- the second tree is the first with its debug lists empty
abbrev pub Stripped : Function → Function → Type 0
Stripped f f' = ByFunction (λ outer p outer' p'. StrippedParts p p') f [] f' []

-- a source of the function's own
pub record OwnSource (f : Function) : Type 0 where
  pub bytes : List ℕ
  pub is : (parts_of f).source ≡ Source.own bytes

-- two stores, each under its chunk name, hold trees that agree
pub record HoldAgreeing (words text name words' text' name' : List ℕ) : Type 0 where
  pub tree : Function
  pub tree' : Function
  pub holds : Holds words text tree
  pub holds' : Holds words' text' tree'
  pub agree : Agree tree name tree' name'
