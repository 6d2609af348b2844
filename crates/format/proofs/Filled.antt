-- Filling in inherited sources changes nothing else, so two trees are one with their sources filled in exactly when their fields agree.
-- What strip leaves, by the same fields; and what of a tree holds function by function in preorder.
use Rattle.lent.proofs.Prelude.{ℕ, zero, suc, ◌≡◌, refl, sym, ap, Bool, true, false, List, [], ◌∷◌, ◌++◌, map, map-append, arith, length, length-map}
use mathlib.Core.Logic.{◌↔◌}
use Rattle.lent.specs.Memory.{Every}
use Rattle.lent.proofs.Lists.{every_append}
use Rattle.format.specs.Tree.{Source, Debug, Parts, Function, Functions, parts_of, preorder, preorder_all, with, filled, fill, fill_all, root_source, no_debug, stripped, stripped_all}
use Rattle.format.specs.Valid.{ValidParts, Valid, ValidAll, HoldOne}
use Rattle.format.specs.Agree.{SameBody, SameDebug, SameParts, StrippedParts, ByFunction, ByFunctions, Agree, Stripped, OwnSource, HoldAgreeing}

-- what holds of a function where it holds of those in it, and of a list of functions where it holds of each, holds of every tree
module _ (P : Function → Type 0) (Q : Functions → Type 0) (function : (p : Parts) (fs : Functions) → Q fs → P (Function.function p fs)) (none : Q Functions.none)
    (more : (f : Function) (fs : Functions) → P f → Q fs → Q (Functions.more f fs)) where
  mutual
    pub by_tree : (f : Function) → P f
    by_tree (Function.function p fs) = function p fs (by_trees fs)

    by_trees : (fs : Functions) → Q fs
    by_trees Functions.none = none
    by_trees (Functions.more f fs) = more f fs (by_tree f) (by_trees fs)

-- what holds of every item of two lists one after the other holds of every item of each
every_both : {A : Type 0} (P : A → Type 0) (s t : List A) → Every P (s ++ t) → Every P s × Every P t
unfolding Every
every_both P [] t h = (tt, h)
every_both P (a ∷ s) t h = let k = every_both P s t h.1 in ((h.0, k.0), k.1)

-- another source and other debug lists leave the rest alone
same_body : (s : Source) (d : Debug) (p : Parts) → SameBody p (with s d p)
same_body s d p =
    record { line_defined = refl; last_line_defined = refl; num_upvalues = refl; num_params = refl; is_vararg = refl; max_stack_size = refl; code = refl; constants = refl }

same_debug : (d : Debug) → SameDebug d d
same_debug d = record { lines = refl; locals = refl; upvalues = refl }

-- where all fields are the same the parts are
parts_one : {p p' : Parts} {s s' : Source} {d d' : Debug} → SameBody p p' → s ≡ s' → SameDebug d d' → with s d p ≡ with s' d' p'
parts_one {d = d} {d' = d'} h e k =
    let f : d ≡ d' = λ i. record { lines = k.lines i; locals = k.locals i; upvalues = k.upvalues i } in
    rw (h.line_defined, h.last_line_defined, h.num_upvalues, h.num_params, h.is_vararg, h.max_stack_size, h.code, h.constants, e, f)

-- ---- fill changes inherited sources alone

-- the tree filled in agrees with the tree, whatever it stands under
pub fill_agrees : (f : Function) (outer under : List ℕ) → Agree f outer (fill f outer) under
unfolding fill ByFunction
fill_agrees =
    by_tree (λ f. (outer under : List ℕ) → Agree f outer (fill f outer) under) (λ fs. (outer under : List ℕ) → ByFunctions SameParts fs outer (fill_all fs outer) under)
    (λ p fs h outer under. (record { source = refl; body = same_body _ _ p; debug = same_debug p.debug }, h _ _))
    (λ outer under. tt) (λ f fs h k outer under. (h outer under, k outer under))

-- each source of it is its function's own
pub fill_owns : (f : Function) (outer : List ℕ) → Every OwnSource (preorder (fill f outer))
unfolding fill preorder Every
fill_owns =
    by_tree (λ f. (outer : List ℕ) → Every OwnSource (preorder (fill f outer))) (λ fs. (outer : List ℕ) → Every OwnSource (preorder_all (fill_all fs outer)))
    (λ p fs h outer. (record { bytes = filled outer p.source; is = refl }, h _))
    (λ outer. tt) (λ f fs h k outer. every_append OwnSource (preorder (fill f outer)) _ (h outer) (k outer))

-- where each source is its function's own, nothing changes
pub fill_own : (f : Function) (outer : List ℕ) → Every OwnSource (preorder f) → fill f outer ≡ f
unfolding fill preorder Every
fill_own =
    by_tree (λ f. (outer : List ℕ) → Every OwnSource (preorder f) → fill f outer ≡ f) (λ fs. (outer : List ℕ) → Every OwnSource (preorder_all fs) → fill_all fs outer ≡ fs)
    (λ p fs i outer h. let e : with (Source.own (filled outer p.source)) p.debug p ≡ p = rw h.0.is in cc (i (filled outer p.source) h.1))
    (λ outer h. refl)
    (λ f fs i j outer h. let k = every_both OwnSource (preorder f) (preorder_all fs) h in cc (i outer k.0, j outer k.1))

-- the root's source is that of the first function of the tree filled in
pub root_source_law : (f : Function) (name : List ℕ) → (parts_of (fill f name)).source ≡ Source.own (root_source f name)
unfolding fill
root_source_law (Function.function p fs) name = refl

-- ---- trees that agree are one with their sources filled in, and the other way round

agree_parts : (outer : List ℕ) (p : Parts) (outer' : List ℕ) (p' : Parts)
    → with (Source.own (filled outer p.source)) p.debug p ≡ with (Source.own (filled outer' p'.source)) p'.debug p' → SameParts outer p outer' p'
agree_parts outer p outer' p' e =
    let own : Source.own (filled outer p.source) ≡ Source.own (filled outer' p'.source) = ap (λ (q : Parts). q.source) e in
    let body = rw e at (same_body (Source.own (filled outer p.source)) p.debug p) in
    let debug : p.debug ≡ p'.debug = ap (λ (q : Parts). q.debug) e in
    record { source = cc; body = search; debug = rw debug (same_debug p'.debug) }

mutual
  unfolding fill ByFunction

  agree_one : (f : Function) (outer : List ℕ) (f' : Function) (outer' : List ℕ) → Agree f outer f' outer' → fill f outer ≡ fill f' outer'
  agree_one (Function.function p fs) outer (Function.function p' fs') outer' h =
      cc (parts_one h.0.body (ap Source.own h.0.source) h.0.debug, agree_all_one fs (filled outer p.source) fs' (filled outer' p'.source) h.1)

  agree_all_one : (fs : Functions) (outer : List ℕ) (fs' : Functions) (outer' : List ℕ) → ByFunctions SameParts fs outer fs' outer' → fill_all fs outer ≡ fill_all fs' outer'
  agree_all_one Functions.none outer Functions.none outer' h = refl
  agree_all_one Functions.none outer (Functions.more f' fs') outer' h = absurd h
  agree_all_one (Functions.more f fs) outer Functions.none outer' h = absurd h
  agree_all_one (Functions.more f fs) outer (Functions.more f' fs') outer' h = cc (agree_one f outer f' outer' h.0, agree_all_one fs outer fs' outer' h.1)

mutual
  unfolding fill ByFunction

  one_agree : (f : Function) (outer : List ℕ) (f' : Function) (outer' : List ℕ) → fill f outer ≡ fill f' outer' → Agree f outer f' outer'
  one_agree (Function.function p fs) outer (Function.function p' fs') outer' e =
      (agree_parts outer p outer' p' cc, one_all_agree fs (filled outer p.source) fs' (filled outer' p'.source) cc)

  one_all_agree : (fs : Functions) (outer : List ℕ) (fs' : Functions) (outer' : List ℕ) → fill_all fs outer ≡ fill_all fs' outer' → ByFunctions SameParts fs outer fs' outer'
  one_all_agree Functions.none outer Functions.none outer' e = tt
  one_all_agree Functions.none outer (Functions.more f' fs') outer' e = let z : ◌≡◌ {A = ℕ} 0 1 = cc in omega arith
  one_all_agree (Functions.more f fs) outer Functions.none outer' e = let z : ◌≡◌ {A = ℕ} 0 1 = cc in omega arith
  one_all_agree (Functions.more f fs) outer (Functions.more f' fs') outer' e = (one_agree f outer f' outer' cc, one_all_agree fs outer fs' outer' cc)

-- ---- strip

stripped_under : (f : Function) (outer outer' : List ℕ) → ByFunction (λ outer p outer' p'. StrippedParts p p') f outer (stripped f true) outer'
unfolding stripped ByFunction
stripped_under =
    by_tree (λ f. (outer outer' : List ℕ) → ByFunction (λ outer p outer' p'. StrippedParts p p') f outer (stripped f true) outer')
    (λ fs. (outer outer' : List ℕ) → ByFunctions (λ outer p outer' p'. StrippedParts p p') fs outer (stripped_all fs true) outer')
    (λ p fs h outer outer'. (record { source = refl; body = same_body _ _ p; lines = refl; locals = refl; upvalues = refl }, h _ _))
    (λ outer outer'. tt) (λ f fs h k outer outer'. (h outer outer', k outer outer'))

mutual
  unfolding stripped ByFunction

  stripped_one : (f : Function) (outer : List ℕ) (f' : Function) (outer' : List ℕ) → ByFunction (λ outer p outer' p'. StrippedParts p p') f outer f' outer' → stripped f true ≡ f'
  stripped_one (Function.function p fs) outer (Function.function p' fs') outer' h =
      let k = h.0 in
      let e : with p.source no_debug p ≡ p' = parts_one k.body k.source (record { lines = sym k.lines; locals = sym k.locals; upvalues = sym k.upvalues }) in
      cc (stripped_all_one fs _ fs' _ h.1)

  stripped_all_one : (fs : Functions) (outer : List ℕ) (fs' : Functions) (outer' : List ℕ) → ByFunctions (λ outer p outer' p'. StrippedParts p p') fs outer fs' outer' → stripped_all fs true ≡ fs'
  stripped_all_one Functions.none outer Functions.none outer' h = refl
  stripped_all_one Functions.none outer (Functions.more f' fs') outer' h = absurd h
  stripped_all_one (Functions.more f fs) outer Functions.none outer' h = absurd h
  stripped_all_one (Functions.more f fs) outer (Functions.more f' fs') outer' h = cc (stripped_one f outer f' outer' h.0, stripped_all_one fs outer fs' outer' h.1)

-- a tree is stripped exactly when its debug lists are empty and all else is as it was, function by function
pub strip_one : (f f' : Function) → (stripped f true ≡ f') ↔ Stripped f f'
strip_one f f' = (λ e. rw e at (stripped_under f [] []), stripped_one f [] f' [])

pub stripped_not : (f : Function) → stripped f false ≡ f
unfolding stripped
stripped_not = by_tree (λ f. stripped f false ≡ f) (λ fs. stripped_all fs false ≡ fs) (λ p fs h. rw h) refl (λ f fs h k. rw (h, k))

-- ---- in preorder

module _ {A : Type 0} (R : List ℕ → Parts → List ℕ → Parts → Type 0) (g : Parts → A) (same : (outer : List ℕ) (p : Parts) (outer' : List ℕ) (p' : Parts) → R outer p outer' p' → g p ≡ g p') where
  mutual
    unfolding ByFunction preorder

    -- what R leaves the same in each function is the same in preorder
    pub preorder_same : (f : Function) (outer : List ℕ) (f' : Function) (outer' : List ℕ) → ByFunction R f outer f' outer' → map (λ x. g (parts_of x)) (preorder f) ≡ map (λ x. g (parts_of x)) (preorder f')
    preorder_same (Function.function p fs) outer (Function.function p' fs') outer' h = cc (same outer p outer' p' h.0, preorder_all_same fs _ fs' _ h.1)

    preorder_all_same : (fs : Functions) (outer : List ℕ) (fs' : Functions) (outer' : List ℕ) → ByFunctions R fs outer fs' outer'
        → map (λ x. g (parts_of x)) (preorder_all fs) ≡ map (λ x. g (parts_of x)) (preorder_all fs')
    preorder_all_same Functions.none outer Functions.none outer' h = refl
    preorder_all_same Functions.none outer (Functions.more f' fs') outer' h = absurd h
    preorder_all_same (Functions.more f fs) outer Functions.none outer' h = absurd h
    preorder_all_same (Functions.more f fs) outer (Functions.more f' fs') outer' h =
        simp map-append (cc (preorder_same f outer f' outer' h.0, preorder_all_same fs outer fs' outer' h.1))

-- trees of one shape have as many functions
preorder_length : (R : List ℕ → Parts → List ℕ → Parts → Type 0) (f : Function) (outer : List ℕ) (f' : Function) (outer' : List ℕ) → ByFunction R f outer f' outer'
    → length (preorder f') ≡ length (preorder f)
preorder_length R f outer f' outer' h =
    let e = ap length (preorder_same {A = ℕ} R (λ p. 0) (λ outer p outer' p' k. refl) f outer f' outer' h) in
    sym (simp length-map at e)

pub fill_length : (f : Function) (outer : List ℕ) → length (preorder (fill f outer)) ≡ length (preorder f)
fill_length f outer = preorder_length SameParts f outer (fill f outer) [] (fill_agrees f outer [])

pub stripped_length : (f : Function) (strip : Bool) → length (preorder (stripped f strip)) ≡ length (preorder f)
stripped_length f true = preorder_length _ f [] (stripped f true) [] (stripped_under f [] [])
stripped_length f false = rw stripped_not

mutual
  unfolding preorder Valid Every

  -- each function of a well-formed tree has well-formed parts
  pub preorder_valid : (f : Function) (allowance : ℕ) → Valid f allowance → Every (λ g. ValidParts (parts_of g)) (preorder f)
  preorder_valid (Function.function p fs) zero v = absurd v
  preorder_valid (Function.function p fs) (suc allowance) v = (v.0, preorder_all_valid fs allowance v.2)

  preorder_all_valid : (fs : Functions) (allowance : ℕ) → ValidAll fs allowance → Every (λ g. ValidParts (parts_of g)) (preorder_all fs)
  preorder_all_valid Functions.none allowance v = tt
  preorder_all_valid (Functions.more f fs) allowance v =
      every_append (λ g. ValidParts (parts_of g)) (preorder f) _ (preorder_valid f allowance v.0) (preorder_all_valid fs allowance v.1)

-- ==== the statement: two stores hold one tree exactly when all fields of their trees agree, function by function, inherited sources filled in

pub fill_one : (f : Function) (outer : List ℕ) (f' : Function) (outer' : List ℕ) → (fill f outer ≡ fill f' outer') ↔ Agree f outer f' outer'
fill_one f outer f' outer' = (one_agree f outer f' outer', agree_one f outer f' outer')

pub hold_one : (words text name words' text' name' : List ℕ) → HoldOne words text name words' text' name' ↔ HoldAgreeing words text name words' text' name'
hold_one words text name words' text' name' = (
  λ h. record { tree = h.tree; tree' = h.tree'; holds = h.holds; holds' = h.holds'; agree = one_agree h.tree name h.tree' name' h.one },
  λ h. record { tree = h.tree; tree' = h.tree'; holds = h.holds; holds' = h.holds'; one = agree_one h.tree name h.tree' name' h.agree },
)
