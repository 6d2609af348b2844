-- Items of a function's lists, and the count of active locals.
use Rattle.lent.proofs.Prelude.{ℕ, ◌+◌, ◌*◌, ◌-◌, ◌≤◌, ◌<◌, ◌≡◌, refl, sym, ap, ◌∙◌, List, ◌∷◌, Bool, true, false, cond, some, arith, add-one, drop, drop_of_length-le, get_or, eqb, ltb}
use Rattle.std.specs.Prelude.{Option, Some, None}
use Rattle.std.specs.declared.ops.ControlFlow.{ControlFlow}
use Rattle.std.specs.declared.ops.ControlFlow.TheVariants.{Continue, Break}
use Rattle.format.specs.Tree.{Local}
use Rattle.format.specs.Store.{Piece, list, local_piece}
use Rattle.format.specs.declared.StoredItem.{Ghosts}
use Rattle.format.specs.contracts.LocalsStoredItem.TheImpl.{ghosts as Locals}
use Rattle.proto.specs.Walk.{item, Skips, StandsAt}
use Rattle.proto.specs.Debug.{local_of}
use Rattle.proto.specs.declared.debug.LocalVar.{LocalVar}
use Rattle.proto.proofs.Items.{item_there, item_drop, list_count, list_item}
use Rattle.debug_info.specs.declared.name.Name.{Name}
use Rattle.debug_info.specs.declared.name.Kind.{Kind}
use Rattle.debug_info.specs.declared.name.Known.{Known}
use Rattle.debug_info.specs.Names.{nothing, local, active_local}
use Rattle.debug_info.specs.Known.{object_of}
use Rattle.debug_info.specs.Look.{look, after}

-- ---- item i of a list

-- it is this one, and stands at r
pub record Looked {A : Type 0} (words text : List ℕ) (piece : A → Piece) (l : List A) (i r : ℕ) : Type 0 where
  pub value : A
  pub is : item l i ≡ some value
  pub stands : StandsAt words text r (piece value)

module _ {Self : Type 0} {words text : List ℕ} (T : Ghosts Self) {at x i : ℕ} (l : List T.Value) (h : StandsAt words text at (list T.piece l)) (e : x ≡ get_or words at 0) where
  pub looked_up : {r : ℕ} → i < x → Skips words (1 + T.WORDS * i) at r → Looked words text T.piece l i r
  looked_up {r} n s =
      let z = item_there l i (omega (arith, list_count T.piece l h.stands)) in
      record { value = z.value; is = z.is; stands = list_item T.piece T.WORDS T.size l i z.value z.is h.stands s }

-- ---- locals

-- a local, and then what the search gives behind it
module _ (text : List ℕ) (known : Known) (v : Local) (e : object_of text (Some known) ≡ local v.name) where
  pub active_step : (l : List Local) (n pc : ℕ) → after (look known v.start v.end n pc) (object_of text) (λ m. active_local l m pc) ≡ active_local (v ∷ l) n pc
  unfolding active_local
  active_step l n pc = by (ltb pc v.start) (ltb pc v.end) (eqb n 1)
    where
      by : (a b c : Bool) → after (cond a (Break None) (cond b (cond c (Break (Some known)) (Continue (n - 1))) (Continue n))) (object_of text) (λ m. active_local l m pc)
          ≡ cond a nothing (cond b (cond c (local v.name) (active_local l (n - 1) pc)) (active_local l n pc))
      by true b c = refl
      by false true true = e
      by false true false = refl
      by false false c = refl

-- from local i on, they lead to the same as all of them
abbrev pub Searching : List ℕ → ℕ → ℕ → ℕ → ℕ → ℕ → Type 0
Searching words locals pc number i n = (text : List ℕ) (l : List Local) → StandsAt words text locals (list local_piece l) → active_local (drop i l) n pc ≡ active_local l number pc

-- the loop over them: it is over, or stops at a local, or goes on
module _ {words : List ℕ} {locals c i : ℕ} (pc number n : ℕ) (e : c ≡ get_or words locals 0) (s : Searching words locals pc number i n) where
  pub ends_over : c ≤ i → (text : List ℕ) (l : List Local) → StandsAt words text locals (list local_piece l) → object_of text None ≡ active_local l number pc
  unfolding active_local
  ends_over k text l h = ap (λ (u : List Local). active_local u n pc) (sym (drop_of_length-le l {i = i} (omega (arith, e, list_count local_piece l h.stands)))) ∙ s text l h

  module _ {at : ℕ} (x : LocalVar) (k : i < c) (p : Skips words (1 + Locals.WORDS * i) locals at) (w : (text : List ℕ) (v : Local) → StandsAt words text at (local_piece v) → local_of text x ≡ v) where
    abbrev known : Known
    known = record { kind = Kind.Local; name = Name.Text x.name }

    -- by what it tells
    seen : (a : ControlFlow (Option Known) ℕ) → a ≡ look known x.start x.end n pc → (text : List ℕ) (l : List Local) → StandsAt words text locals (list local_piece l)
        → after a (object_of text) (λ m. active_local (drop (i + 1) l) m pc) ≡ active_local l number pc
    seen a f text l h =
        let y = looked_up Locals l h e k p in
        let d : drop i l ≡ local_of text x ∷ drop (i + 1) l = rw (w text y.value y.stands, add-one i) (item_drop l i y.is) in
        ap (λ (u : ControlFlow (Option Known) ℕ). after u (object_of text) (λ m. active_local (drop (i + 1) l) m pc)) f ∙ active_step text known (local_of text x) refl (drop (i + 1) l) n pc
        ∙ ap (λ (u : List Local). active_local u n pc) (sym d) ∙ s text l h

    pub ends_found : {r : Option Known} → Break r ≡ look known x.start x.end n pc → (text : List ℕ) (l : List Local) → StandsAt words text locals (list local_piece l) → object_of text r ≡ active_local l number pc
    ends_found {r} = seen (Break r)

    pub goes_on : {m : ℕ} → Continue m ≡ look known x.start x.end n pc → Searching words locals pc number (i + 1) m
    goes_on {m} = seen (Continue m)
