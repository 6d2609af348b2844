-- The functions that stand in a store are those of its tree in preorder, each with its source filled in.
use Rattle.lent.proofs.Prelude.{ℕ, suc, ◌≡◌, refl, ap, List, ◌∷◌, map, map-append, length, length-append}
use Rattle.format.specs.Tree.{Source, Function, Functions, parts_of, preorder, preorder_all, fill, fill_all}
use Rattle.proto.specs.Walk.{total, total_all}
use Rattle.proto.specs.Places.{Filled, filled_in, placed, placed_all}

mutual
  unfolding placed preorder

  pub placed_functions : (f : Function) (at to : ℕ) (around : Filled) → map (λ x. x.function) (placed f at to around) ≡ preorder f
  placed_functions (Function.function p fs) at to around = ap (λ (l : List Function). Function.function p fs ∷ l) (placed_all_functions fs _ _ _)

  placed_all_functions : (fs : Functions) (at to : ℕ) (around : Filled) → map (λ x. x.function) (placed_all fs at to around) ≡ preorder_all fs
  placed_all_functions Functions.none at to around = refl
  placed_all_functions (Functions.more f fs) at to around = rw (map-append, placed_functions f at to around, placed_all_functions fs _ _ around)

mutual
  unfolding placed preorder fill

  -- the sources are those of the tree filled in
  pub placed_sources : (f : Function) (at to : ℕ) (around : Filled)
      → map (λ x. Source.own x.source.bytes) (placed f at to around) ≡ map (λ g. (parts_of g).source) (preorder (fill f around.bytes))
  placed_sources (Function.function p fs) at to around = rw (placed_all_sources fs _ _ (filled_in around to p.source))

  placed_all_sources : (fs : Functions) (at to : ℕ) (around : Filled)
      → map (λ x. Source.own x.source.bytes) (placed_all fs at to around) ≡ map (λ g. (parts_of g).source) (preorder_all (fill_all fs around.bytes))
  placed_all_sources Functions.none at to around = refl
  placed_all_sources (Functions.more f fs) at to around = simp map-append (rw (placed_sources f at to around, placed_all_sources fs _ _ around))

mutual
  unfolding preorder total

  -- as many as the tree has
  pub preorder_total : (f : Function) → length (preorder f) ≡ total f
  preorder_total (Function.function p fs) = ap suc (preorder_all_total fs)

  preorder_all_total : (fs : Functions) → length (preorder_all fs) ≡ total_all fs
  preorder_all_total Functions.none = refl
  preorder_all_total (Functions.more f fs) = rw (length-append, preorder_total f, preorder_all_total fs)
