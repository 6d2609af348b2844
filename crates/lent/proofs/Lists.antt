-- Laws of lists that reading and writing share: of every item. std has them of All, which goes by index, so that each use would turn Every into it and back,
-- and only within std_collections of its AllByRecursion, which goes as Every does: a crate without that library can't name them.
use Rattle.lent.proofs.Prelude.{ℕ, zero, suc, List, [], ◌∷◌, ◌++◌, take, drop}
use Rattle.lent.specs.Memory.{Every}

module _ {A : Type 0} (P : A → Type 0) where
  pub every_append : (s t : List A) → Every P s → Every P t → Every P (s ++ t)
  unfolding Every
  every_append [] t h k = k
  every_append (a ∷ s) t h k = (h.0, every_append s t h.1 k)

  pub every_take : (n : ℕ) (s : List A) → Every P s → Every P (take n s)
  unfolding Every
  every_take zero s h = tt
  every_take (suc n) [] h = tt
  every_take (suc n) (a ∷ s) h = (h.0, every_take n s h.1)

  pub every_drop : (n : ℕ) (s : List A) → Every P s → Every P (drop n s)
  unfolding Every
  every_drop zero s h = h
  every_drop (suc n) [] h = tt
  every_drop (suc n) (a ∷ s) h = every_drop n s h.1
