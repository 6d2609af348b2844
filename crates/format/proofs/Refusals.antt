-- A refusal has a number above 0, and what the tests of a name say.
use Rattle.lent.proofs.Prelude.{ℕ, ◌<◌, ◌≡◌, refl, List, Bool, true, false, cond, arith}
use Rattle.format.specs.Undump.{name_ok}
use Rattle.format.specs.Refusal.{number}
use Rattle.format.specs.Dump.{under_name, name_refusal}
use Rattle.format.specs.declared.Refusal.{Refusal}

pub refusal_above : (e : Refusal) → 0 < number e
refusal_above e = grind arith

-- a name that is not refused is good
pub name_good : (name : List ℕ) → 0 ≡ name_refusal name → name_ok name ≡ true
name_good name = go (name_ok name)
  where
    go : (b : Bool) → ◌≡◌ {A = ℕ} 0 (cond b 0 1) → b ≡ true
    go true h = refl
    go false h = absurd (omega (arith, h))

-- a call under a name that is refused
pub by_name : {A : Type 0} {n : ℕ} (name : List ℕ) (refuse : ℕ → A) (answer : A) → 0 < n → n ≡ name_refusal name → refuse n ≡ under_name refuse name answer
by_name {A} {n} name refuse answer l = go (name_ok name)
  where
    go : (b : Bool) → n ≡ cond b 0 1 → refuse n ≡ cond b answer (refuse 1)
    go true h = absurd (omega (arith, h))
    go false h = rw h
