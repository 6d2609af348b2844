-- Text within bytes.
use Rattle.std.specs.Prelude.{ℕ, ◌-◌, ◌≤◌, ◌<◌, ◌≡◌, List, true, false, length, take, drop}
use Rattle.utf8.specs.Utf8.{first_step, is_utf8}

-- what stands from a place up to another is well-formed
pub record Text (s : List ℕ) (at to : ℕ) : Type 0 where
  pub from : at ≤ to
  pub fits : to ≤ length s
  pub text : is_utf8 (take (to - at) (drop at s)) ≡ true

-- and behind it is the end, or what is ill-formed
pub record TextEnd (s : List ℕ) (at to : ℕ) : Type 0 where
  pub text : Text s at to
  pub stops : to < length s → (first_step (drop to s)).well_formed ≡ false
