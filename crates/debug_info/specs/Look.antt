-- What a local tells of the search for an active one.
use Rattle.std.specs.Prelude.{ℕ, ◌-◌, cond, eqb, ltb, Option, Some, None}
use Rattle.std.specs.declared.ops.ControlFlow.{ControlFlow}
use Rattle.std.specs.declared.ops.ControlFlow.TheVariants.{Continue, Break}
use Rattle.debug_info.specs.declared.name.Known.{Known}

-- one of which this is known, active from start on and before end, of the search for number n, from it on, of those active at pc
abbrev pub look : Known → ℕ → ℕ → ℕ → ℕ → ControlFlow (Option Known) ℕ
look known start end n pc = cond (ltb pc start) (Break None) (cond (ltb pc end) (cond (eqb n 1) (Break (Some known)) (Continue (n - 1))) (Continue n))

-- what the search then gives: what it broke with, or what those behind it lead to
abbrev pub after : {A B : Type 0} → ControlFlow A ℕ → (A → B) → (ℕ → B) → B
after (Break a) found more = found a
after (Continue n) found more = more n
