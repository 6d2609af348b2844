-- The refusals' numbers, as the scope's table has them.
use Rattle.std.specs.Prelude.{ℕ, ◌≡◌, Result, Ok, Err}
use Rattle.format.specs.declared.Refusal.{Refusal}
use Rattle.format.specs.declared.Refusal.TheVariants.{BadName, Truncated, BadSignature, BadFormat, BadTag, TooManyItems, TooDeep, TooFewWords, TooLittleText, BadStore, TooLittleOutput, NoFunction, BadPc, BadRegister, NotAsMeasured}

abbrev pub number : Refusal → ℕ
number BadName = 1
number Truncated = 2
number BadSignature = 3
number BadFormat = 4
number BadTag = 5
number TooManyItems = 6
number TooDeep = 7
number TooFewWords = 8
number TooLittleText = 9
number BadStore = 10
number TooLittleOutput = 11
number NoFunction = 12
number BadPc = 13
number BadRegister = 14
number NotAsMeasured = 15

-- what a step that is refused by n answers, 0 being none
abbrev pub RefusedBy : {A : Type 0} → ℕ → Result A Refusal → Type 0
RefusedBy n (Ok a) = 0 ≡ n
RefusedBy n (Err e) = number e ≡ n
