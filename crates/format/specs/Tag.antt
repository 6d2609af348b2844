-- The tags of constants: their numbers, as lua.h has them, and the tag of a constant of an answer.
use Rattle.std.specs.Prelude.{ℕ, ◌≡◌, Result, Ok, Err}
use Rattle.format.specs.declared.Constant.{Constant}
use Rattle.format.specs.declared.Constant.TheVariants.{Nil, Bool as Truth, Num, String}
use Rattle.format.specs.declared.Refusal.{Refusal}
use Rattle.format.specs.declared.Refusal.TheVariants.{BadTag}
use Rattle.format.specs.declared.Tag.{Tag}
use Rattle.format.specs.declared.Tag.TheVariants.{Nil as LUA_TNIL, Bool as LUA_TBOOLEAN, Num as LUA_TNUMBER, String as LUA_TSTRING}

abbrev pub tag_number : Tag → ℕ
tag_number LUA_TNIL = 0
tag_number LUA_TBOOLEAN = 1
tag_number LUA_TNUMBER = 3
tag_number LUA_TSTRING = 4

-- the tag of a number, or 5 where it is none's
abbrev pub TagOf : ℕ → Result Tag Refusal → Type 0
TagOf n (Ok t) = n ≡ tag_number t
TagOf n (Err e) = (e ≡ BadTag) × (n ≡ 0 → ⊥) × (n ≡ 1 → ⊥) × (n ≡ 3 → ⊥) × (n ≡ 4 → ⊥)

abbrev pub tag_of : Constant → Tag
tag_of Nil = LUA_TNIL
tag_of (Truth b) = LUA_TBOOLEAN
tag_of (Num high low) = LUA_TNUMBER
tag_of (String s) = LUA_TSTRING
