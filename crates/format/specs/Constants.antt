-- The constant of an answer: its number, its values, and the constant of a tree that it stands for.
use Rattle.std.specs.Prelude.{ℕ, ◌+◌, ◌≤◌, List, [], ◌∷◌, cond, length}
use Rattle.format.specs.Tree.{Constant as Value}
use Rattle.format.specs.Stored.{part}
use Rattle.format.specs.declared.Constant.{Constant}
use Rattle.format.specs.declared.Constant.TheVariants.{Nil, Bool as Truth, Num, String}

-- the number and the two values of a constant, and its value in a tree, over the bytes that hold its string
pub record Meaning : Type 0 where
  pub number : ℕ
  pub first : ℕ
  pub second : ℕ
  pub value : List ℕ → Value

-- every case of the enum: Nil, Bool, Num by its halves, String by where it stands
abbrev pub meaning_of : Constant → Meaning
meaning_of Nil = record { number = 0; first = 0; second = 0; value = λ bytes. Value.nil }
meaning_of (Truth b) = record { number = 1; first = cond b 1 0; second = 0; value = λ bytes. Value.bool b }
meaning_of (Num high low) = record { number = 3; first = high; second = low; value = λ bytes. Value.num high low }
meaning_of (String s) = record { number = 4; first = s.start; second = s.len; value = λ bytes. Value.str (part bytes s.start s.len) }

-- the constant of a tree that it stands for
abbrev pub value_of : List ℕ → Constant → Value
value_of bytes k = (meaning_of k).value bytes

-- its three words
abbrev pub constant_words : Constant → List ℕ
constant_words k = (meaning_of k).number ∷ (meaning_of k).first ∷ (meaning_of k).second ∷ []

-- its string, where it is one, lies in the bytes
abbrev pub LiesIn : List ℕ → Constant → Type 0
LiesIn bytes Nil = Unit {0}
LiesIn bytes (Truth b) = Unit {0}
LiesIn bytes (Num high low) = Unit {0}
LiesIn bytes (String s) = s.start + s.len ≤ length bytes
