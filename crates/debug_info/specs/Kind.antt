-- The kinds' numbers, as the scope has them. 0 is none.
use Rattle.std.specs.Prelude.{ℕ}
use Rattle.debug_info.specs.declared.name.Kind.{Kind}
use Rattle.debug_info.specs.declared.name.Kind.TheVariants.{Local, Global, Field, Upvalue, Method}

abbrev pub number : Kind → ℕ
number Local = 1
number Global = 2
number Field = 3
number Upvalue = 4
number Method = 5
