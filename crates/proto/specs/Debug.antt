-- What the code's debug information stands for.
use Rattle.std.specs.Prelude.{ℕ, List}
use Rattle.format.specs.Tree.{Local}
use Rattle.format.specs.Stored.{part}
use Rattle.format.specs.declared.Span.{Span}
use Rattle.proto.specs.declared.debug.LocalVar.{LocalVar}

-- the bytes of a text that a span is of
abbrev pub text_of : List ℕ → Span → List ℕ
text_of text s = part text s.start s.len

-- the local of a tree that the code's stands for
abbrev pub local_of : List ℕ → LocalVar → Local
local_of text v = record { name = text_of text v.name; start = v.start; end = v.end }
