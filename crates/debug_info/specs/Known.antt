-- What the code's answers stand for.
use Rattle.std.specs.Prelude.{ℕ, List, Option, Some, None}
use Rattle.utf8.specs.Utf8.{repair}
use Rattle.format.specs.Stored.{part}
use Rattle.debug_info.specs.Names.{Object, object, nothing, unknown}
use Rattle.debug_info.specs.Kind.{number}
use Rattle.debug_info.specs.declared.name.Name.{Name}
use Rattle.debug_info.specs.declared.name.Name.TheVariants.{Unknown, Text, Constant}
use Rattle.debug_info.specs.declared.name.Known.{Known}

-- a name's bytes
abbrev pub name_of : List ℕ → Name → List ℕ
name_of text Unknown = unknown
name_of text (Text s) = part text s.start s.len
name_of text (Constant s) = repair (part text s.start s.len)

abbrev pub object_of : List ℕ → Option Known → Object
object_of text None = nothing
object_of text (Some k) = object (number k.kind) (name_of text k.name)
