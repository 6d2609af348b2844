-- Records of locals: filled from the words of a store, and searched.
use Rattle.std.specs.Prelude.{ℕ, zero, suc, ◌+◌, List, [], ◌∷◌, ◌++◌, get_or, drop, Option, None}
use Rattle.std.specs.declared.ops.ControlFlow.{ControlFlow}
use Rattle.debug_info.specs.declared.name.Name.TheVariants.{Text}
use Rattle.debug_info.specs.declared.name.Kind.TheVariants.{Local}
use Rattle.debug_info.specs.declared.name.Known.{Known}
use Rattle.debug_info.specs.Look.{look, after}
use Rattle.local_records.specs.declared.record.LocalRecord.{LocalRecord}

-- the record of the local whose four words stand at a place
abbrev pub record_at : List ℕ → ℕ → LocalRecord
record_at words at = record { place = get_or words at 0; len = get_or words (at + 1) 0; start = get_or words (at + 2) 0; end = get_or words (at + 3) 0 }

-- those of n locals, one behind the other
unfoldable pub records_at : List ℕ → ℕ → ℕ → List LocalRecord
records_at words at zero = []
records_at words at (suc n) = record_at words at ∷ records_at words (at + 4) n

-- those of the locals that have these words, four each
unfoldable pub records_of : List (List ℕ) → List LocalRecord
records_of [] = []
records_of (words ∷ l) = record_at words 0 ∷ records_of l

-- the first n records are filled, the others kept
abbrev pub records_filled : List LocalRecord → List ℕ → ℕ → ℕ → List LocalRecord
records_filled records words at n = records_at words at n ++ drop n records

-- ---- the search

abbrev pub unnamed : Option Known
unnamed = None

abbrev pub text_named : ℕ → ℕ → Known
text_named place n = record { kind = Local; name = Text (record { start = place; len = n }) }

-- what a record tells of the search for number n, from it on, of those active at pc
abbrev pub look_at : LocalRecord → ℕ → ℕ → ControlFlow (Option Known) ℕ
look_at r n pc = look (text_named r.place r.len) r.start r.end n pc

unfoldable pub active_in : List LocalRecord → ℕ → ℕ → Option Known
active_in [] n pc = unnamed
active_in (r ∷ l) n pc = after (look_at r n pc) (λ found. found) (λ m. active_in l m pc)
