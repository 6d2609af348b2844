-- What a line looked up says.
use Rattle.std.specs.Prelude.{ℕ}
use Rattle.std.proofs.Math.Option.{Option}
use Rattle.std.specs.declared.option.Option as rust
use Rattle.proto.specs.Constants.{read}

abbrev pub line_of : rust.Option ℕ → Option ℕ
line_of line = read (λ n. n) line
