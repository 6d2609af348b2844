-- A size of four bytes is an integer.
use Rattle.lent.proofs.Prelude.{rules}
use Rattle.load.proofs.Steps.{size_of_4}
use Rattle.load.proofs.cursor.ChunkReader.load_size.Goals as goal

pub returns : goal.returns
returns c = size_of_4 (search rules) (search rules)

pub returns-in_err-n : goal.returns-in_err-n
returns-in_err-n c = size_of_4 (search rules) (search rules)
