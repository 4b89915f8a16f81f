-- `Reader::open` meets its contract: a word that was read is below 2^32.
use mathlib.Core.Path.{sym}
use Rattle.codec.specs.NumberLaws.{number-below}
use Rattle.codec.proofs.operation.Reader.open.Goals as goal

pub overflow_cast-word : goal.overflow_cast-word
overflow_cast-word c = record { fits = number-below _ _ _ _ (sym c.in-Some.ensures) }
