-- `Cursor::signed` meets its contract: a number that was read is below 2^32.
use mathlib.Core.Path.{sym}
use Rattle.codec.specs.NumberLaws.{number-below}
use Rattle.codec.proofs.number.Cursor.signed.Goals as goal

pub signed_of-requires : goal.signed_of-requires
signed_of-requires c =
    number-below _ _ _ _ (sym c.in_ok-v.ensures)
