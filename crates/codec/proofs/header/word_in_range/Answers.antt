-- `header::word_in_range` meets its contract: no field reaches into the next.
use native.Mathlib.Omega.{arith}
use Rattle.codec.specs.Headers.{word_of}
use Rattle.codec.specs.HeaderLaws.{header-range}
use Rattle.codec.proofs.header.word_in_range.Goals as goal

pub returns : goal.returns
unfolding word_of
returns c = (
  rw (c.code.ensures.0, c.kind_code.ensures.0, c.coupling_code.ensures.0),
  omega (arith, header-range c.args.h c.requires),
)
