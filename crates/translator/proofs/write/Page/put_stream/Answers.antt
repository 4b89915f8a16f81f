-- `write::Page::put_stream` meets its contract.
use Rattle.std.proofs.Common.{sym}
use Rattle.translator.specs.PageLaws.{stream-put}
use Rattle.translator.proofs.write.Page.put_stream.Goals as goal

pub returns : goal.returns
returns c = rw (c.put-2.ensures, c.put_dimensions.ensures, c.put.ensures, c.coupling_of.ensures) (sym (stream-put _ _ _ _ _))
