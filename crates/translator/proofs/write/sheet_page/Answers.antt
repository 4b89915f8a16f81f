-- `write::sheet_page` meets its contract.
use Rattle.translator.specs.PageLaws.{sheet-put}
use Rattle.translator.proofs.write.sheet_page.Goals as goal

pub returns : goal.returns
returns c =
    record {
      blank = c.new-page.result;
      empty = c.new-page.ensures;
      written =
          rw
          (c.put_last.ensures, c.put.ensures, c.put_stream-3.ensures, c.put_stream-2.ensures, c.put_stream.ensures, sheet-put c.args.m.now c.new-page.result);
    }
