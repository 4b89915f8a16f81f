-- `run::run_sheet` meets its contract: what stands on the page is the sheet.
use Rattle.std.proofs.Common.{◌≡◌, arith, rules, length, take}
use Rattle.translator.specs.NestSheets.{sheet_of}
use Rattle.translator.specs.SheetPages.{AtFront, sheet-page}
use Rattle.translator.proofs.run.run_sheet.Goals as goal

pub shared_ref_as_front-run : goal.shared_ref_as_front-run
shared_ref_as_front-run c =
    let holds : AtFront c.sheet_page-page.result (sheet_of c.args.m.now) = sheet-page c.args.m.now c.sheet_page-page.result c.requires c.sheet_page-page.ensures in
    let n : length c.sheet_page-page.result.bytes ≡ 1024 = search rules in
    omega (arith, holds.behind, holds.fits)

pub returns : goal.returns
returns c =
    let holds : AtFront c.sheet_page-page.result (sheet_of c.args.m.now) = sheet-page c.args.m.now c.sheet_page-page.result c.requires c.sheet_page-page.ensures in
    let front : take c.sheet_page-page.result.at c.sheet_page-page.result.bytes ≡ sheet_of c.args.m.now = rw holds.behind holds.front in
    rw front at c.run.ensures
