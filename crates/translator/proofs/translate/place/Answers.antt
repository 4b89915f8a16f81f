-- `translate::place` meets its contract: what stands on the page is the sheet, and it is copied exactly if the room is not shorter.
use Rattle.std.proofs.Common.{◌≡◌, ◌≤◌, ◌<◌, ap, arith, length, take, Ok, le-leb}
use Rattle.std.proofs.lemmas.Bool.{lt-leb}
use Rattle.translator.specs.NestSheets.{sheet_of}
use Rattle.translator.specs.SheetPages.{AtFront, sheet-page}
use Rattle.translator.proofs.translate.place.Goals as goal

pub returns-then-room-len : goal.returns-then-room-len
returns-then-room-len c =
    let holds : AtFront c.sheet_page-page.result (sheet_of c.args.m.now) = sheet-page c.args.m.now c.sheet_page-page.result c.requires c.sheet_page-page.ensures in
    let short : length c.args.room.now < length (sheet_of c.args.m.now) = rw holds.behind at c.if-room-len.true in
    (rw (lt-leb _ _ short), rw (lt-leb _ _ short))

pub copy-requires : goal.copy-requires
copy-requires c =
    let holds : AtFront c.sheet_page-page.result (sheet_of c.args.m.now) = sheet-page c.args.m.now c.sheet_page-page.result c.requires c.sheet_page-page.ensures in
    (c.if-room-len.false, omega (arith, holds.behind, holds.fits))

pub returns : goal.returns
returns c =
    let holds : AtFront c.sheet_page-page.result (sheet_of c.args.m.now) = sheet-page c.args.m.now c.sheet_page-page.result c.requires c.sheet_page-page.ensures in
    let long : length (sheet_of c.args.m.now) ≤ length c.args.room.now = rw holds.behind at c.if-room-len.false in
    let front : take c.sheet_page-page.result.at c.sheet_page-page.result.bytes ≡ sheet_of c.args.m.now = rw holds.behind holds.front in
    (rw (le-leb _ _ long) (ap Ok holds.behind), rw (le-leb _ _ long) (rw front at c.copy.ensures))
