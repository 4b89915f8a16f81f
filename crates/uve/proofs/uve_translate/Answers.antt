-- `uve_translate` meets its contract: a short report is left; else the answer is the translator's, and its numbers stand in front.
use mathlib.Core.Path.{◌∙◌, ap}
use lib.Seq.{sets}
use Rattle.uve.specs.Reports.{bytes_of64}
use Rattle.uve.specs.CallLaws.{translate-short, translate-long}
use Rattle.uve.proofs.uve_translate.Goals as goal

pub returns-then-report-lt24 : goal.returns-then-report-lt24
returns-then-report-lt24 c =
    let a = c.args in
    let h = translate-short a.nest.now a.room.now a.report.now c.if-report-lt24.true in
    record { value = h.0; room_after = h.1.0; report_after = h.1.1 }

pub returns : goal.returns
returns c =
    let a = c.args in
    let t = c.translate-translated in
    let r = translate-long a.nest.now a.room.now a.report.now c.if-report-lt24.false t.result t.new.room t.ensures.0 t.ensures.1 in record {
      value = c.refused_number.ensures ∙ r.0;
      room_after = r.1.0;
      report_after = c.put_all.ensures ∙ ap (λ ns. sets a.report.now 0 (bytes_of64 ns)) c.translation_numbers-numbers.ensures ∙ r.1.1;
    }
