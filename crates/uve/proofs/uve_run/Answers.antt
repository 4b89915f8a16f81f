-- A short report is left; else the run is the engine's, and its numbers stand in front.
use Rattle.std.proofs.Common.{◌≡◌, ◌+◌, ◌*◌, sym, ap, ◌∙◌, ◌++◌, arith}
use Rattle.std.proofs.lemmas.List.Edits.{sets}
use Rattle.engine.specs.Bodies.{progress_of}
use Rattle.engine.specs.Registers.{reg}
use Rattle.uve.specs.Reports.{bytes_of64, head_numbers, register_numbers, registers_from, mask_numbers, report_of}
use Rattle.uve.specs.CallLaws.{run_short, run_long}
use Rattle.uve.proofs.Steps.{given-refused, head-put, register-put, registers-put}
use Rattle.uve.proofs.uve_run.Goals as goal

pub returns-then-report-lt3712 : goal.returns-then-report-lt3712
returns-then-report-lt3712 c =
    let a = c.args in
    let h = run_short a.vl a.sheet.now a.memory.now a.report.now c.if-report-lt3712.true in
    record { value = h.0; memory_after = h.1.0; report_after = h.1.1 }

pub loop-i-preserved : goal.loop-i-preserved
loop-i-preserved c =
    let l = c.loop-i in
    let m = c.run-answer.result.machine in
    let e : c.put_register.new.report ≡ sets l.report (64 + 112 * l.i) (bytes_of64 (register_numbers (reg m l.i))) = c.put_register.ensures in
    rw e (sym (register-put l.report m l.i (omega arith)) ∙ l.invariant)

pub returns : goal.returns
returns c =
    let l = c.loop-i in
    let a = c.args in
    let p = progress_of c.run-answer.result c.run-answer.new.memory in
    let rest = bytes_of64 (registers_from p.world.machine 0 32 ++ mask_numbers) in
    let head : c.put_all.new.report ≡ sets a.report.now 0 (bytes_of64 (head_numbers p.verdict p.report)) =
    c.put_all.ensures ∙ ap (λ ns. sets a.report.now 0 (bytes_of64 ns)) c.head_numbers-head.ensures in
    let all : sets l.report 3648 (bytes_of64 mask_numbers) ≡ sets a.report.now 0 (bytes_of64 (report_of p)) =
    sym (registers-put l.report p.world.machine l.i (omega arith))
    ∙ l.invariant
    ∙ ap (λ b. sets b 64 rest) head
    ∙ sym (head-put a.report.now p) in
    let r = run_long a.vl a.sheet.now a.memory.now a.report.now c.if-report-lt3712.false p c.run-answer.ensures in
    record { value = c.refused_number.ensures ∙ given-refused _ ∙ r.0; memory_after = r.1.0; report_after = c.put_all-2.ensures ∙ all ∙ r.1.1 }
