-- The report of a run by waves has the lines of the run of one turn after another, in another order.
use Rattle.std.proofs.Common.{◌≡◌, ℕ, List, Some, slice_get, ap}
use Rattle.res_core.specs.Catalogs.{Catalog}
use Rattle.agent_machine.specs.declared.report_line.ReportLine.{ReportLine}
use Rattle.agent_transaction.proofs.SerialSentence.{run_says}
use Rattle.agent_transaction.specs.Sentences.{HasLine, Says}
use Rattle.wide_apply.proofs.Permuted.{Apart, apart_by_places, permuted}
use Rattle.wide_apply.proofs.WideLaw.{same_lines}
use Rattle.wide_apply.proofs.WideSentence.{wide_report_says}
use Rattle.wide_apply.specs.WideLaws.{WavesAreTheRun}

-- each resource has one line, so no line stands twice
lines_apart : (c : Catalog) (lines : List ReportLine) → Says c lines → Apart lines
lines_apart c lines s = apart_by_places lines (λ k j line a b.
    let whose = s.others k line a in
    let h = whose.1 in
    s.once whose.0 line line
    (record { resource = h.resource; place = k; told = a; whose = h.whose })
    (record { resource = h.resource; place = j; told = b; whose = h.whose }))

pub waves_are_the_run : WavesAreTheRun
waves_are_the_run c serial wide found left left_too kept ordered none rises r s =
    let same = same_lines c serial wide found left left_too kept ordered none rises r s in
    let one = run_says c serial r.before r.after kept r.run in
    let other = wide_report_says c wide s.before s.after kept s.run in (
      same.0,
      permuted serial.lines wide.lines (lines_apart c serial.lines one.0) (lines_apart c wide.lines other.0) same.1,
      same.2,
    )
