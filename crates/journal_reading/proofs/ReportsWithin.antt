-- What a report's reader answers of a line with a line feed is the report of the line.
use Rattle.std.proofs.Common.{◌≡◌, ℕ, ◌^◌, ◌<◌, List, [], ◌∷◌, ◌++◌, length, Some, None, refl, sym, subst, ◌∙◌}
use Rattle.std.proofs.lemmas.List.{append_cancel_right}
use Rattle.agent_machine.specs.declared.report.Report.{Report}
use Rattle.json_documents.specs.LinesOfText.{IsFirstBad}
use Rattle.agent_docs.specs.ReportText.{IsReportLine, IsReportText}
use Rattle.agent_docs.specs.ReportReading.{report_in}
use Rattle.agent_docs.proofs.ReportsRead.{report_complete, report_sound}

pub report_of : (t text : List ℕ) (r : Report) → length t < 2 ^ 64 → text ≡ t ++ 10 ∷ [] → IsReportText r text →
    Some r ≡ report_in t
report_of t text r short ended (line, is, same) =
    let e : line ≡ t = append_cancel_right line t (10 ∷ []) (sym same ∙ ended) in
    sym (report_complete r t short (subst (IsReportLine r) e is))

pub no_report : (t text : List ℕ) (n : ℕ) → length t < 2 ^ 64 → text ≡ t ++ 10 ∷ [] → IsFirstBad IsReportText n text →
    None ≡ report_in t
no_report t text n short ended (k, e, begins, none) =
    elim (report_in t) as (λ o. report_in t ≡ o → None ≡ o) [
      | None ↦ λ same. refl
      | Some r ↦ λ same. absurd (none (r, text, (t, report_sound r t short same, ended), refl))
    ] refl
