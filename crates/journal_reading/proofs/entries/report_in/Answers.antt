use Rattle.std.proofs.Common.{◌∷◌, [], ◌++◌, Err, ap, subst, ◌∙◌, arith}
use Rattle.json_documents.specs.LinesOfText.{ReadsDocument}
use Rattle.agent_docs.specs.ReportText.{IsReportText}
use Rattle.journal_reading.proofs.ReportsWithin.{report_of, no_report}
use Rattle.journal_reading.proofs.entries.report_in.Goals as goal

pub returns-in-Ok : goal.returns-in-Ok
returns-in-Ok c =
    report_of c.args.line.now _ _ (omega arith)
    (c.as_str.ensures.text ∙ c.in_ok-text.ensures ∙ ap (λ xs. xs ++ 10 ∷ []) c.in_ok-from_str.ensures) c.in-Ok.ensures

pub returns-in-Err-Bad : goal.returns-in-Err-Bad
returns-in-Err-Bad c =
    no_report c.args.line.now _ _ (omega arith)
    (c.as_str.ensures.text ∙ c.in_ok-text.ensures ∙ ap (λ xs. xs ++ 10 ∷ []) c.in_ok-from_str.ensures)
    (subst (λ s. ReadsDocument IsReportText c.as_str.result.now (Err s)) c.in-Err-Bad.field-0-is c.in-Err-Bad.ensures)
