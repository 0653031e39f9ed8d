-- The codes by which a proof tells reports apart.
use Rattle.std.specs.Prelude.{◌≡◌, ℕ, zero, suc, Bool, List, Option, refl}
use Rattle.std.specs.Coded.{Coded, code_by, coded×, coded_ℕ, coded_bool, coded_list, coded_option}
use Rattle.pp_values.specs.Codes.{coded_text, coded_reference}
use Rattle.pp_values.specs.declared.reference.Reference.{Reference}
use Rattle.agent_machine.specs.declared.status.Status.{Status}
use Rattle.agent_machine.specs.declared.status.Status.TheVariants as status
use Rattle.agent_machine.specs.declared.report_line.ReportLine.{ReportLine}
use Rattle.agent_machine.specs.declared.report.Report.{Report}

abbrev pub number_of : Status → ℕ
number_of status.Unchanged = 0
number_of status.Changed = 1
number_of status.Failed = 2
number_of status.Skipped = 3
number_of status.Noop = 4

abbrev pub status_of : ℕ → Status
status_of zero = status.Unchanged
status_of (suc zero) = status.Changed
status_of (suc (suc zero)) = status.Failed
status_of (suc (suc (suc zero))) = status.Skipped
status_of (suc (suc (suc (suc n)))) = status.Noop

pub status_back : (s : Status) → status_of (number_of s) ≡ s
status_back status.Unchanged = refl
status_back status.Changed = refl
status_back status.Failed = refl
status_back status.Skipped = refl
status_back status.Noop = refl

abbrev pub coded_status : Coded Status
coded_status = code_by ℕ coded_ℕ number_of status_of status_back

abbrev pub coded_line : Coded ReportLine
coded_line =
    code_by ((Reference × Status) × (List (List ℕ) × (Bool × Option (List ℕ))))
    (coded× (coded× coded_reference coded_status)
    (coded× (coded_list coded_text) (coded× coded_bool (coded_option coded_text))))
    (λ l. ((l.item, l.status), (l.changes, (l.refreshed, l.fault))))
    (λ p. record { item = p.0.0; status = p.0.1; changes = p.1.0; refreshed = p.1.1.0; fault = p.1.1.1 }) (λ _. refl)

abbrev pub coded_report : Coded Report
coded_report =
    code_by (List ℕ × List ReportLine) (coded× coded_text (coded_list coded_line)) (λ r. (r.node, r.lines))
    (λ p. record { node = p.0; lines = p.1 }) (λ _. refl)
