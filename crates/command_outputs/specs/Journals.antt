-- What the history of a journal gives.
use Rattle.std.specs.Prelude.{ℕ, List}
use Rattle.compile_core.specs.Puppet.{puppet}
use Rattle.history_audit.specs.Audits.{audited}
use Rattle.history_audit.specs.VerdictTexts.{verdict_form}
use Rattle.history_audit.specs.declared.verdict.Verdict.{Verdict}
use Rattle.history_audit.specs.declared.verdict.Verdict.TheVariants as v
use Rattle.site_bundle.specs.SiteView.{SiteView}
use Rattle.site_core.specs.Events.{Event}
use Rattle.site_docs.specs.JournalText.{journal_text}
use Rattle.command_outputs.specs.Lines.{line}
use Rattle.command_outputs.specs.declared.output.Output.{Output}
use Rattle.command_outputs.specs.declared.output.Output.TheVariants as a

abbrev pub verdict_line : Verdict → List ℕ
verdict_line verdict = line (verdict_form verdict)

-- a history that is not legal is a refusal
abbrev pub verdict_output : Verdict → Output
verdict_output (v.Legal count) = a.Done (verdict_line (v.Legal count))
verdict_output (v.Broken entry part) = a.Refused (verdict_line (v.Broken entry part))

-- `audit`: the line of the verdict on a history, by what its sites mean
abbrev pub audited_output : List (Event SiteView) → Output
audited_output history = verdict_output (audited puppet history)

-- `migrate`: the journal, in the version that is written
abbrev pub migrated_output : List (Event SiteView) → Output
migrated_output history = a.Done (journal_text history)
