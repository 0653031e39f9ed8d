use Rattle.site_docs.proofs.Floats.{unfiled_form}
use Rattle.site_docs.proofs.entry_lines.unfiled_line.Goals as goal

pub json_text-requires : goal.json_text-requires
json_text-requires c = unfiled_form _ _ _ _ _ _ c.in_ok-form.ensures c.no_report.ensures
