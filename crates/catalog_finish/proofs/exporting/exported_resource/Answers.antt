use Rattle.std.proofs.Common.{find, not, sym, ap, ◌∙◌}
use Rattle.pp_values.specs.Plain.{is_plain_value}
use Rattle.catalog_finish.proofs.AttributeLemmas.{none_found_plain}
use Rattle.catalog_finish.proofs.exporting.exported_resource.Goals as goal

pub plain_export-requires : goal.plain_export-requires
plain_export-requires c =
    none_found_plain c.args.attributes
    (ap (find (λ a. not (is_plain_value a.1))) (sym c.as_slice.ensures.attributes) ∙ sym c.in-None.ensures)
