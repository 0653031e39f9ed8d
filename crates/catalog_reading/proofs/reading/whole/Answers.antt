use Rattle.std.proofs.Common.{sym, ap₂, ◌∙◌}
use Rattle.catalog_reading.specs.CatalogReading.{is_whole}
use Rattle.catalog_reading.proofs.CatalogsRead.{is_catalog}
use Rattle.catalog_reading.proofs.reading.whole.Goals as goal

pub new-requires : goal.new-requires
new-requires c =
    is_catalog _ _ c.requires
    (ap₂ is_whole (sym c.as_slice.ensures) (sym c.as_slice-2.ensures) ∙ sym c.in_ok-is_whole.ensures ∙ c.if-branch.true)
