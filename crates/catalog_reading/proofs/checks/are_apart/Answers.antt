use Rattle.std.proofs.Common.{map, ap, ◌∙◌}
use Rattle.catalog_reading.specs.CatalogReading.{name_of}
use Rattle.catalog_reading.proofs.NamesApart.{are_new, new_ones}
use Rattle.catalog_reading.proofs.checks.are_apart.Goals as goal

pub loop-left-init : goal.loop-left-init
loop-left-init c =
    ap (λ seen. are_new seen (map name_of c.args.resources.now)) c.new-names.ensures.empty
    ∙ new_ones c.args.resources.now c.requires
