use Rattle.std.proofs.Common.{◌≡◌, ◌++◌, filter, drop}
use Rattle.res_core.specs.AttributeViews.{settings}
use Rattle.catalog_finish.specs.Attributes.{in_catalog, has_value}
use Rattle.catalog_finish.proofs.attributes.kept_of_bound.Given as goal

abbrev pub invariant-loop-attribute : goal.invariant-loop-attribute
invariant-loop-attribute l =
    settings l.items.items
    ++ in_catalog (filter has_value (settings (drop l.attribute-index l.attribute-items)))
    ≡ in_catalog (filter has_value l.attributes)
