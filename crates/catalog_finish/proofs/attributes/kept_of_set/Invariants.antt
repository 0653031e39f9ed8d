use Rattle.std.proofs.Common.{◌≡◌, ◌++◌}
use Rattle.std.specs.Vec.Iter.{into_iter_items}
use Rattle.res_core.specs.AttributeViews.{settings}
use Rattle.catalog_finish.specs.Attributes.{in_catalog}
use Rattle.catalog_finish.proofs.attributes.kept_of_set.Given as goal

abbrev pub invariant-loop-attribute : goal.invariant-loop-attribute
invariant-loop-attribute l =
    settings l.items.items ++ in_catalog (settings (into_iter_items l.attribute-iterator)) ≡ in_catalog l.fn.attributes
