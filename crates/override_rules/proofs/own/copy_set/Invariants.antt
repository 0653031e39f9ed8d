use Rattle.std.proofs.Common.{◌≡◌, ◌++◌, filter, drop}
use Rattle.res_core.specs.AttributeViews.{settings}
use Rattle.override_rules.specs.Names.{is_set}
use Rattle.override_rules.proofs.own.copy_set.Given as goal

abbrev pub invariant-loop-attribute : goal.invariant-loop-attribute
invariant-loop-attribute l =
    settings l.items.items ++ filter is_set (settings (drop l.attribute-index l.attribute-items))
    ≡ filter is_set l.attributes
