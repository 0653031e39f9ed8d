use Rattle.std.proofs.Common.{◌≡◌, ◌++◌}
use Rattle.pp_values.specs.Rising.{sorted}
use Rattle.res_core.specs.AttributeViews.{settings}
use Rattle.override_rules.proofs.overrides.Overrides.attributes_among.Given as goal
use Rattle.override_rules.specs.Meaning.{attribute_of}
use Rattle.override_rules.specs.Names.{names_of, settings_among}

abbrev pub invariant-loop-name : goal.invariant-loop-name
invariant-loop-name l =
    settings_among (attribute_of l.self l.row) (sorted (names_of l.self l.row))
    ≡ settings l.items.items ++ settings_among (attribute_of l.self l.row) l.name-iterator
