-- Export sets that are the same in every part, letter by letter.
use Rattle.std.specs.Prelude.{Bool, ◌==◌, ◌&&◌}
use Rattle.std.specs.Str.{bytes_eq}
use Rattle.std.specs.Cmp.Lexicographic.{pointwise}
use Rattle.pp_values.specs.Settings.{Setting}
use Rattle.pp_values.specs.declared.place.Place.{Place}
use Rattle.pp_ops.specs.Same.{same}
use Rattle.res_core.specs.declared.export_set.ExportSet.{ExportSet}
use Rattle.res_core.specs.declared.exported.Exported.{Exported}
use Rattle.res_core.specs.declared.resource.Resource.{Resource}

abbrev pub same_setting : Setting → Setting → Bool
same_setting a b = bytes_eq a.0 b.0 && same a.1 b.1

-- kind, title, attributes and tags
abbrev pub same_resource : Resource → Resource → Bool
same_resource a b =
    (bytes_eq a.kind b.kind && bytes_eq a.title b.title)
    && (pointwise same_setting a.attributes b.attributes && pointwise bytes_eq a.tags b.tags)

abbrev pub same_place : Place → Place → Bool
same_place a b = bytes_eq a.file b.file && (a.line == b.line)

abbrev pub same_exported : Exported → Exported → Bool
same_exported a b = same_place a.node_place b.node_place && same_resource a.item b.item

-- the same resources in the same order
abbrev pub same_set : ExportSet → ExportSet → Bool
same_set a b = pointwise same_exported a.items b.items
