-- When two nodes export the same.
use Rattle.std.specs.Prelude.{Bool, true, false, Option, None, Some}
use Rattle.res_core.specs.declared.export_set.ExportSet.{ExportSet}
use Rattle.export_store.specs.Sameness.{same_set}

-- two nodes have the same set, or neither has one
abbrev pub same_choice : Option ExportSet → Option ExportSet → Bool
same_choice None None = true
same_choice (Some a) (Some b) = same_set a b
same_choice a b = false
