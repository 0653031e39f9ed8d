-- The resources of a catalog.
use Rattle.std.specs.Prelude.{ℕ, List, [], ◌∷◌}
use Rattle.pp_values.specs.Settings.{Setting}
use Rattle.res_core.specs.declared.declared.Declared.{Declared}
use Rattle.res_core.specs.declared.held.Held.{Held}
use Rattle.res_core.specs.declared.resource.Resource.{Resource}
use Rattle.res_book.specs.declared.row.Row.{Row}
use Rattle.override_rules.specs.Meaning.{State}
use Rattle.catalog_finish.specs.Attributes.{catalog_attributes}
use Rattle.catalog_finish.specs.Layouts.{Layout, of_live, inside}

-- a resource with these attributes in place of those that it was declared with
abbrev pub resource_with : Declared → List Setting → Resource
resource_with d ss = record { kind = d.item.kind; title = d.item.title; attributes = ss; tags = d.item.tags }

abbrev pub held : State → Layout → ℕ → Row → Held
held s l n r = record { item = resource_with r.declared (catalog_attributes s r); inside = inside l n r }

-- all live declarations in their order, `Class[main]` first, each at its index
abbrev pub resources : State → Layout → List Row → List Held
resources s l rows = of_live (λ n r. held s l n r ∷ []) 0 rows
