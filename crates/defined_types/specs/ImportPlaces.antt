-- Exported resources at places of the sets: what the functions within speak of.
use Rattle.std.specs.Prelude.{List, Option, option_and_then, option_map, slice_get}
use Rattle.std.specs.FinMap.{get}
use Rattle.std.specs.List.{filter_map}
use Rattle.res_core.specs.declared.exported.Exported.{Exported}
use Rattle.export_store.specs.declared.export_place.ExportPlace.{ExportPlace}
use Rattle.export_store.specs.ExportQueries.{Placed}
use Rattle.export_store.specs.Sets.{Sets}

abbrev pub exported_at : Sets → ExportPlace → Option Exported
exported_at sets p = option_and_then (λ s. slice_get s.items p.place) (get sets p.node)

abbrev pub placed_at : Sets → ExportPlace → Option Placed
placed_at sets p = option_map (λ e. (p, e)) (exported_at sets p)

abbrev pub all_placed_at : Sets → List ExportPlace → List Placed
all_placed_at sets = filter_map (placed_at sets)
