-- Nodes and their facts, as what they say.
use Rattle.std.specs.Prelude.{ℕ, List, map}
use Rattle.pp_values.specs.declared.value.Value.{Value}
use Rattle.pp_values.specs.Datum.{Datum}
use Rattle.pp_values.specs.Views.{view}

abbrev pub fact_view : List ℕ × Value → List ℕ × Datum
fact_view p = (p.0, view p.1)

abbrev pub fact_views : List (List ℕ × Value) → List (List ℕ × Datum)
fact_views = map fact_view
