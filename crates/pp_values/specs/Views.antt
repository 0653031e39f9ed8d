-- What a `Value` says. The lists within are seen as what they say already, so this goes one level deep.
use Rattle.std.specs.Prelude.{List, map}
use Rattle.pp_values.specs.declared.value.Value.{Value}
use Rattle.pp_values.specs.declared.value.Value.TheVariants as v
use Rattle.pp_values.specs.Datum as d
use Rattle.pp_values.specs.Datum.{Datum, Pair, data_of, entries_of}

abbrev pub view : Value → Datum
view v.Undef = d.undef
view (v.Flag b) = d.flag b
view (v.Int z) = d.int z
view (v.Text t) = d.text t
view (v.List ds) = d.list (data_of ds)
view (v.Hash ps) = d.hash (entries_of ps)
view (v.Ref r) = d.reference r
view (v.Kind t) = d.kind t
view v.Default = d.default

abbrev pub views : List Value → List Datum
views = map view

abbrev pub pair_view : Value × Value → Pair
pair_view p = (view p.0, view p.1)

abbrev pub pair_views : List (Value × Value) → List Pair
pair_views = map pair_view
