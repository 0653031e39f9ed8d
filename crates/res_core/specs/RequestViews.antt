-- What a `Request` asks for.
use Rattle.std.specs.Prelude.{List, map, option_map}
use Rattle.pp_values.specs.Views.{view}
use Rattle.res_core.specs.declared.request.CompileRequest.{CompileRequest}
use Rattle.res_core.specs.declared.request.Request.{Request}
use Rattle.res_core.specs.declared.request.Request.TheVariants as v
use Rattle.res_core.specs.Asked.{Wanted, Asked, compile, deactivate}

abbrev pub wanted : CompileRequest → Wanted
wanted r = record { node = r.node; facts = option_map view r.facts; seen = r.seen }

abbrev pub asked : Request → Asked
asked (v.Compile r) = compile (wanted r)
asked (v.Deactivate node) = deactivate node

abbrev pub all_asked : List Request → List Asked
all_asked = map asked
