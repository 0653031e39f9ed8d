-- What a node of a site means by itself: with the facts that the site lists for it, where no node exports anything.
use Rattle.std.specs.Prelude.{ℕ, List, Option, Some, None, Result, Ok, Err}
use Rattle.std.specs.FinMap as fin
use Rattle.pp_values.specs.Answers.{AnswersBy}
use Rattle.pp_values.specs.Datum.{Datum}
use Rattle.pp_values.specs.declared.fault.Fault.{Fault}
use Rattle.res_core.specs.declared.catalog.Catalog.{Catalog}
use Rattle.res_core.specs.declared.export_set.ExportSet.{ExportSet}
use Rattle.site_bundle.specs.SiteView.{SiteView}
use Rattle.compile_core.specs.Puppet.{puppet, listed}
use Rattle.command_outputs.specs.declared.node_stop.NodeStop.{NodeStop}
use Rattle.command_outputs.specs.declared.node_stop.NodeStop.TheVariants as stop

-- why a node has no catalog
pub data NodeRefusal : Type 0 where
  -- the site doesn't list it
  unknown : NodeRefusal
  -- its compile is refused
  faulty : Fault → NodeRefusal

-- the catalog alone of what a compile makes
abbrev pub catalog_made : Result (Catalog × ExportSet) Fault → Result Catalog NodeRefusal
catalog_made (Ok made) = Ok made.0
catalog_made (Err fault) = Err (faulty fault)

-- by the facts that are listed for the node
abbrev pub catalog_with : SiteView → List ℕ → Option Datum → Result Catalog NodeRefusal
catalog_with site node None = Err unknown
catalog_with site node (Some facts) = catalog_made (puppet site node facts fin.empty)

-- the catalog of a node that the site lists, or why there is none
unfoldable pub node_meaning : SiteView → List ℕ → Result Catalog NodeRefusal
node_meaning site node = catalog_with site node (listed site node)

-- the refusal that a stop tells
abbrev pub refusal_told : NodeStop → Option NodeRefusal
refusal_told stop.Unknown = Some unknown
refusal_told (stop.Fault fault) = Some (faulty fault)
refusal_told stop.Memory = None

-- exactly what the node means, unless memory ran out
abbrev pub CompilesNode : Result Catalog NodeStop → Result Catalog NodeRefusal → Type 0
CompilesNode result meant = AnswersBy refusal_told result meant
