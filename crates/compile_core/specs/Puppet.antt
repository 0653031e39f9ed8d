-- What a site means in Puppet's language, as far as it is built.
use Rattle.std.specs.Prelude.{ℕ, List, [], ◌∷◌, Option, Some, None, Result, Ok, Err}
use Rattle.std.specs.FinMap as fin
use Rattle.pp_values.specs.Datum.{Datum, hash, no_entries}
use Rattle.pp_values.specs.declared.fault.Fault.{Fault}
use Rattle.pp_values.specs.declared.place.TheConstants.{MAIN_MANIFEST}
use Rattle.res_core.specs.declared.catalog.Catalog.{Catalog}
use Rattle.res_core.specs.declared.export_set.ExportSet.{ExportSet}
use Rattle.site_core.specs.Meaning.{Meaning}
use Rattle.site_bundle.specs.Bundles.{site_said}
use Rattle.site_bundle.specs.Refusals.{Refusal}
use Rattle.site_bundle.specs.SiteView.{SiteView, facts_for}
use Rattle.compile_core.specs.Meaning.{meaning}

-- it depends on the site, the node, the facts and the exported sets alone
abbrev pub puppet : Meaning SiteView Catalog Fault
puppet = meaning

-- the facts that a site lists for a node
abbrev pub listed : SiteView → List ℕ → Option Datum
listed = facts_for

-- the site that bytes say, or none: an object with `files` and `nodes` as in a bundle
abbrev pub site_or_none : Result SiteView Refusal → Option SiteView
site_or_none (Ok site) = Some site
site_or_none (Err refusal) = None

abbrev pub said_site : List ℕ → Option SiteView
said_site body = site_or_none (site_said body)

-- a manifest is the site of that file alone, without data and nodes; the node has empty facts, and no node exports
-- anything
abbrev pub manifest_meaning : List ℕ → List ℕ → Result (Catalog × ExportSet) Fault
manifest_meaning node manifest =
    puppet (record { manifests = (MAIN_MANIFEST.now, manifest) ∷ []; «data» = []; nodes = [] }) node (hash no_entries)
    fin.empty
