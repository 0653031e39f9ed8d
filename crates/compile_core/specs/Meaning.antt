-- What a site means for a node: the node's catalog and what it exports, or the first fault.
use Rattle.std.specs.Prelude.{ℕ, List, map, Result, Ok, Err}
use Rattle.pp_parser.specs.Manifest.{file_of}
use Rattle.pp_tree.specs.declared.file.File.{File}
use Rattle.pp_tree.specs.declared.manifest_file.ManifestFile.{ManifestFile}
use Rattle.pp_values.specs.Answers.{and_then}
use Rattle.pp_values.specs.Datum.{Datum}
use Rattle.pp_values.specs.declared.fault.Fault.{Fault}
use Rattle.pp_values.specs.declared.place.TheConstants.{MAIN_MANIFEST}
use Rattle.res_core.specs.declared.catalog.Catalog.{Catalog}
use Rattle.res_core.specs.declared.export_set.ExportSet.{ExportSet}
use Rattle.res_core.specs.declared.log_line.LogLine.{LogLine}
use Rattle.export_store.specs.Sets.{Sets}
use Rattle.site_bundle.specs.SiteView.{Filed, SiteView, main_text}
use Rattle.eval_world.specs.Environment.{Environment}
use Rattle.eval_world.specs.Outcomes.{Outcome, Step, ◌>>=◌, ◌>>◌}
use Rattle.eval_world.specs.declared.world.World.{World}
use Rattle.class_eval.specs.Evaluating.{main_rule}
use Rattle.class_eval.specs.Starting.{started}
use Rattle.defined_types.specs.Rounds.{rounds}
use Rattle.catalog_finish.specs.Finishing.{finished}

-- ---- the manifests of a site, and its data

-- a file with its tree, or its first fault
abbrev pub read_file : Filed → List ℕ × ManifestFile
read_file f = (f.0, record { text = f.1; read = file_of f.0 f.1 })

abbrev pub environment_of : SiteView → File → Environment
environment_of site main = record { main = main; files = map read_file site.manifests; site_data = site.data }

-- ---- evaluation and finishing

-- The main manifest with the definition of a node, and then rounds for a node, which see one version of the sets.
abbrev pub evaluated : Environment → List ℕ → List ℕ → Sets → Step (Unit {0})
evaluated m node own sets = do
  main_rule m.main node
  rounds own sets

abbrev pub with_log : List LogLine → Catalog × ExportSet → Catalog × ExportSet
with_log log made = (record made.0 { log = log }, made.1)

-- the tables become catalog and exports; the lines of the log are the catalog's
abbrev pub finished_world : List ℕ → World → Result (Catalog × ExportSet) Fault
finished_world node w = and_then (finished w.overrides w.book w.relations node) (λ made. Ok (with_log w.log made))

abbrev pub ended : List ℕ → Outcome (Unit {0}) → Result (Catalog × ExportSet) Fault
ended node (Ok p) = finished_world node p.1
ended node (Err f) = Err f

-- it begins with the names of top scope, made of the node's name and facts, and with `Class[main]`
abbrev pub meaning_of : Environment → List ℕ → Datum → Sets → Result (Catalog × ExportSet) Fault
meaning_of m node facts sets = ended node (evaluated m node node sets (started m node facts))

-- ---- the site

-- where the main manifest has no tree, its fault
abbrev pub meaning_if_read : SiteView → Result File Fault → List ℕ → Datum → Sets → Result (Catalog × ExportSet) Fault
meaning_if_read site (Ok main) node facts sets = meaning_of (environment_of site main) node facts sets
meaning_if_read site (Err f) node facts sets = Err f

unfoldable pub meaning : SiteView → List ℕ → Datum → Sets → Result (Catalog × ExportSet) Fault
meaning site node facts sets = meaning_if_read site (file_of MAIN_MANIFEST.now (main_text site)) node facts sets
