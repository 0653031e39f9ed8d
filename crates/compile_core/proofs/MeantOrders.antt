-- A catalog that a site means for a node has no cycle.
use Rattle.std.proofs.Common.{◌≡◌, ℕ, List, Result, Ok, Err, refl, sym, subst}
use Rattle.pp_tree.specs.declared.file.File.{File}
use Rattle.pp_parser.specs.Manifest.{file_of}
use Rattle.pp_values.specs.Answers.{and_then}
use Rattle.pp_values.specs.Datum.{Datum}
use Rattle.pp_values.specs.declared.fault.Fault.{Fault}
use Rattle.pp_values.specs.declared.place.TheConstants.{MAIN_MANIFEST}
use Rattle.rel_graph.specs.CatalogPairs.{IsAcyclic}
use Rattle.res_core.specs.declared.catalog.Catalog.{Catalog}
use Rattle.res_core.specs.declared.export_set.ExportSet.{ExportSet}
use Rattle.export_store.specs.Sets.{Sets}
use Rattle.site_bundle.specs.SiteView.{SiteView, main_text}
use Rattle.eval_world.specs.Outcomes.{Outcome}
use Rattle.eval_world.specs.declared.world.World.{World}
use Rattle.class_eval.specs.Starting.{started}
use Rattle.catalog_finish.specs.Finishing.{finished}
use Rattle.catalog_finish.proofs.NoCycleLemmas.{no_cycle_is_left}
use Rattle.compile_core.specs.Laws.{NoCycleIsMeant}
use Rattle.compile_core.specs.Meaning.{environment_of, evaluated, with_log, finished_world, ended, meaning_if_read, meaning}

-- the first step went well, and so did the next one
passed : {A B F : Type 0} (m : Result A F) (next : A → Result B F) (y : B) → and_then m next ≡ Ok y →
    (x : A) × (m ≡ Ok x) × (next x ≡ Ok y)
passed (Ok x) next y e = (x, refl, e)
passed (Err f) next y e = absurd cc

one_ok : {A F : Type 0} (m : Result A F) (x y : A) → m ≡ Ok x → m ≡ Ok y → x ≡ y
one_ok m x y e f = cc

module _ (node : List ℕ) (made : Catalog × ExportSet) where
  finished_free : (w : World) → finished_world node w ≡ Ok made → IsAcyclic made.0.resources made.0.edges
  finished_free w e =
      let p = passed (finished w.overrides w.book w.relations node) (λ m. Ok (with_log w.log m)) made e in
      subst (λ (m : Catalog × ExportSet). IsAcyclic m.0.resources m.0.edges)
      (one_ok (Ok made) (with_log w.log p.0) made (sym p.2) refl)
      (no_cycle_is_left w.overrides w.book w.relations node p.0 p.1)

  ended_free : (o : Outcome (Unit {0})) → ended node o ≡ Ok made → IsAcyclic made.0.resources made.0.edges
  ended_free (Ok p) e = finished_free p.1 e
  ended_free (Err f) e = absurd cc

  read_free : (site : SiteView) (read : Result File Fault) (facts : Datum) (sets : Sets) →
      meaning_if_read site read node facts sets ≡ Ok made → IsAcyclic made.0.resources made.0.edges
  read_free site (Ok main) facts sets e =
      let m = environment_of site main in ended_free (evaluated m node node sets (started m node facts)) e
  read_free site (Err f) facts sets e = absurd cc

pub no_cycle_is_meant : NoCycleIsMeant
unfolding Rattle.compile_core.specs.Meaning.meaning
no_cycle_is_meant site node facts sets made e =
    read_free node made site (file_of MAIN_MANIFEST.now (main_text site)) facts sets e
