-- Where all that a collector finds has some tag, it imports the same from what has that tag alone.
use Rattle.std.proofs.Common.{◌≡◌, ℕ, Bool, true, false, ◌&&◌, ◌||◌, cond, List, [], ◌∷◌, filter, Option, None, Some}
use Rattle.std.proofs.Common.{Ok, Err, refl, sym, ap, ◌∙◌}
use Rattle.std.specs.Prelude.{not, slice_get}
use Rattle.std.specs.Str.{bytes_eq}
use Rattle.res_book.specs.declared.collector.Collector.{Collector}
use Rattle.res_core.specs.TagNames.{is_tagged}
use Rattle.export_store.specs.ExportQueries.{Placed, exports_of, is_found, found}
use Rattle.export_store.specs.Sets.{Sets}
use Rattle.eval_collecting.proofs.Keeping.{Holds, import_match_keeps}
use Rattle.eval_collecting.proofs.Passing.{passes_untagged}
use Rattle.eval_collecting.specs.Importing.{import_match, needed_tag, tag_of}
use Rattle.eval_world.specs.Outcomes.{Outcome, go_on}
use Rattle.eval_world.specs.declared.world.World.{World}
use Rattle.defined_types.proofs.PlaceLemmas.{placed_found}
use Rattle.defined_types.specs.ImportPlaces.{all_placed_at}
use Rattle.defined_types.specs.Rounds.{take_imports}

module _ (c : ℕ) (t kind node : List ℕ) where
  abbrev Of : List Collector → Type 0
  Of cs = tag_of (slice_get cs c) ≡ Some t

  abbrev all_of_kind : List Placed → List Placed
  all_of_kind = filter (is_found kind None node)

  abbrev tagged : List Placed → List Placed
  tagged = filter (is_found kind (Some t) node)

  abbrev Same : List Placed → Type 0
  Same ps = (added : Bool) (w : World) → needed_tag w c ≡ Some t →
      take_imports c added (all_of_kind ps) w ≡ take_imports c added (tagged ps) w

  go_on_same : (added : Bool) (ps : List Placed) (o : Outcome Bool) → Same ps →
      Holds (λ v. Of v.relations.collectors) o →
      go_on o (λ more. take_imports c (more || added) (all_of_kind ps))
      ≡ go_on o (λ more. take_imports c (more || added) (tagged ps))
  go_on_same added ps (Ok p) same stays = same (p.0 || added) p.1 stays
  go_on_same added ps (Err f) same stays = refl

  -- one resource, of the kind of another node or not, with the tag or not
  one : (other of_kind has : Bool) (p : Placed) (ps : List Placed) → Same ps → (added : Bool) (w : World) →
      needed_tag w c ≡ Some t → is_tagged p.1.item.tags t ≡ has →
      take_imports c added (cond (other && (of_kind && true)) (p ∷ all_of_kind ps) (all_of_kind ps)) w
      ≡ take_imports c added (cond (other && (of_kind && has)) (p ∷ tagged ps) (tagged ps)) w
  unfolding take_imports
  one false of_kind has p ps same added w needs is = same added w needs
  one true false has p ps same added w needs is = same added w needs
  one true true true p ps same added w needs is =
      go_on_same added ps (import_match c p.0.node p.0.place p.1 w) same
      (import_match_keeps Of c p.0.node p.0.place p.1 w needs)
  one true true false p ps same added w needs is =
      ap (λ o. go_on o (λ more. take_imports c (more || added) (all_of_kind ps)))
      (passes_untagged c p.0.node p.0.place p.1 t w needs is)
      ∙ same added w needs

  all_same : (ps : List Placed) → Same ps
  all_same [] added w needs = refl
  all_same (p ∷ ps) added w needs =
      one (not (bytes_eq p.0.node node)) (bytes_eq p.1.item.kind kind) (is_tagged p.1.item.tags t) p ps (all_same ps)
      added w needs refl

narrowed : (c : ℕ) (kind node : List ℕ) (ps : List Placed) (tag : Option (List ℕ)) (added : Bool) (w : World) →
    needed_tag w c ≡ tag →
    take_imports c added (filter (is_found kind None node) ps) w
    ≡ take_imports c added (filter (is_found kind tag node) ps) w
narrowed c kind node ps None added w needs = refl
narrowed c kind node ps (Some t) added w needs = all_same c t kind node ps added w needs

pub tagged_alone : (c : ℕ) (added : Bool) (kind node : List ℕ) (sets : Sets) (w : World) →
    take_imports c added (all_placed_at sets (found kind (needed_tag w c) node sets)) w
    ≡ take_imports c added (filter (is_found kind None node) (exports_of sets)) w
tagged_alone c added kind node sets w =
    ap (λ ps. take_imports c added ps w) (placed_found sets kind (needed_tag w c) node)
    ∙ sym (narrowed c kind node (exports_of sets) (needed_tag w c) added w refl)
