-- What the definitions give on worked examples.
use Rattle.std.proofs.Common.{◌≡◌, ℕ, Bool, true, false, List, [], ◌∷◌, filter, None, Some, Result, Ok, Err, refl}
use Rattle.std.proofs.Common.{codes}
use Rattle.std.specs.FinMap as fin
use Rattle.pp_values.specs.Datum as d
use Rattle.pp_values.specs.Faults as faults
use Rattle.pp_values.specs.declared.fault.Fault.{Fault}
use Rattle.pp_values.specs.declared.fault.What.TheVariants as what
use Rattle.pp_values.specs.declared.place.Place.{Place}
use Rattle.export_store.specs.ExportQueries.{Placed, is_found}
use Rattle.export_store.specs.Sets.{Sets}
use Rattle.override_rules.specs.Rights.{line_tests}
use Rattle.res_book.specs.Rows.{new_row}
use Rattle.res_book.specs.declared.collector.Collector.{Collector}
use Rattle.res_book.specs.declared.mode.Mode.TheVariants as mode
use Rattle.res_book.specs.declared.row.Row.{Row}
use Rattle.res_core.specs.AttributeChecks.{known_checked}
use Rattle.res_core.specs.Criteria.{Criterion, all, by_tag}
use Rattle.res_core.specs.NativeTypes as natives
use Rattle.res_core.specs.NativeTypes.{native_of}
use Rattle.res_core.specs.declared.resource.Resource.{Resource}
use Rattle.eval_collecting.specs.Blocks.{block_applied}
use Rattle.eval_collecting.specs.Importing.{finds, tested, declare_rule, import_rule, import_once, import_match}
use Rattle.eval_collecting.specs.Importing.{imports}
use Rattle.eval_collecting.specs.Matching.{takes, take, local_match}
use Rattle.eval_resources.specs.Checks.{kind_checked, settings_known}
use Rattle.eval_world.specs.Environment.{Environment}
use Rattle.eval_world.specs.Outcomes.{Outcome}
use Rattle.eval_world.specs.Owners.{owner_at}
use Rattle.eval_world.specs.Worlds.{empty}
use Rattle.eval_world.specs.declared.world.World.{World}
use Rattle.defined_types.specs.Rounds.{take_from, take_imports, collector_turn, turns_from, round, run_instances}
use Rattle.defined_types.specs.Rounds.{rounds_left}

abbrev place : ℕ → Place
place line = record { file = codes "manifests/site.pp"; line = line }

abbrev notify : List ℕ → List ℕ → Resource
notify title tag = record { kind = codes "notify"; title = title; attributes = []; tags = tag ∷ [] }

-- `@notify { 'a': }` of this title, with a tag
abbrev virtual : List ℕ → List ℕ → Row
virtual title tag = new_row (record {
  item = notify title tag;
  at = place 1;
  scope = 0;
  container = None;
  class = codes "class main";
  known = [];
}) mode.Virtual

abbrev collector : Bool → Criterion → Collector
collector exported query = record {
  kind = codes "notify";
  query = query;
  at = place 2;
  owner = 0;
  exported = exported;
  lines = [];
  realized = None;
}

abbrev asks_for : List ℕ → Collector
asks_for tag = collector false (by_tag (d.text tag))

abbrev with_two : List Collector → Environment → World
with_two cs m = record (empty m) {
  book = virtual (codes "a") (codes "t") ∷ virtual (codes "b") (codes "u") ∷ [];
  relations = record { lines = []; containments = []; collectors = cs; applied = [] };
}

abbrev nothing : Sets
nothing = fin.empty

-- the titles of the declarations, each with whether it is marked
abbrev marks : List Row → List (List ℕ × Bool)
marks [] = []
marks (r ∷ rs) = (r.declared.item.title, r.marked) ∷ marks rs

abbrev shown : {A : Type 0} → Outcome A → Result (A × List (List ℕ × Bool)) Fault
shown (Ok p) = Ok (p.0, marks p.1.book)
shown (Err f) = Err f

abbrev both : Bool → Bool → List (List ℕ × Bool)
both x y = (codes "a", x) ∷ (codes "b", y) ∷ []

-- ---- one collector

by_tag_alone : (m : Environment) → shown (collector_turn 0 (codes "n") nothing (with_two (asks_for (codes "u") ∷ []) m))
    ≡ Ok (true, both false true)
unfolding collector_turn take_from local_match take block_applied takes
by_tag_alone m = refl

-- what other nodes export comes behind what is declared here, and once
abbrev from_other : ℕ → List ℕ → Placed
from_other n title =
    (record { node = codes "o"; place = n }, record { node_place = place 5; item = notify title (codes "t") })

imports_in_order : (m : Environment)
    → shown (take_imports 0 false (from_other 0 (codes "y") ∷ from_other 1 (codes "x") ∷ from_other 0 (codes "y") ∷ [])
    (with_two (collector true all ∷ []) m))
    ≡ Ok (true, (codes "a", false) ∷ (codes "b", false) ∷ (codes "y", false) ∷ (codes "x", false) ∷ [])
unfolding take_imports import_match finds import_once import_rule block_applied tested kind_checked native_of
    natives.attributes_of settings_known known_checked declare_rule owner_at line_tests
imports_in_order m = refl

import_twice : (m : Environment)
    → shown (take_imports 0 false (from_other 0 (codes "a") ∷ []) (with_two (collector true all ∷ []) m))
    ≡ Err (faults.fault (place 5) (what.Duplicate (record { kind = codes "notify"; title = codes "a" }) (place 1)))
unfolding take_imports import_match finds import_once import_rule block_applied tested kind_checked native_of
    natives.attributes_of settings_known known_checked declare_rule owner_at line_tests
import_twice m = refl

-- what a node published before is not given to it
not_its_own : filter (is_found (codes "notify") None (codes "o")) (from_other 0 (codes "y") ∷ []) ≡ []
not_its_own = refl

by_another_node : filter (is_found (codes "notify") None (codes "n")) (from_other 0 (codes "y") ∷ [])
    ≡ from_other 0 (codes "y") ∷ []
by_another_node = refl

-- `<| |>` imports nothing
local_collector : (m : Environment) → imports (with_two (collector false all ∷ []) m) 0 ≡ None
local_collector m = refl

exported_collector : (m : Environment) → imports (with_two (collector true all ∷ []) m) 0 ≡ Some (codes "notify")
exported_collector m = refl

-- ---- rounds

-- a second round adds nothing, and is the last
two_rounds : (m : Environment)
    → shown (rounds_left 2 (codes "n") nothing (with_two (asks_for (codes "u") ∷ asks_for (codes "t") ∷ []) m))
    ≡ Ok (tt, both true true)
unfolding rounds_left round run_instances turns_from collector_turn take_from local_match take block_applied takes
    native_of
two_rounds m = refl

-- F27 where the last round still adds something
one_round_alone : (m : Environment)
    → shown (rounds_left 1 (codes "n") nothing (with_two (asks_for (codes "u") ∷ []) m))
    ≡ Err (faults.fault (place 1) what.RoundLimit)
unfolding rounds_left round run_instances turns_from collector_turn take_from local_match take block_applied takes
    owner_at native_of
one_round_alone m = refl

nothing_to_take : (m : Environment)
    → shown (rounds_left 1 (codes "n") nothing (with_two (asks_for (codes "v") ∷ []) m)) ≡ Ok (tt, both false false)
unfolding rounds_left round run_instances turns_from collector_turn take_from local_match take block_applied takes
    native_of
nothing_to_take m = refl
