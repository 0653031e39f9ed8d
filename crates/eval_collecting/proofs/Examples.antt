-- What the definitions give on worked examples: what is taken, and what is imported.
use Rattle.std.proofs.Common.{◌≡◌, Bool, true, false, [], ◌∷◌, None, Some, Ok, refl, codes}
use Rattle.pp_values.specs.Datum as d
use Rattle.pp_values.specs.declared.fault.What.TheVariants as what
use Rattle.override_rules.specs.Fold.{after_lines}
use Rattle.override_rules.specs.Meaning.{State}
use Rattle.override_rules.specs.Names.{attributes_of, names_within}
use Rattle.override_rules.specs.Rights.{line_tests}
use Rattle.res_book.specs.declared.collector.Collector.{Collector}
use Rattle.res_book.specs.declared.mode.Mode.{Mode}
use Rattle.res_book.specs.declared.mode.Mode.TheVariants as mode
use Rattle.res_core.specs.AttributeChecks.{known_checked}
use Rattle.res_core.specs.Criteria.{all, by_tag, by_attribute}
use Rattle.res_core.specs.Metaparameters.{is_metaparameter}
use Rattle.res_core.specs.NativeTypes as natives
use Rattle.res_core.specs.NativeTypes.{native_of}
use Rattle.res_core.specs.TagNames.{segments}
use Rattle.res_core.specs.declared.resource.Resource.{Resource}
use Rattle.eval_classes.specs.Definitions.{define_found, definition_of}
use Rattle.eval_collecting.specs.Blocks.{block_applied}
use Rattle.eval_collecting.specs.Importing.{finds, import_of, tested, declare_rule, import_rule, import_once, import_match}
use Rattle.eval_collecting.specs.Matching.{takes, take, local_match}
use Rattle.eval_collecting.proofs.Samples.{resource, message, a, a_named, row, import_mode, collector, realizing, export}
use Rattle.eval_collecting.proofs.Samples.{nothing, with_rows, shown, refuses, place}
use Rattle.eval_resources.specs.Checks.{kind_checked, settings_known}
use Rattle.eval_world.specs.Environment.{Environment}
use Rattle.eval_world.specs.Outcomes.{go_on}
use Rattle.eval_world.specs.Owners.{owner_at}

abbrev none : State
none = record { lines = []; scopes = []; defaults = [] }

-- ---- which local declarations a collector takes

abbrev Takes : Collector → Mode → Bool → Type 0
Takes c m wanted = takes none c (row m) ≡ wanted

of_all_forms : Takes (collector false all) mode.Plain true × Takes (collector false all) mode.Virtual true
    × Takes (collector false all) mode.Exported true × Takes (collector false all) import_mode false
unfolding takes
of_all_forms = (refl, refl, refl, refl)

exported_alone : Takes (collector true all) mode.Plain false × Takes (collector true all) mode.Virtual false
    × Takes (collector true all) mode.Exported true × Takes (collector true all) import_mode false
unfolding takes
exported_alone = (refl, refl, refl, refl)

of_its_kind : takes none (record (collector false all) { kind = codes "file" }) (row mode.Plain) ≡ false
unfolding takes
of_its_kind = refl

asked_for_a_tag : Takes (collector false (by_tag (d.text (codes "T")))) mode.Plain true
    × Takes (collector false (by_tag (d.text (codes "u")))) mode.Plain false
unfolding takes
asked_for_a_tag = (refl, refl)

asked_for_an_attribute : Takes (collector false (by_attribute (codes "message") (d.text (codes "m")))) mode.Plain true
    × Takes (collector false (by_attribute (codes "message") (d.text (codes "n")))) mode.Plain false
unfolding takes attributes_of after_lines names_within
asked_for_an_attribute = (refl, refl)

asked_for_one : Takes (realizing (codes "a")) mode.Virtual true × Takes (realizing (codes "b")) mode.Virtual false
unfolding takes
asked_for_one = (refl, refl)

-- ---- what is taken is marked; something is added once

first_time : (m : Environment)
    → shown (local_match 0 0 (with_rows (row mode.Virtual ∷ []) (collector false all ∷ []) m)) ≡ Ok (true, true ∷ [])
unfolding local_match take block_applied takes
first_time m = refl

second_time : (m : Environment)
    → shown (go_on (local_match 0 0 (with_rows (row mode.Virtual ∷ []) (collector false all ∷ []) m))
    (λ b. local_match 0 0))
    ≡ Ok (false, true ∷ [])
unfolding local_match take block_applied takes
second_time m = refl

live_already : (m : Environment)
    → shown (local_match 0 0 (with_rows (row mode.Plain ∷ []) (collector false all ∷ []) m)) ≡ Ok (false, true ∷ [])
unfolding local_match take block_applied takes
live_already m = refl

no_such_number : (m : Environment)
    → shown (local_match 0 1 (with_rows (row mode.Virtual ∷ []) (collector false all ∷ []) m)) ≡ Ok (false, false ∷ [])
unfolding local_match take block_applied takes
no_such_number m = refl

-- ---- what another node exports

found : finds (collector true all) (export a) ≡ true
unfolding finds
found = refl

by_local_collectors : finds (collector false all) (export a) ≡ false
unfolding finds
by_local_collectors = refl

imported_before : import_of (codes "web1") 2 a (row import_mode ∷ []) ≡ Some 0
imported_before = refl

from_another_place : import_of (codes "web1") 1 a (row import_mode ∷ []) ≡ None
from_another_place = refl

from_another_node : import_of (codes "web") 2 a (row import_mode ∷ []) ≡ None
from_another_node = refl

declared_here : import_of (codes "web1") 2 a (row mode.Plain ∷ []) ≡ None
declared_here = refl

-- F5 before F10, each at the place in the set
abbrev odd : Resource
odd = resource (codes "odd") (codes "a") message

unknown_kind : shown (import_match 0 (codes "web1") 2 (export odd)
    (with_rows [] (record (collector true all) { kind = codes "odd" } ∷ []) nothing))
    ≡ refuses (what.UnknownType (codes "odd"))
unfolding import_match finds import_once import_rule tested kind_checked native_of define_found definition_of segments
unknown_kind = refl

unknown_attribute : (m : Environment)
    → shown (import_match 0 (codes "web1") 2
    (export (resource (codes "notify") (codes "a") ((codes "nope", d.undef) ∷ [])))
    (with_rows (row mode.Plain ∷ []) (collector true all ∷ []) m))
    ≡ refuses (what.UnknownParameter a_named (codes "nope"))
unfolding import_match finds import_once import_rule tested kind_checked native_of natives.attributes_of is_metaparameter settings_known known_checked
unknown_attribute m = refl

twice : (m : Environment)
    → shown (import_match 0 (codes "web1") 2 (export a) (with_rows (row mode.Plain ∷ []) (collector true all ∷ []) m))
    ≡ refuses (what.Duplicate a_named (place 3))
unfolding import_match finds import_once import_rule tested kind_checked native_of natives.attributes_of settings_known known_checked declare_rule owner_at line_tests block_applied
twice m = refl

declared_once : (m : Environment)
    → shown (go_on (import_match 0 (codes "web1") 2 (export a) (with_rows [] (collector true all ∷ []) m))
    (λ b. import_match 0 (codes "web1") 2 (export a)))
    ≡ Ok (false, false ∷ [])
unfolding import_match finds import_once import_rule tested kind_checked native_of natives.attributes_of settings_known known_checked declare_rule owner_at line_tests block_applied
declared_once m = refl
