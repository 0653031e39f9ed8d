-- What the definitions give on worked examples: blocks, and imports of defines.
use Rattle.std.proofs.Common.{◌≡◌, ℕ, Bool, true, false, List, [], ◌∷◌, map, Some, Result, Ok, Err, refl, codes}
use Rattle.pp_values.specs.Datum as d
use Rattle.pp_values.specs.Faults as faults
use Rattle.pp_values.specs.Settings.{Setting}
use Rattle.pp_values.specs.declared.fault.Fault.{Fault}
use Rattle.pp_values.specs.declared.fault.Subject.TheVariants as subject
use Rattle.pp_values.specs.declared.fault.What.TheVariants as what
use Rattle.pp_values.specs.declared.reference.Reference.{Reference}
use Rattle.override_rules.specs.Fold.{after_lines}
use Rattle.override_rules.specs.Names.{attributes_of, names_within}
use Rattle.override_rules.specs.Rights.{line_tests}
use Rattle.res_book.specs.declared.collector.Collector.{Collector}
use Rattle.res_book.specs.declared.mode.Mode.TheVariants as mode
use Rattle.res_book.specs.declared.row.Row.{Row}
use Rattle.res_core.specs.AttributeChecks.{known_checked}
use Rattle.res_core.specs.Criteria.{all, by_attribute}
use Rattle.res_core.specs.Lines.{Line}
use Rattle.res_core.specs.Metaparameters.{is_metaparameter}
use Rattle.res_core.specs.NativeTypes as natives
use Rattle.res_core.specs.NativeTypes.{native_of}
use Rattle.res_core.specs.TagNames.{segments}
use Rattle.res_core.specs.declared.resource.Resource.{Resource}
use Rattle.eval_classes.specs.Definitions.{define_found, definition_of}
use Rattle.eval_collecting.specs.Blocks.{lines_added, apply_block, block_applied}
use Rattle.eval_collecting.specs.Importing.{finds, tested, declare_rule, import_rule, import_once, import_match}
use Rattle.eval_collecting.specs.Matching.{takes, take, local_match}
use Rattle.eval_collecting.proofs.Samples.{a, a_named, row, import_mode, collector, resource, export, with_rows, vhost}
use Rattle.eval_collecting.proofs.Samples.{shown, refuses, place}
use Rattle.eval_resources.specs.Checks.{kind_checked, settings_known}
use Rattle.eval_world.specs.Environment.{Environment}
use Rattle.eval_world.specs.Outcomes.{Outcome, Step, go_on}
use Rattle.eval_world.specs.Owners.{owner_at}
use Rattle.eval_world.specs.declared.world.World.{World}

-- ---- samples

-- `name => 'value'` at line 8
abbrev sets : List ℕ → List ℕ → Line
sets name value = record { name = name; append = false; value = d.text value; at = place 8 }

abbrev says_x : List Line
says_x = sets (codes "message") (codes "x") ∷ []

-- `Notify <| |> { message => 'x' }`, and `Notify <<| |>> { message => 'x' }`
abbrev with_block : Bool → Collector
with_block exported = record (collector exported all) { lines = says_x }

abbrev set_in_all : World → List (List Setting)
set_in_all w = map (attributes_of w.overrides) w.book

-- the answer, and what is set on each declaration after it
abbrev settled : Outcome Bool → Result (Bool × List (List Setting)) Fault
settled (Ok p) = Ok (p.0, set_in_all p.1)
settled (Err f) = Err f

abbrev message_is : List ℕ → List Setting
message_is text = (codes "message", d.text text) ∷ []

-- one step, and then the same once more
abbrev twice : Step Bool → Step Bool
twice step = λ w. go_on (step w) (λ b. step)

abbrev declared_as : List Row → Bool → Environment → World
declared_as rows exported m = with_rows rows (with_block exported ∷ []) m

-- ---- on what is declared here

-- what the declaration sets itself is changed; that is something added, also where the declaration was live before
applied : (m : Environment) → settled (local_match 0 0 (declared_as (row mode.Plain ∷ []) false m))
    ≡ Ok (true, message_is (codes "x") ∷ [])
unfolding local_match take block_applied apply_block lines_added takes attributes_of after_lines names_within
applied m = refl

-- and nothing is added at its second match
applied_once : (m : Environment) → settled (twice (local_match 0 0) (declared_as (row mode.Virtual ∷ []) false m))
    ≡ Ok (false, message_is (codes "x") ∷ [])
unfolding local_match take block_applied apply_block lines_added takes attributes_of after_lines names_within
applied_once m = refl

-- a query sees what blocks left: this one finds what it asked for no more
changed_before : (m : Environment) → settled (twice (local_match 0 0)
    (with_rows (row mode.Virtual ∷ [])
    (record (with_block false) { query = by_attribute (codes "message") (d.text (codes "m")) } ∷ []) m))
    ≡ Ok (false, message_is (codes "x") ∷ [])
unfolding local_match take block_applied apply_block lines_added takes attributes_of after_lines names_within
changed_before m = refl

-- each collector applies its own
two_collectors : (m : Environment) → settled (go_on
    (local_match 0 0 (with_rows (row mode.Exported ∷ []) (with_block false ∷ with_block true ∷ []) m))
    (λ b. local_match 1 0))
    ≡ Ok (true, message_is (codes "x") ∷ [])
unfolding local_match take block_applied apply_block lines_added takes attributes_of after_lines names_within
two_collectors m = refl

-- what it does not take it leaves alone: a virtual one with `<<| |>>`, and an import
left_alone : (m : Environment)
    → (settled (local_match 0 0 (declared_as (row mode.Virtual ∷ []) true m)) ≡ Ok (false, message_is (codes "m") ∷ []))
    × (settled (local_match 0 0 (declared_as (row import_mode ∷ []) false m)) ≡ Ok (false, message_is (codes "m") ∷ []))
unfolding local_match takes attributes_of after_lines names_within
left_alone m = (refl, refl)

-- F10 at its line
unknown_name : (m : Environment) → shown (local_match 0 0 (with_rows (row mode.Virtual ∷ [])
    (record (collector false all) { lines = sets (codes "nope") (codes "x") ∷ [] } ∷ []) m))
    ≡ Err (faults.fault (place 8) (what.UnknownParameter a_named (codes "nope")))
unfolding local_match take block_applied apply_block lines_added takes is_metaparameter
unknown_name m = refl

-- F15 at its line, of an instance that was evaluated
evaluated : (m : Environment) → shown (local_match 0 0
    (declared_as (record (row mode.Plain) { bound = Some [] } ∷ []) false m))
    ≡ Err (faults.fault (place 8) (what.AlreadySet (subject.Reference a_named) (codes "message")))
unfolding local_match take block_applied apply_block lines_added takes
evaluated m = refl

-- ---- on imports

abbrev import_a : ℕ → Step Bool
import_a c = import_match c (codes "web1") 2 (export a)

imported : (m : Environment) → settled (import_a 0 (declared_as [] true m)) ≡ Ok (true, message_is (codes "x") ∷ [])
unfolding import_match finds import_once import_rule tested kind_checked native_of natives.attributes_of settings_known known_checked declare_rule owner_at line_tests block_applied apply_block lines_added attributes_of after_lines names_within
imported m = refl

imported_once : (m : Environment) → settled (twice (import_a 0) (declared_as [] true m))
    ≡ Ok (false, message_is (codes "x") ∷ [])
unfolding import_match finds import_once import_rule tested kind_checked native_of natives.attributes_of settings_known known_checked declare_rule owner_at line_tests block_applied apply_block lines_added attributes_of after_lines names_within
imported_once m = refl

-- a collector whose resource another one imported declares nothing, and applies its block
by_another : (m : Environment)
    → settled (go_on (import_a 0 (with_rows [] (collector true all ∷ with_block true ∷ []) m)) (λ b. import_a 1))
    ≡ Ok (true, message_is (codes "x") ∷ [])
unfolding import_match finds import_once import_rule tested kind_checked native_of natives.attributes_of settings_known known_checked declare_rule owner_at line_tests block_applied apply_block lines_added attributes_of after_lines names_within
by_another m = refl

-- the block comes behind all tests of the import: F14 before its F10
block_last : (m : Environment) → shown (import_match 0 (codes "web1") 2 (export a) (with_rows (row mode.Plain ∷ [])
    (record (collector true all) { lines = sets (codes "nope") (codes "x") ∷ [] } ∷ []) m))
    ≡ refuses (what.Duplicate a_named (place 3))
unfolding import_match finds import_once import_rule tested kind_checked native_of natives.attributes_of settings_known known_checked declare_rule owner_at
block_last m = refl

-- ---- imports of defines

abbrev vhost_b : List ℕ → Resource
vhost_b name = resource (codes "vhost") (codes "b") ((name, d.text (codes "80")) ∷ [])

abbrev collects_vhosts : Collector
collects_vhosts = record (collector true all) { kind = codes "vhost" }

abbrev import_vhost : List ℕ → Step Bool
import_vhost name = import_match 0 (codes "web1") 2 (export (vhost_b name))

-- with what the define takes; and it is no declaration of a native type
a_define : settled (import_vhost (codes "port") (with_rows [] (collects_vhosts ∷ []) vhost))
    ≡ Ok (true, ((codes "port", d.text (codes "80")) ∷ []) ∷ [])
unfolding import_match finds import_once import_rule tested kind_checked native_of define_found definition_of settings_known known_checked declare_rule owner_at line_tests block_applied attributes_of after_lines names_within
a_define = refl

-- F10 at the place in the set
not_taken : shown (import_vhost (codes "nope") (with_rows [] (collects_vhosts ∷ []) vhost))
    ≡ refuses (what.UnknownParameter (record { kind = codes "vhost"; title = codes "b" }) (codes "nope"))
unfolding import_match finds import_once import_rule tested kind_checked native_of define_found definition_of settings_known known_checked is_metaparameter
not_taken = refl

-- a module's file with a fault gives that fault
abbrev faulty : Fault
faulty = faults.fault (place 4) what.Syntax

abbrev with_faulty_module : Environment
with_faulty_module = record {
  main = record { statements = []; definitions = [] };
  files = (codes "modules/vhost/manifests/init.pp", record { text = []; read = Err faulty }) ∷ [];
  site_data = [];
}

faulty_module : shown (import_vhost (codes "port") (with_rows [] (collects_vhosts ∷ []) with_faulty_module)) ≡ Err faulty
unfolding import_match finds import_once import_rule tested kind_checked native_of define_found definition_of segments
faulty_module = refl
