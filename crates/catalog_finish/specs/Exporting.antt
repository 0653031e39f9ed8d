-- What a node exports.
use Rattle.std.specs.Prelude.{Bool, true, false, not, if◌then◌else◌, List, [], ◌++◌, find, Option, None, Some}
use Rattle.std.specs.Prelude.{option_to_list, Result, Ok, Err}
use Rattle.pp_values.specs.Answers.{and_then, in_turn}
use Rattle.pp_values.specs.Faults.{fault}
use Rattle.pp_values.specs.Plain.{is_plain_value}
use Rattle.pp_values.specs.Settings.{Setting}
use Rattle.pp_values.specs.declared.fault.Fault.{Fault}
use Rattle.pp_values.specs.declared.fault.What.TheVariants.{TypeMismatch}
use Rattle.res_core.specs.declared.exported.Exported.{Exported}
use Rattle.res_book.specs.declared.mode.Mode.{Mode}
use Rattle.res_book.specs.declared.mode.Mode.TheVariants as mode
use Rattle.res_book.specs.declared.row.Row.{Row}
use Rattle.override_rules.specs.Meaning.{State}
use Rattle.catalog_finish.specs.Attributes.{exported_attributes}
use Rattle.catalog_finish.specs.Catalogs.{resource_with}

-- declared by `@@`, live or not; what was imported is not
abbrev pub is_exported : Mode → Bool
is_exported mode.Plain = false
is_exported mode.Virtual = false
is_exported mode.Exported = true
is_exported (mode.Imported node place) = false

abbrev pub export_with : Row → List Setting → Exported
export_with r ss = record { node_place = r.declared.at; item = resource_with r.declared ss }

-- F8 names the attribute, and stands where the resource is declared
abbrev pub export_tested : Row → List Setting → Option Setting → Result Exported Fault
export_tested r ss None = Ok (export_with r ss)
export_tested r ss (Some a) = Err (fault r.declared.at (TypeMismatch a.0))

-- no data type and no `default` is within what it is set to; the first attribute of which that isn't so is told
abbrev pub exported_resource : Row → List Setting → Result Exported Fault
exported_resource r ss = export_tested r ss (find (λ a. not (is_plain_value a.1)) ss)

abbrev pub some_export : Result Exported Fault → Result (Option Exported) Fault
some_export result = and_then result (λ e. Ok (Some e))

abbrev pub export_of : State → Row → Result (Option Exported) Fault
export_of s r = if is_exported r.mode then some_export (exported_resource r (exported_attributes s r)) else Ok None

abbrev pub export_step : State → List Exported → Row → Result (List Exported) Fault
export_step s done r = and_then (export_of s r) (λ o. Ok (done ++ option_to_list o))

-- all exported declarations in their order
abbrev pub exports : State → List Row → Result (List Exported) Fault
exports s rows = in_turn (export_step s) [] rows
