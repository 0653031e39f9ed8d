-- The machine that a JSON value says in any spelling, as the member `machine` of a bundle, or the path of what is wrong
-- with it. Of several such paths it is the first in the order of the members: what fails, and then the state.
use Rattle.std.specs.Prelude.{◌≡◌, ⊤, ℕ, is_some, List, [], ◌∷◌, ◌++◌, length, codes, decimal, Option, Some, None}
use Rattle.std.specs.Prelude.{Result, Ok, Err, if◌then◌else◌}
use Rattle.std.specs.FinMap.{put}
use Rattle.std.specs.Option.{ok_or}
use Rattle.serde_json.specs.Data.{Data, Items, no_items, item, Members, no_members, member}
use Rattle.serde_json.specs.Find.{get, as_array, as_object, as_str}
use Rattle.pp_values.specs.Datum.{Datum}
use Rattle.pp_values.specs.Rising.{text_cmp}
use Rattle.pp_values.specs.Settings.{Setting}
use Rattle.json_values.specs.Forms.{value_of}
use Rattle.agent_machine.specs.States.{State}
use Rattle.agent_machine.specs.declared.machine_doc.MachineDoc.{MachineDoc}
use Rattle.agent_docs.specs.declared.machine_stop.MachineStop.{MachineStop}
use Rattle.agent_docs.specs.declared.machine_stop.MachineStop.TheVariants as stop

-- what comes next, unless a path was refused
abbrev pub result_and_then : {A B : Type 0} → (A → Result B (List ℕ)) → Result A (List ℕ) → Result B (List ℕ)
result_and_then f (Ok x) = f x
result_and_then f (Err path) = Err path

-- the path of what stands under this key
abbrev pub under : List ℕ → List ℕ → List ℕ
under path key = path ++ (codes "." ++ key)

abbrev pub failing_path : ℕ → List ℕ
failing_path index = under (codes "machine.failing") (decimal index)

abbrev pub record_path : List ℕ → List ℕ
record_path key = under (codes "machine.state") key

-- ---- what fails: a list of texts

abbrev pub failing_text : ℕ → Data → Result (List ℕ) (List ℕ)
failing_text index d = ok_or (as_str d) (failing_path index)

-- the texts that were found, and those of the items behind them
unfoldable pub texts_from : List (List ℕ) → Items → Result (List (List ℕ)) (List ℕ)
texts_from found no_items = Ok found
texts_from found (item d ds) =
    result_and_then (λ t. texts_from (found ++ t ∷ []) ds) (failing_text (length found) d)

abbrev pub all_failing : Data → Result (List (List ℕ)) (List ℕ)
all_failing d = result_and_then (texts_from []) (ok_or (as_array d) (codes "machine.failing"))

abbrev pub given_failing : Option Data → Result (List (List ℕ)) (List ℕ)
given_failing None = Ok []
given_failing (Some d) = all_failing d

-- ---- the state: an object of objects, in which stand forms of values

abbrev pub property_value : List ℕ → List ℕ → Data → Result Datum (List ℕ)
property_value key name d = ok_or (value_of d) (under (record_path key) name)

-- the properties of a record with the one of this name
abbrev pub with_property : List ℕ → List Setting → List ℕ → Data → Result (List Setting) (List ℕ)
with_property key properties name d =
    result_and_then (λ v. Ok (put text_cmp name v properties)) (property_value key name d)

-- the properties with these, one after another
unfoldable pub with_properties : List ℕ → Members → List Setting → Result (List Setting) (List ℕ)
with_properties key no_members properties = Ok properties
with_properties key (member name d ms) properties =
    result_and_then (with_properties key ms) (with_property key properties name d)

abbrev pub all_properties : List ℕ → Data → Result (List Setting) (List ℕ)
all_properties key d = result_and_then (λ ms. with_properties key ms []) (ok_or (as_object d) (record_path key))

-- the state with the record of this text
abbrev pub with_record : State → List ℕ → Data → Result State (List ℕ)
with_record state key d = result_and_then (λ properties. Ok (put text_cmp key properties state)) (all_properties key d)

-- the state with these records, one after another
unfoldable pub with_records : Members → State → Result State (List ℕ)
with_records no_members state = Ok state
with_records (member key d ms) state = result_and_then (with_records ms) (with_record state key d)

abbrev pub all_records : Data → Result State (List ℕ)
all_records d = result_and_then (λ ms. with_records ms []) (ok_or (as_object d) (codes "machine.state"))

abbrev pub given_state : Option Data → Result State (List ℕ)
given_state None = Ok []
given_state (Some d) = all_records d

-- ---- the machine

unfoldable pub members_said : Data → Result MachineDoc (List ℕ)
members_said d =
    result_and_then (λ failing. result_and_then (λ state. Ok (record { failing = failing; state = state }))
    (given_state (get (codes "state") d))) (given_failing (get (codes "failing") d))

-- A machine is an object. What is not given is none, and other members do not count.
abbrev pub machine_said : Data → Result MachineDoc (List ℕ)
machine_said d = if is_some (as_object d) then members_said d else Err (codes "machine")

-- what is meant is this refusal, unless memory ran out
abbrev pub Refuses : {A : Type 0} → MachineStop → Result A (List ℕ) → Type 0
Refuses (stop.Bad path) meant = meant ≡ Err path
Refuses stop.Memory meant = ⊤

-- exactly what is meant, where a value is seen as `shown` says, unless memory ran out
abbrev pub SaysAs : {A B : Type 0} → (A → B) → Result A MachineStop → Result B (List ℕ) → Type 0
SaysAs shown (Ok x) meant = meant ≡ Ok (shown x)
SaysAs shown (Err s) meant = Refuses s meant

abbrev pub Says : {A : Type 0} → Result A MachineStop → Result A (List ℕ) → Type 0
Says result meant = SaysAs (λ x. x) result meant

-- a refusal is this path, unless memory ran out
abbrev pub Tells : MachineStop → List ℕ → Type 0
Tells (stop.Bad path) meant = meant ≡ path
Tells stop.Memory meant = ⊤
