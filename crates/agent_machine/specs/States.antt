-- What a machine has recorded: properties by the text of a reference, such as `File[/a]`.
use Rattle.std.specs.Prelude.{ℕ, Bool, true, false, ◌&&◌, not, if◌then◌else◌, List, [], Option, None, Some, unwrap_or}
use Rattle.std.specs.Prelude.{codes}
use Rattle.std.specs.FinMap.{find, put}
use Rattle.std.specs.BTreeMap.{is_at}
use Rattle.std.specs.Map.{remove_entry, set_value}
use Rattle.std.specs.Str.{bytes_eq}
use Rattle.pp_values.specs.Datum.{Datum, flag, text}
use Rattle.pp_values.specs.Rising.{text_cmp}
use Rattle.pp_values.specs.Settings.{Setting}
use Rattle.pp_values.specs.Words.{reference_text}
use Rattle.pp_values.specs.declared.reference.Reference.{Reference}
use Rattle.pp_ops.specs.Same.{same}

-- a resource that is recorded has properties by name; both rise in byte order
abbrev pub State : Type 0
State = List (List ℕ × List Setting)

abbrev pub present : Datum
present = text (codes "present")

abbrev pub absent : Datum
absent = text (codes "absent")

abbrev pub is_ensure : List ℕ → Bool
is_ensure name = bytes_eq name (codes "ensure")

-- the record of a resource
abbrev pub record_of : Reference → State → Option (List Setting)
record_of what state = find text_cmp (reference_text what) state

-- The current `ensure`, which is the name of the property: without a recorded one what has a record is present, and
-- what has none is absent.
abbrev pub ensure_in : List ℕ → Option (List Setting) → Datum
ensure_in name None = absent
ensure_in name (Some properties) = unwrap_or (find text_cmp name properties) present

-- of a service's `ensure` the truth values count as words
abbrev pub service_word : Datum → Datum
service_word (flag true) = text (codes "running")
service_word (flag false) = text (codes "stopped")
service_word value = value

-- what a wanted `ensure` counts as
abbrev pub ensure_word : List ℕ → Datum → Datum
ensure_word kind value =
    if same value (text (codes "installed")) then present
    else (if bytes_eq kind (codes "service") then service_word value else value)

-- what a wanted value counts as: only that of `ensure` may count as another
abbrev pub counts_as : Reference → List ℕ → Datum → Datum
counts_as what name value = if is_ensure name then ensure_word what.kind value else value

-- where `present` is wanted, all but `absent` will do
abbrev pub is_ensured : Datum → Datum → Bool
is_ensured wanted current = if same wanted present then not (same current absent) else same current wanted

abbrev pub is_value : Datum → Option Datum → Bool
is_value wanted None = false
is_value wanted (Some value) = same value wanted

-- any other property is to be recorded exactly as it is wanted
abbrev pub is_recorded : List ℕ → Datum → Option (List Setting) → Bool
is_recorded name wanted None = false
is_recorded name wanted (Some properties) = is_value wanted (find text_cmp name properties)

-- whether the resource has the property at the wanted value
unfoldable pub has : Reference → List ℕ → Datum → State → Bool
has what name value state =
    if is_ensure name then is_ensured (ensure_word what.kind value) (ensure_in name (record_of what state))
    else is_recorded name value (record_of what state)

-- whether the write of a wanted value removes the record
abbrev pub removes : List ℕ → Datum → Bool
removes name value = is_ensure name && same value absent

abbrev pub is_key : List ℕ → List ℕ → Bool
is_key key = is_at (text_cmp key)

-- without the record of that text
abbrev pub without : List ℕ → State → State
without key state = remove_entry (is_key key) state

-- the state with this record
abbrev pub with_record : List ℕ → List ℕ → Datum → Option (List Setting) → State → State
with_record key name value (Some properties) state = set_value (is_key key) state (put text_cmp name value properties)
with_record key name value None state = put text_cmp key (put text_cmp name value []) state

-- the record has one more property, or another value of it; what has no record is given one
abbrev pub with_property : Reference → List ℕ → Datum → State → State
with_property what name value state = with_record (reference_text what) name value (record_of what state) state

-- the state after a write of the wanted value
unfoldable pub written : Reference → List ℕ → Datum → State → State
written what name value state =
    if removes name value then without (reference_text what) state
    else with_property what name (counts_as what name value) state
