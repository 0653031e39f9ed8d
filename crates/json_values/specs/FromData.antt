-- JSON data as a value.
use Rattle.std.specs.Prelude.{◌≡◌, ⊤, ℤ, Option, Some, None, option_map, Result, Ok, Err}
use Rattle.serde_json.specs.Data as j
use Rattle.serde_json.specs.Find.{as_i64}
use Rattle.pp_values.specs.Datum.{Datum, undef, flag, int, text, list, hash, Data, no_data, datum, Entries, no_entries}
use Rattle.pp_values.specs.Datum.{entry}
use Rattle.json_values.specs.declared.stops.Numbers.{Numbers}
use Rattle.json_values.specs.declared.stops.Numbers.TheVariants as numbers
use Rattle.json_values.specs.declared.stops.DataStop.{DataStop}
use Rattle.json_values.specs.declared.stops.DataStop.TheVariants as stop

-- a number: the 64-bit integer that it is, if it is one
abbrev pub number_value : Numbers → Option ℤ → Option Datum
number_value mode (Some z) = Some (int z)
number_value numbers.Lenient None = Some undef
number_value numbers.Strict None = None

-- both, where there are both
abbrev pub both : {A B C : Type 0} → (A → B → C) → Option A → Option B → Option C
both make None b = None
both make (Some a) b = option_map (make a) b

-- None where a number is no 64-bit integer and that is refused
abbrev mutual
  pub data_value : Numbers → j.Data → Option Datum
  data_value m j.null = Some undef
  data_value m (j.boolean b) = Some (flag b)
  data_value m (j.number n) = number_value m (as_i64 n)
  data_value m (j.string s) = Some (text s)
  data_value m (j.array ds) = option_map list (item_values m ds)
  data_value m (j.object ms) = option_map hash (member_values m ms)

  pub item_values : Numbers → j.Items → Option Data
  item_values m j.no_items = Some no_data
  item_values m (j.item d ds) = both datum (data_value m d) (item_values m ds)

  -- keys keep their order, which is that of their bytes
  pub member_values : Numbers → j.Members → Option Entries
  member_values m j.no_members = Some no_entries
  member_values m (j.member k d ms) = both (entry (text k)) (data_value m d) (member_values m ms)

-- exactly what is meant, unless memory ran out
abbrev pub IsData : {A V : Type 0} → (V → A) → Result V DataStop → Option A → Type 0
IsData shown (Ok v) meant = meant ≡ Some (shown v)
IsData shown (Err stop.Number) meant = meant ≡ None
IsData shown (Err stop.Memory) meant = ⊤
