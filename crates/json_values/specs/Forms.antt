-- Which value has a form, and which value a form is of.
use Rattle.std.specs.Prelude.{◌≡◌, ⊤, ℕ, Bool, true, false, ◌&&◌, not, if◌then◌else◌, List, [], ◌∷◌, Option, Some, None}
use Rattle.std.specs.Prelude.{option_map, option_and_then, Result, Ok, Err, codes}
use Rattle.std.specs.Str.{bytes_eq}
use Rattle.serde_json.specs.Data as j
use Rattle.serde_json.specs.Find.{as_i64}
use Rattle.pp_values.specs.Datum.{Datum, undef, flag, int, text, list, hash, reference, kind, default, Data, no_data}
use Rattle.pp_values.specs.Datum.{datum, Entries, no_entries, entry, Pair, pairs_of}
use Rattle.pp_values.specs.Keys.{are_distinct}
use Rattle.pp_values.specs.Kinds.{kind_of}
use Rattle.pp_values.specs.Plain.{is_plain_value}
use Rattle.json_values.specs.FromData.{both}
use Rattle.json_values.specs.ValueForm.{form, is_plain}
use Rattle.json_values.specs.declared.stops.FormStop.{FormStop}
use Rattle.json_values.specs.declared.stops.FormStop.TheVariants as stop

-- the form of a value with no data type and no `default` within, which are those that have one
abbrev pub form_of : Datum → Option j.Data
form_of d = if is_plain_value d then Some (form d) else None

-- ---- the value that a form is of

abbrev pub guard : {A : Type 0} → Bool → Option A → Option A
guard holds next = if holds then next else None

-- the hash of these keys and values in turn, where each key is one, none stands twice, and they are no names in order
abbrev pub in_turn : Data → Option Entries
in_turn no_data = Some no_entries
in_turn (datum k no_data) = None
in_turn (datum k (datum v ds)) = option_map (entry k v) (in_turn ds)

abbrev pub long_hash : Entries → Option Datum
long_hash es = guard (are_distinct (pairs_of es) && not (is_plain es)) (Some (hash es))

abbrev pub hash_in_turn : Datum → Option Datum
hash_in_turn (list ds) = option_and_then long_hash (in_turn ds)
hash_in_turn d = None

-- the reference of this kind, in lower case, and title
abbrev pub reference_to : List ℕ → List ℕ → Datum
reference_to name title = reference (record { kind = name; title = title })

abbrev pub reference_of : Datum → Datum → Option Datum
reference_of (text k) (text t) = option_map (λ name. reference_to name t) (kind_of k)
reference_of k t = None

abbrev pub is_text : List ℕ → Datum → Bool
is_text t (text u) = bytes_eq u t
is_text t d = false

-- the names and values of a long form
abbrev pub is_long : List Pair → Bool
is_long (m ∷ v ∷ []) = is_text (codes "__ptype") m.0 && (is_text (codes "Hash") m.1 && is_text (codes "__pvalue") v.0)
is_long ps = false

abbrev pub last_value : List Pair → Datum
last_value [] = undef
last_value (p ∷ []) = p.1
last_value (p ∷ q ∷ ps) = last_value (q ∷ ps)

-- the members of an object of three
abbrev pub three : List Pair → Option (Pair × (Pair × Pair))
three (m ∷ k ∷ t ∷ []) = Some (m, (k, t))
three ps = None

abbrev pub is_reference : Pair → Pair → Pair → Bool
is_reference m k t =
    is_text (codes "__ptype") m.0
    && (is_text (codes "Ref") m.1 && (is_text (codes "kind") k.0 && is_text (codes "title") t.0))

abbrev pub reference_in : Pair × (Pair × Pair) → Option Datum
reference_in ms = guard (is_reference ms.0 ms.1.0 ms.1.1) (reference_of ms.1.0.1 ms.1.1.1)

abbrev pub marked_reference : List Pair → Option Datum
marked_reference ps = option_and_then reference_in (three ps)

abbrev pub marked_value : List Pair → Option Datum
marked_value ps = if is_long ps then hash_in_turn (last_value ps) else marked_reference ps

-- What an object stands for, by its names and what stands at each: a hash where the names are in order and none begins
-- with `__p`, or else what its member `__ptype` says.
abbrev pub object_value : Entries → Option Datum
object_value es = if is_plain es then Some (hash es) else marked_value (pairs_of es)

abbrev mutual
  -- None where no value has this form
  pub value_of : j.Data → Option Datum
  value_of j.null = Some undef
  value_of (j.boolean b) = Some (flag b)
  value_of (j.number n) = option_map int (as_i64 n)
  value_of (j.string s) = Some (text s)
  value_of (j.array ds) = option_map list (values_of ds)
  value_of (j.object ms) = option_and_then object_value (members_of ms)

  pub values_of : j.Items → Option Data
  values_of j.no_items = Some no_data
  values_of (j.item d ds) = both datum (value_of d) (values_of ds)

  pub members_of : j.Members → Option Entries
  members_of j.no_members = Some no_entries
  members_of (j.member k d ms) = both (entry (text k)) (value_of d) (members_of ms)

-- exactly what is meant, unless memory ran out
abbrev pub IsForm : {A V : Type 0} → (V → A) → Result V FormStop → Option A → Type 0
IsForm shown (Ok v) meant = meant ≡ Some (shown v)
IsForm shown (Err stop.NoForm) meant = meant ≡ None
IsForm shown (Err stop.Memory) meant = ⊤
