-- What a document says of a plain value is said of no other.
use Rattle.std.proofs.Common.{◌≡◌, ℕ, ℤ, pos, negsuc, Bool, true, false, if◌then◌else◌, List, [], ◌∷◌, codes, refl, sym, ap, ap₂, ◌∙◌, true≢false}
use Rattle.std.proofs.lemmas.Slice.Eq.{bytes_eq-Decides}
use Rattle.std.specs.Cmp.{first_so, second_so}
use Rattle.std.specs.Str.{bytes_eq}
use Rattle.serde_json.specs.Data.{Num, unsigned, negative, float, Data, null, boolean, number, string, array, object, Items, no_items, item, Members, no_members, member}
use Rattle.serde_json.specs.Find.{of_integer}
use Rattle.json_values.specs.ValueForm.{form, list_form, pair_forms, member_forms, is_plain, is_plain_name, long_form, reference_form, setting_members}
use Rattle.pp_values.specs.Datum as d
use Rattle.pp_values.specs.Datum.{Datum, Entries, no_entries, entry}
use Rattle.pp_values.specs.Plain.{is_plain_value, are_plain_values, are_plain_pairs}
use Rattle.pp_values.specs.Settings.{Setting}
use Rattle.std.specs.List.{list_all}

abbrev integer_of : Num → ℤ
integer_of (unsigned n) = pos n
integer_of (negative z) = z
integer_of (float x) = pos 0

integer_back : (z : ℤ) → integer_of (of_integer z) ≡ z
integer_back (pos n) = refl
integer_back (negsuc n) = refl

-- an object with this key is the form of a reference, or of a hash whose keys are no names in order
abbrev marks : List ℕ → Bool
marks key = bytes_eq key (codes "__ptype")

-- the value that has this form, for what is one
abbrev mutual
  said : Data → Datum
  said null = d.undef
  said (boolean b) = d.flag b
  said (number n) = d.int (integer_of n)
  said (string s) = d.text s
  said (array ds) = d.list (said_items ds)
  said (object no_members) = d.hash no_entries
  said (object (member k e ms)) = if marks k then said_long ms else d.hash (entry (d.text k) (said e) (said_members ms))

  said_items : Items → d.Data
  said_items no_items = d.no_data
  said_items (item e ds) = d.datum (said e) (said_items ds)

  said_members : Members → Entries
  said_members no_members = no_entries
  said_members (member k e ms) = entry (d.text k) (said e) (said_members ms)

  said_long : Members → Datum
  said_long (member k (string kind) (member l (string title) no_members)) =
      d.reference (record { kind = kind; title = title })
  said_long (member k (array ds) no_members) = d.hash (said_pairs ds)
  said_long ms = d.undef

  said_pairs : Items → Entries
  said_pairs no_items = no_entries
  said_pairs (item k no_items) = no_entries
  said_pairs (item k (item v ds)) = entry (said k) (said v) (said_pairs ds)

-- a name has no such mark
unmarked : (t : List ℕ) → is_plain_name t ≡ true → marks t ≡ false
unmarked t h =
    elim (marks t) as (λ b. marks t ≡ b → b ≡ false) [
      | true ↦ λ e. absurd (true≢false (sym h ∙ ap is_plain_name ((bytes_eq-Decides t (codes "__ptype")).0 e)))
      | false ↦ λ e. refl
    ] refl

mutual
  unfolding long_form reference_form

  said_back : (v : Datum) → is_plain_value v ≡ true → said (form v) ≡ v
  said_back d.undef h = refl
  said_back (d.flag b) h = refl
  said_back (d.int z) h = ap d.int (integer_back z)
  said_back (d.text t) h = refl
  said_back (d.list ds) h = ap d.list (items_back ds h)
  said_back (d.hash es) h =
      elim (is_plain es) as (λ b. is_plain es ≡ b →
      said (if b then object (member_forms es) else long_form (array (pair_forms es))) ≡ d.hash es) [
        | true ↦ λ plain. object_back es plain h
        | false ↦ λ plain. ap d.hash (pairs_back es h)
      ] refl
  said_back (d.reference r) h = refl
  said_back (d.kind s) h = absurd cc
  said_back d.default h = absurd cc

  items_back : (ds : d.Data) → are_plain_values ds ≡ true → said_items (list_form ds) ≡ ds
  items_back d.no_data h = refl
  items_back (d.datum v ds) h =
      ap₂ d.datum (said_back v (first_so (is_plain_value v) _ h)) (items_back ds (second_so (is_plain_value v) _ h))

  pairs_back : (es : Entries) → are_plain_pairs es ≡ true → said_pairs (pair_forms es) ≡ es
  pairs_back no_entries h = refl
  pairs_back (entry k v es) h =
      let rest = second_so (is_plain_value k) _ h in λ i.
      entry (said_back k (first_so (is_plain_value k) _ h) i) (said_back v (first_so (is_plain_value v) _ rest) i)
      (pairs_back es (second_so (is_plain_value v) _ rest) i)

  members_back : (es : Entries) → is_plain es ≡ true → are_plain_pairs es ≡ true → said_members (member_forms es) ≡ es
  members_back no_entries p h = refl
  members_back (entry (d.text t) v es) p h =
      ap₂ (λ w ws. entry (d.text t) w ws) (said_back v (first_so (is_plain_value v) _ h))
      (members_back es (second_so _ _ (second_so (is_plain_name t) _ p)) (second_so (is_plain_value v) _ h))
  members_back (entry d.undef v es) p h = absurd cc
  members_back (entry (d.flag b) v es) p h = absurd cc
  members_back (entry (d.int z) v es) p h = absurd cc
  members_back (entry (d.list ds) v es) p h = absurd cc
  members_back (entry (d.hash fs) v es) p h = absurd cc
  members_back (entry (d.reference r) v es) p h = absurd cc
  members_back (entry (d.kind s) v es) p h = absurd cc
  members_back (entry d.default v es) p h = absurd cc

  object_back : (es : Entries) → is_plain es ≡ true → are_plain_pairs es ≡ true →
      said (object (member_forms es)) ≡ d.hash es
  object_back no_entries p h = refl
  object_back (entry (d.text t) v es) p h =
      ap (λ b. if b then said_long (member_forms es)
      else d.hash (entry (d.text t) (said (form v)) (said_members (member_forms es))))
      (unmarked t (first_so (is_plain_name t) _ p))
      ∙ ap d.hash (ap₂ (λ w ws. entry (d.text t) w ws) (said_back v (first_so (is_plain_value v) _ h))
      (members_back es (second_so _ _ (second_so (is_plain_name t) _ p)) (second_so (is_plain_value v) _ h)))
  object_back (entry d.undef v es) p h = absurd cc
  object_back (entry (d.flag b) v es) p h = absurd cc
  object_back (entry (d.int z) v es) p h = absurd cc
  object_back (entry (d.list ds) v es) p h = absurd cc
  object_back (entry (d.hash fs) v es) p h = absurd cc
  object_back (entry (d.reference r) v es) p h = absurd cc
  object_back (entry (d.kind s) v es) p h = absurd cc
  object_back (entry d.default v es) p h = absurd cc

-- ---- attributes

abbrev pub settings_said : Members → List Setting
settings_said no_members = []
settings_said (member k e ms) = (k, said e) ∷ settings_said ms

pub settings_back : (ss : List Setting) → list_all (λ s. is_plain_value s.1) ss ≡ true → settings_said (setting_members ss) ≡ ss
settings_back [] h = refl
settings_back (s ∷ ss) h =
    ap₂ (λ v rest. (s.0, v) ∷ rest) (said_back s.1 (first_so (is_plain_value s.1) _ h))
    (settings_back ss (second_so (is_plain_value s.1) _ h))
