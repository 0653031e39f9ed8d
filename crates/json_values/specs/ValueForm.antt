-- A value as JSON.
use Rattle.std.specs.Prelude.{ℕ, Bool, true, false, ◌&&◌, not, if◌then◌else◌, nat_eq, List, [], ◌∷◌, codes}
use Rattle.std.specs.List.{starts_with}
use Rattle.serde_json.specs.Data.{Data, null, boolean, number, string, array, object, Items, no_items, item, Members}
use Rattle.serde_json.specs.Data.{no_members, member, put}
use Rattle.serde_json.specs.Find.{of_integer}
use Rattle.pp_values.specs.Datum as d
use Rattle.pp_values.specs.Datum.{Datum, Pair, Entries, no_entries, entry}
use Rattle.pp_values.specs.Rising.{precedes}
use Rattle.pp_values.specs.Settings.{Setting}

-- the text is a key of a short form: it does not begin with `__p`
abbrev pub is_plain_name : List ℕ → Bool
is_plain_name t = not (starts_with nat_eq t (codes "__p"))

-- the keys are texts, none begins with `__p`, and each is below the next
abbrev pub first_key : Entries → List (List ℕ)
first_key no_entries = []
first_key (entry (d.text t) v es) = t ∷ []
first_key (entry k v es) = []

abbrev pub is_plain : Entries → Bool
is_plain no_entries = true
is_plain (entry (d.text t) v es) = is_plain_name t && (precedes t (first_key es) && is_plain es)
is_plain (entry k v es) = false

-- a reference: its kind in lower case, its title as it is
unfoldable pub reference_form : List ℕ → List ℕ → Data
reference_form kind title =
    object (member (codes "__ptype") (string (codes "Ref"))
    (member (codes "kind") (string kind) (member (codes "title") (string title) no_members)))

-- a hash whose keys are no names in order: its keys and values in turn
unfoldable pub long_form : Data → Data
long_form items = object (member (codes "__ptype") (string (codes "Hash")) (member (codes "__pvalue") items no_members))

-- A data type and the literal `default` have no form of their own; `null` stands in their place.
abbrev mutual
  pub form : Datum → Data
  form d.undef = null
  form (d.flag b) = boolean b
  form (d.int z) = number (of_integer z)
  form (d.text t) = string t
  form (d.list ds) = array (list_form ds)
  form (d.hash es) = if is_plain es then object (member_forms es) else long_form (array (pair_forms es))
  form (d.reference r) = reference_form r.kind r.title
  form (d.kind s) = null
  form d.default = null

  pub list_form : d.Data → Items
  list_form d.no_data = no_items
  list_form (d.datum x xs) = item (form x) (list_form xs)

  pub pair_forms : Entries → Items
  pair_forms no_entries = no_items
  pair_forms (entry k v es) = item (form k) (item (form v) (pair_forms es))

  pub member_forms : Entries → Members
  member_forms no_entries = no_members
  member_forms (entry (d.text t) v es) = member t (form v) (member_forms es)
  member_forms (entry k v es) = no_members

-- each key's form and its value's, in turn
abbrev pub pair_data : List Pair → List Data
pair_data [] = []
pair_data (p ∷ ps) = form p.0 ∷ form p.1 ∷ pair_data ps

-- the pairs up to the first key that is no text, as settings
abbrev pub plain_settings : Entries → List Setting
plain_settings no_entries = []
plain_settings (entry (d.text t) v es) = (t, v) ∷ plain_settings es
plain_settings (entry k v es) = []

-- settings as the members of an object, in their order
abbrev pub setting_members : List Setting → Members
setting_members [] = no_members
setting_members (s ∷ ss) = member s.0 (form s.1) (setting_members ss)

-- the settings put into an object's members one after another
abbrev pub put_all : List Setting → Members → Members
put_all [] ms = ms
put_all (s ∷ ss) ms = put_all ss (put s.0 (form s.1) ms)
