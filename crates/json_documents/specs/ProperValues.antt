-- What each value of the language is that a document has a form of.
use Rattle.std.specs.Prelude.{◌^◌, nat_lt, Bool, true, false, ◌&&◌, ◌||◌, ℤ, pos, negsuc, List}
use Rattle.std.specs.List.{list_all}
use Rattle.pp_values.specs.Datum.{Datum, undef, flag, int, text, list, hash, reference, kind, default, Data, no_data}
use Rattle.pp_values.specs.Datum.{datum, Entries, no_entries, entry, pairs_of}
use Rattle.pp_values.specs.Keys.{are_distinct}
use Rattle.pp_values.specs.Kinds.{is_kind}
use Rattle.pp_values.specs.Settings.{Setting}
use Rattle.json_values.specs.ValueForm.{is_plain}

-- an integer of 64 bits
abbrev pub is_integer : ℤ → Bool
is_integer (pos n) = nat_lt n (2 ^ 63)
is_integer (negsuc n) = nat_lt n (2 ^ 63)

-- Integers have 64 bits, references name kinds, no data type and no `default` is within, and no key of a hash stands
-- twice: its keys are names in order, or each is an integer or a text and no two are the same.
abbrev mutual
  pub is_proper : Datum → Bool
  is_proper undef = true
  is_proper (flag b) = true
  is_proper (int z) = is_integer z
  is_proper (text t) = true
  is_proper (list ds) = are_proper ds
  is_proper (hash es) = (is_plain es || are_distinct (pairs_of es)) && are_proper_pairs es
  is_proper (reference r) = is_kind r.kind
  is_proper (kind s) = false
  is_proper default = false

  pub are_proper : Data → Bool
  are_proper no_data = true
  are_proper (datum d ds) = is_proper d && are_proper ds

  pub are_proper_pairs : Entries → Bool
  are_proper_pairs no_entries = true
  are_proper_pairs (entry k v es) = is_proper k && (is_proper v && are_proper_pairs es)

-- of each name
abbrev pub have_proper : List Setting → Bool
have_proper = list_all (λ s. is_proper s.1)
