-- Values as a catalog has them: a data type and `default` are their texts, at any depth.
use Rattle.std.specs.Prelude.{List, map}
use Rattle.pp_values.specs.Datum.{Datum, text, list, hash, kind, default, Data, no_data, datum, Entries, no_entries}
use Rattle.pp_values.specs.Datum.{entry, Pair}
use Rattle.pp_values.specs.TextOf.{text_of}

abbrev mutual
  pub plain_of : Datum → Datum
  plain_of (list ds) = list (plain_members ds)
  plain_of (hash es) = hash (plain_entries es)
  plain_of (kind s) = text (text_of (kind s))
  plain_of default = text (text_of default)
  plain_of d = d

  pub plain_members : Data → Data
  plain_members no_data = no_data
  plain_members (datum d ds) = datum (plain_of d) (plain_members ds)

  pub plain_entries : Entries → Entries
  plain_entries no_entries = no_entries
  plain_entries (entry k v es) = entry (plain_of k) (plain_of v) (plain_entries es)

-- the same of pairs, one by one
abbrev pub plain_pair : Pair → Pair
plain_pair p = (plain_of p.0, plain_of p.1)

abbrev pub plain_pairs : List Pair → List Pair
plain_pairs = map plain_pair

abbrev pub plain_list : List Datum → List Datum
plain_list = map plain_of
