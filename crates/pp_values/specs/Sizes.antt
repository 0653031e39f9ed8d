-- A size by which a recursion over a value ends: each member, key and value is smaller than the whole.
use Rattle.std.specs.Prelude.{ℕ, ◌+◌, List, [], ◌∷◌}
use Rattle.pp_values.specs.Sort.{sort_size}
use Rattle.pp_values.specs.Datum.{Datum, list, hash, kind, Data, no_data, datum, Entries, no_entries, entry, Pair}

abbrev mutual
  pub datum_size : Datum → ℕ
  datum_size (list ds) = inner_size ds + 1
  datum_size (hash es) = entries_size es + 1
  datum_size (kind s) = sort_size s + 1
  datum_size d = 0

  pub inner_size : Data → ℕ
  inner_size no_data = 0
  inner_size (datum d ds) = datum_size d + inner_size ds + 1

  pub entries_size : Entries → ℕ
  entries_size no_entries = 0
  entries_size (entry k v es) = datum_size k + datum_size v + entries_size es + 1

abbrev pub data_size : List Datum → ℕ
data_size [] = 0
data_size (d ∷ ds) = datum_size d + data_size ds + 1

abbrev pub pairs_size : List Pair → ℕ
pairs_size [] = 0
pairs_size (p ∷ ps) = datum_size p.0 + datum_size p.1 + pairs_size ps + 1
