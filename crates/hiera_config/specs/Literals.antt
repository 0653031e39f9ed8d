-- Values in which nothing is interpolated: they ask for nothing, and stand for themselves.
use Rattle.std.specs.Prelude.{Bool, true, not, ◌&&◌, is_some, codes}
use Rattle.pp_values.specs.Datum.{Datum, text, list, hash, Data, no_data, datum, Entries, no_entries, entry, pairs_of}
use Rattle.pp_values.specs.Keys.{are_distinct}
use Rattle.hiera_config.specs.Cuts.{cut_at}

-- no text within has `%{`, and no two keys of a hash are the same
abbrev mutual
  pub is_literal : Datum → Bool
  is_literal (text t) = not (is_some (cut_at (codes "%{") t))
  is_literal (list ds) = are_literal ds
  is_literal (hash es) = are_literal_pairs es && are_distinct (pairs_of es)
  is_literal d = true

  pub are_literal : Data → Bool
  are_literal no_data = true
  are_literal (datum d ds) = is_literal d && are_literal ds

  pub are_literal_pairs : Entries → Bool
  are_literal_pairs no_entries = true
  are_literal_pairs (entry k v es) = is_literal k && (is_literal v && are_literal_pairs es)
