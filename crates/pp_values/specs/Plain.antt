-- Plain values: those with no data type and no `default` within. Documents have a form of them, and of no others.
use Rattle.std.specs.Prelude.{Bool, true, false, ◌&&◌}
use Rattle.pp_values.specs.Datum.{Datum, undef, flag, int, text, list, hash, reference, kind, default, Data, no_data}
use Rattle.pp_values.specs.Datum.{datum, Entries, no_entries, entry}

abbrev mutual
  pub is_plain_value : Datum → Bool
  is_plain_value undef = true
  is_plain_value (flag b) = true
  is_plain_value (int z) = true
  is_plain_value (text t) = true
  is_plain_value (list ds) = are_plain_values ds
  is_plain_value (hash es) = are_plain_pairs es
  is_plain_value (reference r) = true
  is_plain_value (kind s) = false
  is_plain_value default = false

  pub are_plain_values : Data → Bool
  are_plain_values no_data = true
  are_plain_values (datum d ds) = is_plain_value d && are_plain_values ds

  pub are_plain_pairs : Entries → Bool
  are_plain_pairs no_entries = true
  are_plain_pairs (entry k v es) = is_plain_value k && (is_plain_value v && are_plain_pairs es)
