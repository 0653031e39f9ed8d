-- Exact sameness: letter by letter, the case of letters and the order of a hash's pairs included.
use Rattle.std.specs.Prelude.{Bool, true, false, ◌&&◌}
use Rattle.std.specs.Bool.{beq}
use Rattle.std.specs.Ordering.{int_eq}
use Rattle.std.specs.Str.{bytes_eq}
use Rattle.pp_values.specs.References.{same_reference}
use Rattle.pp_values.specs.Sort.{same_type}
use Rattle.pp_values.specs.Datum.{Datum, undef, flag, int, text, list, hash, reference, kind, default, Data, no_data}
use Rattle.pp_values.specs.Datum.{datum, Entries, no_entries, entry, Pair}

abbrev mutual
  pub same : Datum → Datum → Bool
  same undef undef = true
  same (flag a) (flag b) = beq a b
  same (int a) (int b) = int_eq a b
  same (text a) (text b) = bytes_eq a b
  same (list a) (list b) = members_same a b
  same (hash a) (hash b) = entries_same a b
  same (reference a) (reference b) = same_reference a b
  same (kind a) (kind b) = same_type a b
  same default default = true
  same a b = false

  pub members_same : Data → Data → Bool
  members_same no_data no_data = true
  members_same (datum a ds) (datum b es) = same a b && members_same ds es
  members_same ds es = false

  pub entries_same : Entries → Entries → Bool
  entries_same no_entries no_entries = true
  entries_same (entry k v es) (entry l w fs) = (same k l && same v w) && entries_same es fs
  entries_same es fs = false

-- two pairs are the same
abbrev pub same_pair : Pair → Pair → Bool
same_pair p q = same p.0 q.0 && same p.1 q.1
