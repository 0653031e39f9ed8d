-- The language's `==`.
use Rattle.std.specs.Prelude.{ℕ, ◌+◌, ◌==◌, Bool, true, false, ◌&&◌, Option, None, Some, List}
use Rattle.std.specs.Bool.{beq}
use Rattle.std.specs.Ordering.{int_eq}
use Rattle.std.specs.Str.{str_eq_ignore_ascii_case}
use Rattle.pp_values.specs.References.{same_reference}
use Rattle.pp_values.specs.Sort.{same_type}
use Rattle.pp_values.specs.Datum.{Datum, undef, flag, int, text, list, hash, reference, kind, default, Data, no_data}
use Rattle.pp_values.specs.Datum.{datum, Entries, no_entries, entry, Pair, pairs_of}
use Rattle.pp_values.specs.Keys.{value_at}

-- there is a value, and it passes
abbrev pub passes : (Datum → Bool) → Option Datum → Bool
passes test None = false
passes test (Some d) = test d

abbrev pub entry_count : Entries → ℕ
entry_count no_entries = 0
entry_count (entry k v es) = entry_count es + 1

-- texts fold ASCII letters, lists compare member by member, hashes as maps whose keys are compared exactly,
-- references and data types exactly; values of unlike kinds are unequal
abbrev mutual
  pub equal : Datum → Datum → Bool
  equal undef undef = true
  equal (flag a) (flag b) = beq a b
  equal (int a) (int b) = int_eq a b
  equal (text a) (text b) = str_eq_ignore_ascii_case a b
  equal (list a) (list b) = members_equal a b
  equal (hash a) (hash b) = (entry_count a == entry_count b) && is_within a (pairs_of b)
  equal (reference a) (reference b) = same_reference a b
  equal (kind a) (kind b) = same_type a b
  equal default default = true
  equal a b = false

  pub members_equal : Data → Data → Bool
  members_equal no_data no_data = true
  members_equal (datum a ds) (datum b es) = equal a b && members_equal ds es
  members_equal ds es = false

  -- each key has an equal value among the pairs
  pub is_within : Entries → List Pair → Bool
  is_within no_entries ps = true
  is_within (entry k v es) ps = passes (equal v) (value_at k ps) && is_within es ps
