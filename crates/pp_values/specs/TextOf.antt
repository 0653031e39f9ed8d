-- The text of a value where it is interpolated.
use Rattle.std.specs.Prelude.{ℕ, ◌+◌, if◌then◌else◌, List, [], ◌++◌, codes}
use Rattle.std.specs.Fmt.{signed_decimal}
use Rattle.pp_values.specs.Datum.{Datum, undef, flag, int, text, list, hash, reference, kind, default, Data, no_data}
use Rattle.pp_values.specs.Datum.{datum, Entries, no_entries, entry}
use Rattle.pp_values.specs.Words.{before, quoted_reference_text}
use Rattle.pp_values.specs.SortText.{type_text}

abbrev mutual
  pub text_of : Datum → List ℕ
  text_of undef = []
  text_of (flag b) = if b then codes "true" else codes "false"
  text_of (int z) = signed_decimal z
  text_of (text t) = t
  text_of (list ds) = codes "[" ++ members_text 0 ds ++ codes "]"
  text_of (hash es) = codes "{" ++ entries_text 0 es ++ codes "}"
  text_of (reference r) = quoted_reference_text r
  text_of (kind s) = type_text s
  text_of default = codes "default"

  -- the members from member `n` on
  pub members_text : ℕ → Data → List ℕ
  members_text n no_data = []
  members_text n (datum d ds) = before n ++ text_of d ++ members_text (n + 1) ds

  -- the pairs from pair `n` on
  pub entries_text : ℕ → Entries → List ℕ
  entries_text n no_entries = []
  entries_text n (entry k v es) = before n ++ text_of k ++ codes " => " ++ text_of v ++ entries_text (n + 1) es
