-- Facts: a hash whose keys are texts in rising byte order, and whose members are Undef, truth values, integers, texts,
-- lists of such members, and such hashes.
use Rattle.std.specs.Prelude.{ℕ, Bool, true, false, ◌&&◌, List}
use Rattle.std.specs.Ordering.{is_lt}
use Rattle.pp_values.specs.Datum.{Datum, undef, flag, int, text, list, hash, Data, no_data, datum, Entries, no_entries}
use Rattle.pp_values.specs.Datum.{entry}
use Rattle.pp_values.specs.Rising.{text_cmp}

-- the first of the keys, if there is one, is a text above this one
abbrev pub is_next_above : List ℕ → Entries → Bool
is_next_above key no_entries = true
is_next_above key (entry (text next) d es) = is_lt (text_cmp key next)
is_next_above key (entry k d es) = false

abbrev mutual
  -- a member of facts
  pub is_fact : Datum → Bool
  is_fact undef = true
  is_fact (flag b) = true
  is_fact (int z) = true
  is_fact (text t) = true
  is_fact (list ds) = are_members ds
  is_fact (hash es) = are_pairs es
  is_fact d = false

  pub are_members : Data → Bool
  are_members no_data = true
  are_members (datum d ds) = is_fact d && are_members ds

  -- the keys are texts in rising byte order
  pub are_pairs : Entries → Bool
  are_pairs no_entries = true
  are_pairs (entry (text key) d es) = is_fact d && (is_next_above key es && are_pairs es)
  are_pairs (entry k d es) = false

abbrev pub are_facts : Datum → Bool
are_facts (hash es) = are_pairs es
are_facts d = false
