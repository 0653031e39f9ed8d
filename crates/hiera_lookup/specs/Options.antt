-- The merge that `lookup_options` gives for a key.
use Rattle.std.specs.Prelude.{ℕ, Bool, if◌then◌else◌, List, [], ◌∷◌, Option, Some, None, Ok, Err, codes}
use Rattle.std.specs.List.{list_any}
use Rattle.pp_values.specs.Datum.{Datum, text}
use Rattle.pp_values.specs.Keys.{same_key}
use Rattle.pp_values.specs.declared.fault.What.TheVariants as what
use Rattle.hiera_config.specs.Meant.{Meant, go_on}
use Rattle.hiera_config.specs.Sources.{Source}
use Rattle.hiera_merge.specs.declared.merge.Merge.{Merge}
use Rattle.hiera_merge.specs.declared.merge.Merge.TheVariants as by
use Rattle.hiera_merge.specs.Digging.{member}
use Rattle.hiera_merge.specs.Merges.{pairs_in}
use Rattle.hiera_merge.specs.Options.{merge_of}
use Rattle.hiera_lookup.specs.Filled.{Answer, answer_to, as_key, filled}
use Rattle.hiera_lookup.specs.World.{World}

abbrev pub options_key : List ℕ
options_key = codes "lookup_options"

-- the table has options for the root key, once its keys are filled in by these answers; nothing is looked up for that
abbrev pub has_options : World → List Answer → List ℕ → Datum → Bool
has_options w answers root table =
    list_any (λ p. same_key (text root) (as_key (filled w.reads (answer_to answers) p.0))) (pairs_in table)

-- the path of the highest data file that has options for the root key
abbrev pub highest_path : World → List Answer → List ℕ → List Source → List ℕ
highest_path w answers root [] = []
highest_path w answers root (s ∷ ss) = if has_options w answers root s.0 then s.1 else highest_path w answers root ss

unfoldable pub bad_options : World → Option (List ℕ) → List Answer → List ℕ → Meant Merge
bad_options w of_module answers root =
    go_on (w.had of_module options_key) (λ ss. Err (what.BadData (highest_path w answers root ss)))

abbrev pub or_bad : World → Option (List ℕ) → List Answer → List ℕ → Option Merge → Meant Merge
or_bad w of_module answers root (Some m) = Ok m
or_bad w of_module answers root None = bad_options w of_module answers root

abbrev pub of_options : World → Option (List ℕ) → List Answer → List ℕ → Option Datum → Meant Merge
of_options w of_module answers root None = Ok by.First
of_options w of_module answers root (Some options) = or_bad w of_module answers root (merge_of options)

-- by the merged tables, and what was found for the keys that these look up
unfoldable pub option_in : World → Option (List ℕ) → List ℕ → Option Datum × List Answer → Meant Merge
option_in w of_module root (None, answers) = Ok by.First
option_in w of_module root (Some table, answers) = of_options w of_module answers root (member root table)
