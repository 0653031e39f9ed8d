-- What the sources have for a key: merged by its root key, and dug by the steps behind it.
use Rattle.std.specs.Prelude.{ℕ, List, [], ◌∷◌, Option, Some, None, Ok, Err, map}
use Rattle.pp_values.specs.Datum.{Datum}
use Rattle.pp_values.specs.declared.fault.What.TheVariants as what
use Rattle.hiera_config.specs.Meant.{Meant, go_on}
use Rattle.hiera_config.specs.Sources.{Source}
use Rattle.hiera_merge.specs.declared.merge.Merge.{Merge}
use Rattle.hiera_merge.specs.Digging.{parts, root, steps, dug}
use Rattle.hiera_merge.specs.Merges.{merged}
use Rattle.hiera_lookup.specs.World.{World}

abbrev pub root_of : List ℕ → List ℕ
root_of key = root (parts key)

abbrev pub steps_of : List ℕ → List (List ℕ)
steps_of key = steps (parts key)

-- a merge that does not take the values is a fault of the whole key
abbrev pub dug_or_refused : List ℕ → Option Datum → Meant (Option Datum)
dug_or_refused key None = Err (what.MergeMismatch key)
dug_or_refused key (Some d) = Ok (dug (steps_of key) d)

unfoldable pub found_in : List ℕ → Merge → List Source → Meant (Option Datum)
found_in key merge [] = Ok None
found_in key merge (high ∷ lower) = dug_or_refused key (merged merge high.0 (map (λ s. s.0) lower))

unfoldable pub found : World → Option (List ℕ) → List ℕ → Merge → Meant (Option Datum)
found w of_module key merge = go_on (w.had of_module (root_of key)) (found_in key merge)
