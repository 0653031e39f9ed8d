-- Where the answers for keys stand, as the code holds it; no contract of a public call speaks of it.
use Rattle.std.specs.Prelude.{◌≡◌, ℕ, suc, if◌then◌else◌, Option, None, Some, option_map, List, [], ◌∷◌}
use Rattle.std.specs.BTreeMap.{BTreeMap, get}
use Rattle.std.specs.Str.{bytes_eq}
use Rattle.pp_values.specs.Rising.{text_cmp}
use Rattle.hiera_lookup.specs.Filled.{Answer}

-- the first answer for a key
abbrev pub place_for : List Answer → List ℕ → Option ℕ
place_for [] key = None
place_for (a ∷ more) key = if bytes_eq a.0 key then Some 0 else option_map suc (place_for more key)

abbrev pub ArePlaced : BTreeMap (List ℕ) ℕ → List Answer → Type 0
ArePlaced places answers = (key : List ℕ) → get text_cmp places key ≡ place_for answers key
