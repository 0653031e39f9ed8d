-- Where keys stand in a list of pairs, as the code holds it; no contract of a public call speaks of it.
use Rattle.std.specs.Prelude.{◌≡◌, ℕ, Option, None, List}
use Rattle.std.specs.BTreeMap.{get}
use Rattle.std.specs.Ordering.{int_cmp}
use Rattle.pp_values.specs.Datum.{Datum, int, text, Pair}
use Rattle.pp_values.specs.Places.{place_of}
use Rattle.pp_values.specs.Rising.{text_cmp}
use Rattle.hiera_merge.specs.declared.key_places.KeyPlaces.{KeyPlaces}

-- where the pair of a key stands, by tables of numbers and of texts
abbrev pub placed : Datum → KeyPlaces → Option ℕ
placed (int z) places = get int_cmp places.numbers z
placed (text t) places = get text_cmp places.texts t
placed d places = None

-- the tables have the places of these
abbrev pub ArePlaced : KeyPlaces → List Pair → Type 0
ArePlaced places ps = (k : Datum) → placed k places ≡ place_of k ps
