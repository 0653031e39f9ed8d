-- Where the keys of a large hash stand, as the code holds it.
use Rattle.std.specs.Prelude.{◌≡◌, ℕ, ℤ, Option, None, List}
use Rattle.std.specs.BTreeMap.{BTreeMap, get}
use Rattle.std.specs.Ordering.{int_cmp}
use Rattle.pp_values.specs.Datum.{Datum, int, text, Pair}
use Rattle.pp_values.specs.Places.{place_of}
use Rattle.pp_values.specs.Rising.{text_cmp}

-- where the pair of a key stands, by maps of numbers and of texts
abbrev pub placed : Datum → BTreeMap ℤ ℕ → BTreeMap (List ℕ) ℕ → Option ℕ
placed (int z) numbers texts = get int_cmp numbers z
placed (text t) numbers texts = get text_cmp texts t
placed d numbers texts = None

-- the maps have the places of these
abbrev pub ArePlaced : BTreeMap ℤ ℕ → BTreeMap (List ℕ) ℕ → List Pair → Type 0
ArePlaced numbers texts ps = (k : Datum) → placed k numbers texts ≡ place_of k ps
