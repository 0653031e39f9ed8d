-- The table by which a resource of the same name is found without going over all.
use Rattle.std.specs.Prelude.{◌≡◌, ℕ, suc, cond, Option, None, Some, List, [], ◌∷◌, ◌++◌, codes, option_to_list}
use Rattle.std.specs.Prelude.{slice_get}
use Rattle.std.specs.BTreeMap.{BTreeMap, get}
use Rattle.std.specs.Cmp.Lexicographic.{slice_cmp}
use Rattle.std.specs.Ordering.{nat_cmp}
use Rattle.std.specs.Str.{bytes_eq}
use Rattle.std.specs.declared.alloc.Global.{Global}
use Rattle.std.specs.declared.vec.Vec.{Vec}
use Rattle.pp_values.specs.Datum.{Datum, text}
use Rattle.catalog_finish.specs.Naming.{Called}

-- the letters of a text; what is no text has none
abbrev pub letters : Datum → List ℕ
letters (text t) = t
letters d = []

-- Resources of one name have one key, and hardly any others have.
abbrev pub key : Called → List ℕ
key c = (((c.kind ++ codes " ") ++ letters c.name) ++ codes " ") ++ letters c.provider

-- places in a list, by key
abbrev pub Places : Type 0
Places = BTreeMap (List ℕ) (Vec ℕ Global)

abbrev pub told : Option (Vec ℕ Global) → List ℕ
told None = []
told (Some v) = v.items

abbrev pub under : List ℕ → Places → List ℕ
under t ps = told (get (slice_cmp nat_cmp) ps t)

-- the places of those of a key, where the first one has this place
abbrev pub places_from : List ℕ → ℕ → List Called → List ℕ
places_from t n [] = []
places_from t n (c ∷ cs) = cond (bytes_eq (key c) t) (n ∷ []) [] ++ places_from t (suc n) cs

-- the table has the places of these
abbrev pub IsTable : Places → List Called → Type 0
IsTable ps cs = (t : List ℕ) → under t ps ≡ places_from t 0 cs

-- one more place stands under a key
abbrev pub AddsPlace : List ℕ → ℕ → Places → Places → Type 0
AddsPlace t n old new = (u : List ℕ) → under u new ≡ under u old ++ cond (bytes_eq t u) (n ∷ []) []

-- those at these places
abbrev pub picked : List Called → List ℕ → List Called
picked cs [] = []
picked cs (n ∷ ns) = option_to_list (slice_get cs n) ++ picked cs ns
