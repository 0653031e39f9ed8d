-- Values by their texts.
use denote.Ref.{Bor}
use Rattle.std.specs.Prelude.{◌≡◌, ℕ, Bool, not, cond, Option, None, Some, List, [], ◌∷◌, ◌++◌, filter}
use Rattle.std.specs.BTreeMap.{BTreeMap, get}
use Rattle.std.specs.List.{list_any}
use Rattle.std.specs.Cmp.Lexicographic.{slice_cmp}
use Rattle.std.specs.Ordering.{nat_cmp}
use Rattle.std.specs.Str.{bytes_eq}
use Rattle.std.specs.declared.alloc.Global.{Global}
use Rattle.std.specs.declared.vec.Vec.{Vec}
use Rattle.pp_values.specs.declared.value.Value.{Value}
use Rattle.pp_values.specs.Datum.{Datum}
use Rattle.pp_values.specs.TextOf.{text_of}
use Rattle.pp_ops.specs.Same.{same}
use Rattle.pp_funcs.specs.Lists.{behind, with_new}

abbrev pub Seen : Type 0
Seen = BTreeMap (List ℕ) (Vec (Bor Value) Global)

abbrev pub told : Option (Vec (Bor Value) Global) → List Datum
told None = []
told (Some values) = behind values.items

-- the values that were seen under a text
abbrev pub under : List ℕ → Seen → List Datum
under t seen = told (get (slice_cmp nat_cmp) seen t)

-- those of a list that have a text
abbrev pub with_text : List ℕ → List Datum → List Datum
with_text t ds = filter (λ d. bytes_eq (text_of d) t) ds

-- what was seen is the values of this list
abbrev pub Holds : Seen → List Datum → Type 0
Holds seen ds = (t : List ℕ) → under t seen ≡ with_text t ds

-- one more value was seen, under this text
abbrev pub Adds : List ℕ → Datum → Seen → Seen → Type 0
Adds text d old new = (t : List ℕ) → under t new ≡ under t old ++ cond (bytes_eq text t) (d ∷ []) []

-- whether the value is new to a list of which the values were seen, and that it was seen from then on
abbrev pub Looks : Datum → Bool → Seen → Seen → Type 0
Looks d is_new old new =
    (had : List Datum) → Holds old had → (is_new ≡ not (list_any (same d) had)) × Holds new (with_new had d)
