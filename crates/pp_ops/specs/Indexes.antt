-- The values of a hash by key: the pairs themselves, or maps by numbers and by texts.
use denote.Ref.{Bor}
use Rattle.std.specs.Prelude.{ℕ, ℤ, is_none, Option, None, option_map, List, [], ◌∷◌, filter}
use Rattle.std.specs.BTreeMap.{BTreeMap, get}
use Rattle.std.specs.Option.{unwrap_or}
use Rattle.std.specs.Ordering.{int_cmp}
use Rattle.pp_values.specs.declared.value.Value.{Value}
use Rattle.pp_values.specs.Datum.{Datum, int, text, Pair}
use Rattle.pp_values.specs.Keys.{value_at}
use Rattle.pp_values.specs.Rising.{text_cmp}
use Rattle.pp_values.specs.Views.{view}
use Rattle.pp_ops.specs.declared.key_index.Keyed.{Keyed}
use Rattle.pp_ops.specs.declared.key_index.Keyed.TheVariants as keyed

abbrev pub said : Option (Bor Value) → Option Datum
said o = option_map (λ v. view v.now) o

abbrev pub number_at : ℤ → BTreeMap ℤ (Bor Value) → Option Datum
number_at z numbers = said (get int_cmp numbers z)

abbrev pub text_at : List ℕ → BTreeMap (List ℕ) (Bor Value) → Option Datum
text_at t texts = said (get text_cmp texts t)

-- the value of a key in maps by numbers and by texts
abbrev pub indexed : Datum → BTreeMap ℤ (Bor Value) → BTreeMap (List ℕ) (Bor Value) → Option Datum
indexed (int z) numbers texts = number_at z numbers
indexed (text t) numbers texts = text_at t texts
indexed d numbers texts = None

-- the value of a key
abbrev pub told : Keyed → Datum → Option Datum
told (keyed.Few pairs) k = value_at k pairs.now
told (keyed.Many x) k = indexed k x.numbers x.texts

-- the pairs in their places, each with the other hash's value where that has the key, as a function tells them
abbrev pub overridden_by : (Datum → Option Datum) → List Pair → List Pair
overridden_by at [] = []
overridden_by at (p ∷ ps) = (p.0, unwrap_or (at p.0) p.1) ∷ overridden_by at ps

-- the pairs whose keys are new
abbrev pub added_by : (Datum → Option Datum) → List Pair → List Pair
added_by at ps = filter (λ p. is_none (at p.0)) ps
