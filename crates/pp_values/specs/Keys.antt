-- The keys of a hash: integers and texts, each exactly once, compared letter by letter.
use Rattle.std.specs.Prelude.{Bool, true, false, not, ◌&&◌, if◌then◌else◌, Option, None, Some, List, [], ◌∷◌}
use Rattle.std.specs.Ordering.{int_eq}
use Rattle.std.specs.Str.{bytes_eq}
use Rattle.pp_values.specs.Datum.{Datum, int, text, Pair}

abbrev pub is_key : Datum → Bool
is_key (int z) = true
is_key (text t) = true
is_key d = false

-- two keys are the same
abbrev pub same_key : Datum → Datum → Bool
same_key (int a) (int b) = int_eq a b
same_key (text a) (text b) = bytes_eq a b
same_key c d = false

-- no pair has the key
abbrev pub lacks : Datum → List Pair → Bool
lacks k [] = true
lacks k (p ∷ ps) = not (same_key p.0 k) && lacks k ps

-- each key is one, and no two are the same
abbrev pub are_distinct : List Pair → Bool
are_distinct [] = true
are_distinct (p ∷ ps) = is_key p.0 && (lacks p.0 ps && are_distinct ps)

-- the value of the key, if it has one
abbrev pub value_at : Datum → List Pair → Option Datum
value_at k [] = None
value_at k (p ∷ ps) = if same_key k p.0 then Some p.1 else value_at k ps

-- the pairs with the key's value set: in the key's place, or else at the end
abbrev pub with_pair : Datum → Datum → List Pair → List Pair
with_pair k v [] = (k, v) ∷ []
with_pair k v (p ∷ ps) = if same_key k p.0 then (p.0, v) ∷ ps else p ∷ with_pair k v ps

-- the pairs without the key
abbrev pub without_key : Datum → List Pair → List Pair
without_key k [] = []
without_key k (p ∷ ps) = if same_key k p.0 then ps else p ∷ without_key k ps
