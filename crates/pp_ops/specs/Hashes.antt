-- Hashes under operators.
use Rattle.std.specs.Prelude.{not, is_none, List, [], ◌∷◌, ◌++◌, map, filter}
use Rattle.std.specs.List.{list_any}
use Rattle.std.specs.Option.{unwrap_or}
use Rattle.pp_values.specs.Datum.{Datum, list, hash, Pair, members_of, pairs_of}
use Rattle.pp_values.specs.Keys.{same_key, value_at}

-- the pairs in their places, each with the other hash's value where that has the key
abbrev pub overridden : List Pair → List Pair → List Pair
overridden others [] = []
overridden others (p ∷ ps) = (p.0, unwrap_or (value_at p.0 others) p.1) ∷ overridden others ps

-- the pairs whose keys are new
abbrev pub added : List Pair → List Pair → List Pair
added had ps = filter (λ p. is_none (value_at p.0 had)) ps

-- both hashes: the right one wins, keys of the left one keep their places, and new ones follow
abbrev pub merged : List Pair → List Pair → List Pair
merged left right = overridden right left ++ added left right

-- the keys that the right side of `-` names: those of a hash, the members of a list, or one value
abbrev pub named : Datum → List Datum
named (hash es) = map (λ p. p.0) (pairs_of es)
named (list ds) = members_of ds
named d = d ∷ []

-- the pairs whose keys are not named
abbrev pub without_keys : List Datum → List Pair → List Pair
without_keys gone ps = filter (λ p. not (list_any (same_key p.0) gone)) ps
