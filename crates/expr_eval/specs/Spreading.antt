-- The splat `*`.
use Rattle.std.specs.Prelude.{List, map}
use Rattle.pp_values.specs.Datum.{Datum, hash, pairs_of}
use Rattle.pp_ops.specs.Lists.{as_list, as_members, pair_list}

-- among arguments and in a list: the members of a list, the pairs of a hash as lists of two, or one value
abbrev pub spliced : Datum → List Datum
spliced d = as_members d

-- elsewhere: a hash is the list of its pairs, another value is itself
abbrev pub spread : Datum → Datum
spread (hash es) = as_list (map pair_list (pairs_of es))
spread d = d
