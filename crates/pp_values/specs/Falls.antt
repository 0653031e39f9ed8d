-- Each value within a value, and each value of a list, is smaller than the whole.
use Rattle.std.specs.Prelude.{◌≤◌, ◌≡◌, List, [], ◌∷◌, max, refl}
use Rattle.std.proofs.Common.{arith}
use denote.Param.Weighed.{most}
use Rattle.pp_values.specs.declared.value.Value.{Value}
use Rattle.pp_values.specs.declared.value.Value.TheVariants as v
use Rattle.pp_values.specs.declared.pairs.Pairs.TheDeep.{deep-Value}
use Rattle.pp_values.specs.declared.pairs.Pairs.TheShapes.{weighed-Pairs-items-at-2}
use Rattle.pp_values.specs.Datum.{Datum, Pair, data_of, entries_of}
use Rattle.pp_values.specs.Sizes.{datum_size, inner_size, entries_size, data_size, pairs_size}
use Rattle.pp_values.specs.Views.{view, views, pair_views}

pub inner_size-data_of : (ds : List Datum) → inner_size (data_of ds) ≡ data_size ds
inner_size-data_of [] = refl
inner_size-data_of (d ∷ ds) = omega (arith, inner_size-data_of ds)

pub entries_size-entries_of : (ps : List Pair) → entries_size (entries_of ps) ≡ pairs_size ps
entries_size-entries_of [] = refl
entries_size-entries_of (p ∷ ps) = omega (arith, entries_size-entries_of ps)

pub deep_le-datum_size : (x : Value) → deep-Value x ≤ datum_size (view x)
deep_le-datum_size v.Undef = omega arith
deep_le-datum_size (v.Flag b) = omega arith
deep_le-datum_size (v.Int z) = omega arith
deep_le-datum_size (v.Text t) = omega arith
deep_le-datum_size (v.List ds) = omega (arith, inner_size-data_of ds)
deep_le-datum_size (v.Hash ps) = omega (arith, entries_size-entries_of ps)
deep_le-datum_size (v.Ref r) = omega arith
deep_le-datum_size (v.Kind t) = omega arith
deep_le-datum_size v.Default = omega arith

pub values_fall : (xs : List Value) → max (most deep-Value xs) 0 ≤ data_size (views xs)
values_fall [] = omega arith
values_fall (x ∷ xs) = omega (arith, deep_le-datum_size x, values_fall xs)

pub pairs_fall : (ps : List (Value × Value)) →
    max (most (λ p. weighed-Pairs-items-at-2.weight Value deep-Value p) ps) 0 ≤ pairs_size (pair_views ps)
pairs_fall [] = omega arith
pairs_fall (p ∷ ps) = omega (arith, deep_le-datum_size p.0, deep_le-datum_size p.1, pairs_fall ps)
