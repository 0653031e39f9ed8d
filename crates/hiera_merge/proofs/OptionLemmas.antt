-- Hashes that are not empty, and such as have more than one key.
use Rattle.std.proofs.Common.{◌≡◌, ◌≢◌, ◌≤◌, ℕ, List, [], ◌∷◌, None, length, arith, refl}
use Rattle.pp_values.specs.declared.value.Value.{Value}
use Rattle.pp_values.specs.Views.{pair_views}
use Rattle.std.specs.Prelude.{option_and_then, codes}
use Rattle.pp_values.specs.Datum.{Pair, hash, entries_of}
use Rattle.hiera_merge.specs.Options.{sole, merge_in, merge_of}

pub merge_of_more : (ps : List Pair) → ps ≢ [] → merge_of (hash (entries_of ps)) ≡ option_and_then merge_in (sole (codes "merge") (entries_of ps))
merge_of_more [] more = absurd (more refl)
merge_of_more (p ∷ ps) more = refl

pub sole_of_more : (name : List ℕ) (ps : List (Value × Value)) → 2 ≤ length ps → sole name (entries_of (pair_views ps)) ≡ None
sole_of_more name [] h = refl
sole_of_more name (p ∷ []) h = absurd (omega (arith, h))
sole_of_more name (p ∷ q ∷ ps) h = refl
