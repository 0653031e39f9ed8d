-- Lists and hashes are the same where they are so member by member.
use Rattle.std.proofs.Common.{◌≡◌, List, [], ◌∷◌, refl}
use Rattle.std.specs.Cmp.Lexicographic.{pointwise}
use Rattle.pp_values.specs.Datum.{Datum, Pair, data_of, entries_of}
use Rattle.pp_ops.specs.Same.{same, members_same, entries_same, same_pair}

pub members_same-data_of : (xs ys : List Datum) → members_same (data_of xs) (data_of ys) ≡ pointwise same xs ys
members_same-data_of [] [] = refl
members_same-data_of [] (y ∷ ys) = refl
members_same-data_of (x ∷ xs) [] = refl
members_same-data_of (x ∷ xs) (y ∷ ys) = rw (members_same-data_of xs ys) refl

pub entries_same-entries_of : (ps qs : List Pair) → entries_same (entries_of ps) (entries_of qs)
    ≡ pointwise same_pair ps qs
entries_same-entries_of [] [] = refl
entries_same-entries_of [] (q ∷ qs) = refl
entries_same-entries_of (p ∷ ps) [] = refl
entries_same-entries_of (p ∷ ps) (q ∷ qs) = rw (entries_same-entries_of ps qs) refl
