-- Lists of members and of pairs, as data and as lists.
use Rattle.std.proofs.Common.{◌≡◌, List, [], ◌∷◌, length, refl, ap, arith}
use Rattle.std.specs.Cmp.Lexicographic.{pointwise}
use Rattle.pp_values.specs.Datum.{Datum, Data, Pair, Entries, data_of, members_of, entries_of, pairs_of, no_data, datum, no_entries, entry}
use Rattle.pp_values.specs.Equal.{equal, members_equal, entry_count}

pub members_of-data_of : (ds : List Datum) → members_of (data_of ds) ≡ ds
members_of-data_of [] = refl
members_of-data_of (d ∷ ds) = ap (λ xs. d ∷ xs) (members_of-data_of ds)

pub pairs_of-entries_of : (ps : List Pair) → pairs_of (entries_of ps) ≡ ps
pairs_of-entries_of [] = refl
pairs_of-entries_of (p ∷ ps) = ap (λ xs. p ∷ xs) (pairs_of-entries_of ps)

pub data_of-members_of : (ds : Data) → data_of (members_of ds) ≡ ds
data_of-members_of no_data = refl
data_of-members_of (datum d ds) = ap (λ xs. datum d xs) (data_of-members_of ds)

pub entries_of-pairs_of : (es : Entries) → entries_of (pairs_of es) ≡ es
entries_of-pairs_of no_entries = refl
entries_of-pairs_of (entry k v es) = ap (λ xs. entry k v xs) (entries_of-pairs_of es)

pub entry_count-entries_of : (ps : List Pair) → entry_count (entries_of ps) ≡ length ps
entry_count-entries_of [] = refl
entry_count-entries_of (p ∷ ps) = omega (arith, entry_count-entries_of ps)

pub members_equal-data_of : (xs ys : List Datum) → members_equal (data_of xs) (data_of ys) ≡ pointwise equal xs ys
members_equal-data_of [] [] = refl
members_equal-data_of [] (y ∷ ys) = refl
members_equal-data_of (x ∷ xs) [] = refl
members_equal-data_of (x ∷ xs) (y ∷ ys) = rw (members_equal-data_of xs ys) refl
