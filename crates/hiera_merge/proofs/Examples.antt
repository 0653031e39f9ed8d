-- Sources, the highest first, by each merge; merges by name and by options; parts by dotted keys.
use Rattle.std.proofs.Common.{◌≡◌, ℕ, List, [], ◌∷◌, map, Some, None, pos, codes, refl}
use Rattle.pp_values.specs.Datum as d
use Rattle.pp_values.specs.Datum.{Datum, Pair, data_of, entries_of}
use Rattle.hiera_merge.specs.declared.merge.Merge.TheVariants as by
use Rattle.hiera_merge.specs.Digging.{parts, dug}
use Rattle.hiera_merge.specs.DeepSteps.{Stack, up_from, raised, raised_at, put_hashes, top, over, merged_stack, members_of_all, lists_joined}
use Rattle.hiera_merge.specs.Merges.{merged}
use Rattle.hiera_merge.specs.Options.{merge_named, merge_in, merge_of}

abbrev n : ℕ → Datum
n k = d.int (pos k)

abbrev t : List ℕ → Datum
t letters = d.text letters

abbrev list : List Datum → Datum
list xs = d.list (data_of xs)

abbrev hash : List Pair → Datum
hash ps = d.hash (entries_of ps)

abbrev at : List ℕ → Datum → Pair
at k v = (d.text k, v)

-- three sources
abbrev high : Datum
high = hash (at (codes "a") (n 1) ∷ at (codes "b") (list (n 1 ∷ n 2 ∷ [])) ∷ [])

abbrev middle : Datum
middle = hash (at (codes "a") (n 2) ∷ at (codes "b") (list (n 2 ∷ n 3 ∷ [])) ∷ at (codes "c") (hash (at (codes "x") (n 1) ∷ [])) ∷ [])

abbrev low : Datum
low = hash (at (codes "c") (hash (at (codes "y") (n 2) ∷ [])) ∷ at (codes "d") (n 5) ∷ [])

firsts : merged by.First high (middle ∷ low ∷ []) ≡ Some high
firsts = refl

-- the lowest's keys stand first, in their places; the highest's values win; one level deep
hashes : merged by.Hash high (middle ∷ low ∷ [])
    ≡ Some (hash (at (codes "c") (hash (at (codes "x") (n 1) ∷ [])) ∷ at (codes "d") (n 5) ∷ at (codes "a") (n 1) ∷ at (codes "b") (list (n 1 ∷ n 2 ∷ [])) ∷ []))
hashes = refl

-- in depth, with the keys in the same order, and the lower's members of lists first
deeps : merged by.Deep high (middle ∷ low ∷ [])
    ≡ Some (hash (at (codes "c") (hash (at (codes "y") (n 2) ∷ at (codes "x") (n 1) ∷ [])) ∷ at (codes "d") (n 5) ∷ at (codes "a") (n 1)
    ∷ at (codes "b") (list (n 2 ∷ n 3 ∷ n 1 ∷ [])) ∷ []))
deeps = refl

-- from the highest down, which shows where kinds differ: the list wins over the hash, and takes the lower list's members
mixed : merged by.Deep (list (n 1 ∷ [])) (hash [] ∷ list (n 2 ∷ []) ∷ []) ≡ Some (list (n 2 ∷ n 1 ∷ []))
mixed = refl

-- within hashes a value of another kind loses, and a scalar too
within : merged by.Deep (hash (at (codes "k") (n 1) ∷ [])) (hash (at (codes "k") (list (n 2 ∷ [])) ∷ []) ∷ hash (at (codes "k") (n 3) ∷ []) ∷ [])
    ≡ Some (hash (at (codes "k") (n 1) ∷ []))
within = refl

-- ---- the steps in which the code joins in depth

abbrev values_of : List ℕ → List Datum → Datum → Stack
values_of k lower top_value = record { key = t k; lower = lower; high = top_value }

-- the lowest hash's keys stand first, and a higher value stands on those of its key
columns : put_hashes (hash (at (codes "a") (n 1) ∷ at (codes "b") (n 2) ∷ []) ∷ hash (at (codes "c") (n 3) ∷ at (codes "a") (n 4) ∷ []) ∷ []) []
    ≡ values_of (codes "a") (n 1 ∷ []) (n 4) ∷ values_of (codes "b") [] (n 2) ∷ values_of (codes "c") [] (n 3) ∷ []
columns = refl

-- a list among the hashes has no pairs, and a hash among lists no members
passed : (put_hashes (hash (at (codes "a") (n 1) ∷ []) ∷ list (n 2 ∷ []) ∷ []) [] ≡ values_of (codes "a") [] (n 1) ∷ [])
    × (members_of_all (list (n 1 ∷ n 2 ∷ []) ∷ low ∷ n 5 ∷ list (n 1 ∷ []) ∷ []) ≡ n 1 ∷ n 2 ∷ n 1 ∷ [])
    × (lists_joined (list (n 1 ∷ n 2 ∷ []) ∷ low ∷ []) (n 2 ∷ n 3 ∷ []) ≡ n 1 ∷ n 2 ∷ n 3 ∷ [])
    × (lists_joined (low ∷ []) (n 2 ∷ n 2 ∷ []) ≡ n 2 ∷ n 2 ∷ [])
passed = (refl, refl, refl, refl)

-- a higher value on a key's others, at its place
raises : (raised (n 3) (values_of (codes "a") (n 1 ∷ []) (n 2)) ≡ values_of (codes "a") (n 1 ∷ n 2 ∷ []) (n 3))
    × (raised_at (n 3) 1 (values_of (codes "a") [] (n 1) ∷ values_of (codes "b") [] (n 2) ∷ []) ≡ values_of (codes "a") [] (n 1) ∷ values_of (codes "b") (n 2 ∷ []) (n 3) ∷ [])
    × (map top (values_of (codes "a") (n 1 ∷ []) (n 2) ∷ []) ≡ at (codes "a") (n 2) ∷ [])
raises = (refl, refl, refl)

-- the values of one key from the lowest up: the list wins over the hash, and then meets the lowest list
rises : (up_from (list (n 2 ∷ []) ∷ hash [] ∷ []) (list (n 1 ∷ [])) ≡ list (n 2 ∷ n 1 ∷ []))
    × (merged_stack (values_of (codes "a") (list (n 2 ∷ []) ∷ []) (list (n 1 ∷ []))) ≡ at (codes "a") (list (n 2 ∷ n 1 ∷ [])))
rises = (refl, refl)

-- the columns over pairs: these are merged into the values of their keys, and others stand behind
laid_over : over (values_of (codes "a") [] (list (n 1 ∷ [])) ∷ values_of (codes "b") (n 2 ∷ []) (n 3) ∷ []) (at (codes "c") (n 4) ∷ at (codes "a") (list (n 5 ∷ [])) ∷ [])
    ≡ at (codes "a") (list (n 1 ∷ n 5 ∷ [])) ∷ at (codes "b") (n 3) ∷ at (codes "c") (n 4) ∷ []
laid_over = refl

-- `deep` of one value keeps its repeats, and `unique` drops them
alone : (merged by.Deep (list (n 1 ∷ n 1 ∷ [])) [] ≡ Some (list (n 1 ∷ n 1 ∷ []))) × (merged by.Unique (list (n 1 ∷ n 1 ∷ [])) [] ≡ Some (list (n 1 ∷ [])))
alone = (refl, refl)

-- `unique` opens lists, looks at case and at kinds, and keeps the first; a hash within a list is a member
uniques : (merged by.Unique (list (n 1 ∷ list (n 2 ∷ []) ∷ [])) (list (n 2 ∷ n 3 ∷ []) ∷ t (codes "4") ∷ []) ≡ Some (list (n 1 ∷ n 2 ∷ n 3 ∷ t (codes "4") ∷ [])))
    × (merged by.Unique (t (codes "a")) (t (codes "A") ∷ t (codes "a") ∷ []) ≡ Some (list (t (codes "a") ∷ t (codes "A") ∷ [])))
    × (merged by.Unique (n 1) (t (codes "1") ∷ []) ≡ Some (list (n 1 ∷ t (codes "1") ∷ [])))
    × (merged by.Unique (list (hash [] ∷ hash [] ∷ [])) [] ≡ Some (list (hash [] ∷ [])))
uniques = (refl, refl, refl, refl)

-- what each merge refuses: a hash at the top for `unique`, all but hashes for `hash`, scalars for `deep`
refused : (merged by.Unique high (middle ∷ low ∷ []) ≡ None) × (merged by.Unique (n 1) (low ∷ []) ≡ None)
    × (merged by.Hash high (list [] ∷ []) ≡ None) × (merged by.Hash (n 1) [] ≡ None)
    × (merged by.Deep (t (codes "a")) [] ≡ None) × (merged by.Deep high (d.undef ∷ []) ≡ None)
refused = (refl, refl, refl, refl, refl, refl)

names : (merge_named (codes "first") ≡ Some by.First) × (merge_named (codes "unique") ≡ Some by.Unique) × (merge_named (codes "hash") ≡ Some by.Hash)
    × (merge_named (codes "deep") ≡ Some by.Deep) × (merge_named (codes "Deep") ≡ None) × (merge_named [] ≡ None)
names = (refl, refl, refl, refl, refl, refl)

by_value : (merge_in (t (codes "deep")) ≡ Some by.Deep) × (merge_in (hash (at (codes "strategy") (t (codes "hash")) ∷ [])) ≡ Some by.Hash)
    × (merge_in (hash []) ≡ None) × (merge_in (hash (at (codes "strategy") (hash []) ∷ [])) ≡ None)
    × (merge_in (hash (at (codes "strategy") (t (codes "deep")) ∷ at (codes "knockout_prefix") (t (codes "-")) ∷ [])) ≡ None) × (merge_in (n 1) ≡ None)
by_value = (refl, refl, refl, refl, refl, refl)

options : (merge_of (hash []) ≡ Some by.First) × (merge_of (hash (at (codes "merge") (t (codes "unique")) ∷ [])) ≡ Some by.Unique)
    × (merge_of (hash (at (codes "merge") (hash (at (codes "strategy") (t (codes "deep")) ∷ [])) ∷ [])) ≡ Some by.Deep)
    × (merge_of (hash (at (codes "merge") (t (codes "some")) ∷ [])) ≡ None) × (merge_of (hash (at (codes "convert_to") (t (codes "Array")) ∷ [])) ≡ None)
    × (merge_of (hash (at (codes "merge") (t (codes "deep")) ∷ at (codes "convert_to") (t (codes "Array")) ∷ [])) ≡ None) × (merge_of (t (codes "deep")) ≡ None)
options = (refl, refl, refl, refl, refl, refl, refl)

cut : (parts (codes "a.b.0") ≡ codes "a" ∷ codes "b" ∷ codes "0" ∷ []) × (parts (codes "a") ≡ codes "a" ∷ []) × (parts [] ≡ [] ∷ [])
    × (parts (codes ".a.") ≡ [] ∷ codes "a" ∷ [] ∷ [])
cut = (refl, refl, refl, refl)

abbrev tree : Datum
tree = hash (at (codes "b") (list (n 7 ∷ hash (at (codes "0") (n 8) ∷ []) ∷ [])) ∷ at (codes "u") d.undef ∷ [])

digs : (dug [] tree ≡ Some tree) × (dug (codes "b" ∷ codes "0" ∷ []) tree ≡ Some (n 7)) × (dug (codes "b" ∷ codes "01" ∷ codes "0" ∷ []) tree ≡ Some (n 8))
    × (dug (codes "b" ∷ codes "2" ∷ []) tree ≡ None) × (dug (codes "b" ∷ codes "-1" ∷ []) tree ≡ None) × (dug (codes "b" ∷ [] ∷ []) tree ≡ None)
    × (dug (codes "c" ∷ []) tree ≡ None) × (dug (codes "u" ∷ []) tree ≡ Some d.undef) × (dug (codes "u" ∷ codes "x" ∷ []) tree ≡ None)
digs = (refl, refl, refl, refl, refl, refl, refl, refl, refl)
