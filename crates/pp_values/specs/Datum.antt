-- What a value says: the nine kinds of value, with lists and hashes of such values.
use Rattle.std.specs.Prelude.{ℕ, Bool, List, [], ◌∷◌, ℤ}
use Rattle.pp_values.specs.declared.reference.Reference.{Reference}
use Rattle.pp_values.specs.Sort.{Sort}

mutual
  pub data Datum : Type 0 where
    undef : Datum
    flag : Bool → Datum
    int : ℤ → Datum
    text : List ℕ → Datum
    list : Data → Datum
    hash : Entries → Datum
    reference : Reference → Datum
    kind : Sort → Datum
    default : Datum

  pub data Data : Type 0 where
    no_data : Data
    datum : Datum → Data → Data

  pub data Entries : Type 0 where
    no_entries : Entries
    entry : Datum → Datum → Entries → Entries

-- a key and its value
abbrev pub Pair : Type 0
Pair = Datum × Datum

-- the members of a list as a list, and the pairs of a hash as a list, in both directions
abbrev pub data_of : List Datum → Data
data_of [] = no_data
data_of (d ∷ ds) = datum d (data_of ds)

abbrev pub members_of : Data → List Datum
members_of no_data = []
members_of (datum d ds) = d ∷ members_of ds

abbrev pub entries_of : List Pair → Entries
entries_of [] = no_entries
entries_of (p ∷ ps) = entry p.0 p.1 (entries_of ps)

abbrev pub pairs_of : Entries → List Pair
pairs_of no_entries = []
pairs_of (entry k v es) = (k, v) ∷ pairs_of es
