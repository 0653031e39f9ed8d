-- The steps in which the code joins in depth.
use Rattle.std.specs.Prelude.{◌≡◌, ⊤, ℕ, zero, suc, ◌+◌, Bool, true, false, if◌then◌else◌, IsTrue, Option, None, Some}
use Rattle.std.specs.Prelude.{List, [], ◌∷◌, ◌++◌, map}
use Rattle.std.specs.List.{list_any}
use Rattle.pp_values.specs.Datum.{Datum, list, hash, Pair, data_of, members_of, entries_of}
use Rattle.pp_values.specs.Keys.{same_key, are_distinct, value_at, without_key}
use Rattle.pp_values.specs.Sizes.{datum_size, data_size}
use Rattle.pp_values.specs.Views.{view, views}
use Rattle.hiera_merge.specs.declared.deepening.Column.{Column}
use Rattle.hiera_merge.specs.declared.deepening.Joining.{Joining}
use Rattle.hiera_merge.specs.declared.deepening.Joining.TheVariants as joining
use Rattle.hiera_merge.specs.Merges.{pairs_in, members_in, is_list, joined, deep}

-- a value with those below it, from the lowest up, merged into it
abbrev pub up_from : List Datum → Datum → Datum
up_from [] high = high
up_from (low ∷ lower) high = deep (up_from lower high) low

-- what is to be done with the highest
abbrev pub IsJoining : List Datum → Datum → Joining → Type 0
IsJoining lower d joining.Hash = d ≡ hash (entries_of (pairs_in d))
IsJoining lower d joining.List = d ≡ list (data_of (members_in d))
IsJoining lower d joining.Other = up_from lower d ≡ d

-- ---- hashes

-- a lower value with the higher one of its key merged into it, where there is one
abbrev pub met : Datum → Option Datum → Datum
met low None = low
met low (Some high) = deep high low

-- the lower's pairs in their places, the higher's values merged into them, and then the higher's other pairs
abbrev pub laid : List Pair → List Pair → List Pair
laid high [] = high
laid high (p ∷ low) = (p.0, met p.1 (value_at p.0 high)) ∷ laid (without_key p.0 high) low

-- the pairs of all these values, from the lowest up, below the highest
abbrev pub laid_all : List Datum → List Pair → List Pair
laid_all [] high = high
laid_all (low ∷ lower) high = laid (laid_all lower high) (pairs_in low)

-- no hash among the values has a key twice
abbrev pub AreKeyed : List Datum → Type 0
AreKeyed [] = ⊤
AreKeyed (d ∷ ds) = IsTrue (are_distinct (pairs_in d)) × AreKeyed ds

-- the values that a key has: the key, those below the highest from the lowest up, and the highest
pub record Stack : Type 0 where
  pub key : Datum
  pub lower : List Datum
  pub high : Datum

abbrev pub stack : Column → Stack
stack c = record { key = view c.key; lower = views c.lower.items; high = view c.high }

abbrev pub stacks : List Column → List Stack
stacks = map stack

-- a higher value on the others
abbrev pub raised : Datum → Stack → Stack
raised v s = record { key = s.key; lower = s.lower ++ s.high ∷ []; high = v }

-- the value put on those of its key
abbrev pub put_stack : Datum → Datum → List Stack → List Stack
put_stack k v [] = record { key = k; lower = []; high = v } ∷ []
put_stack k v (s ∷ ss) = if same_key k s.key then raised v s ∷ ss else s ∷ put_stack k v ss

abbrev pub put_stacks : List Pair → List Stack → List Stack
put_stacks [] ss = ss
put_stacks (p ∷ ps) ss = put_stacks ps (put_stack p.0 p.1 ss)

abbrev pub put_hashes : List Datum → List Stack → List Stack
put_hashes [] ss = ss
put_hashes (d ∷ ds) ss = put_hashes ds (put_stacks (pairs_in d) ss)

-- a key with the highest of its values
abbrev pub top : Stack → Pair
top s = (s.key, s.high)

-- the values of the stack at a place with a higher one on them
abbrev pub raised_at : Datum → ℕ → List Stack → List Stack
raised_at v n [] = []
raised_at v zero (s ∷ ss) = raised v s ∷ ss
raised_at v (suc n) (s ∷ ss) = s ∷ raised_at v n ss

abbrev pub merged_stack : Stack → Pair
merged_stack s = (s.key, up_from s.lower s.high)

-- each key with its values merged, over these pairs
abbrev pub over : List Stack → List Pair → List Pair
over [] out = out
over (s ∷ ss) out = (s.key, up_from s.lower (met s.high (value_at s.key out))) ∷ over ss (without_key s.key out)

abbrev pub stacks_size : List Stack → ℕ
stacks_size [] = 0
stacks_size (s ∷ ss) = datum_size s.high + data_size s.lower + stacks_size ss + 1

-- ---- lists

abbrev pub members_of_all : List Datum → List Datum
members_of_all [] = []
members_of_all (d ∷ ds) = members_in d ++ members_of_all ds

-- the members of all lists among these, and those of the highest
abbrev pub lists_joined : List Datum → List Datum → List Datum
lists_joined lower high = if list_any is_list lower then joined (members_of_all lower) high else high
