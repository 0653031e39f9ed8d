-- Functions of lists and hashes.
use denote.Ref.{Bor}
use Rattle.std.specs.Prelude.{if◌then◌else◌, Result, Ok, Err, List, [], ◌∷◌, ◌++◌, map}
use Rattle.std.specs.List.{list_any, fold, join_by}
use Rattle.pp_ops.specs.Lists.{as_list}
use Rattle.pp_ops.specs.Same.{same}
use Rattle.pp_values.specs.declared.value.Value.{Value}
use Rattle.pp_values.specs.Datum.{Datum, text, list, hash, Data, no_data, datum, members_of, pairs_of}
use Rattle.pp_values.specs.TextOf.{text_of}
use Rattle.pp_values.specs.Views.{view}
use Rattle.pp_funcs.specs.declared.refusal.Refusal.{Refusal}
use Rattle.pp_funcs.specs.declared.refusal.Refusal.TheVariants.{Arguments}

-- what the values behind references say
abbrev pub behind : List (Bor Value) → List Datum
behind vs = map (λ v. view v.now) vs

abbrev pub keys : Datum → Result Datum Refusal
keys (hash es) = Ok (as_list (map (λ p. p.0) (pairs_of es)))
keys d = Err Arguments

abbrev pub values : Datum → Result Datum Refusal
values (hash es) = Ok (as_list (map (λ p. p.1) (pairs_of es)))
values d = Err Arguments

abbrev mutual
  -- a list is its members, with those of each list among them in its place; another value is itself
  pub flat : Datum → List Datum
  flat (list ds) = flat_members ds
  flat d = d ∷ []

  pub flat_members : Data → List Datum
  flat_members no_data = []
  flat_members (datum d ds) = flat d ++ flat_members ds

abbrev pub flatten : Datum → Result Datum Refusal
flatten (list ds) = Ok (as_list (flat_members ds))
flatten d = Err Arguments

-- the texts of the flattened list's members, one behind another or with a text between each two
abbrev pub join : List Datum → Result Datum Refusal
join (list ds ∷ []) = Ok (text (join_by text_of [] (flat_members ds)))
join (list ds ∷ text between ∷ []) = Ok (text (join_by text_of between (flat_members ds)))
join arguments = Err Arguments

-- one more member, unless one that is exactly the same is there
abbrev pub with_new : List Datum → Datum → List Datum
with_new had d = if list_any (same d) had then had else had ++ d ∷ []

-- the first of members that are exactly the same, in their order
abbrev pub unique : Datum → Result Datum Refusal
unique (list ds) = Ok (as_list (fold with_new [] (members_of ds)))
unique d = Err Arguments
