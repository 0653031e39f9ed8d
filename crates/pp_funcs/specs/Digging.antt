-- Access step by step.
use denote.Ref.{Bor}
use Rattle.std.specs.Prelude.{◌≡◌, Option, Result, Ok, Err, List, [], ◌∷◌, option_map}
use Rattle.std.specs.Option.{unwrap_or}
use Rattle.pp_ops.specs.Accesses.{member_at}
use Rattle.pp_values.specs.declared.value.Value.{Value}
use Rattle.pp_values.specs.Answers.{in_turn}
use Rattle.pp_values.specs.Datum.{Datum, undef, int, list, hash, members_of, pairs_of}
use Rattle.pp_values.specs.Keys.{value_at}
use Rattle.pp_values.specs.Views.{view}
use Rattle.pp_funcs.specs.declared.refusal.Refusal.{Refusal}
use Rattle.pp_funcs.specs.declared.refusal.Refusal.TheVariants.{Arguments}

-- One step: the member of a list at a place, from the end where it is negative, or the value of a hash's key. What is
-- not there is Undef, and Undef stays so whatever the key.
abbrev pub further : Datum → Datum → Result Datum Refusal
further undef key = Ok undef
further (list ds) (int at) = Ok (unwrap_or (member_at at (members_of ds)) undef)
further (hash es) key = Ok (unwrap_or (value_at key (pairs_of es)) undef)
further d key = Err Arguments

-- a value, and the keys of the steps in turn
abbrev pub dig : List Datum → Result Datum Refusal
dig [] = Err Arguments
dig (whole ∷ keys) = in_turn further whole keys

-- what is found says what is meant; where nothing is found, Undef is meant
abbrev pub Finds : Result (Option (Bor Value)) Refusal → Result Datum Refusal → Type 0
Finds (Ok o) meant = meant ≡ Ok (unwrap_or (option_map (λ v. view v.now) o) undef)
Finds (Err r) meant = meant ≡ Err r
