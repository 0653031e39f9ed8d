-- Access to a list or a hash: `value[arguments]`.
use Rattle.std.specs.Prelude.{ℕ, suc, ◌+◌, ◌-◌, nat_lt, if◌then◌else◌, Option, None, Result, Ok, Err, List, [], ◌∷◌}
use Rattle.std.specs.Prelude.{length, ℤ, pos, negsuc, slice_get}
use Rattle.std.specs.Option.{unwrap_or}
use Rattle.std.proofs.Common.{take, drop}
use Rattle.pp_values.specs.Datum.{Datum, undef, int, list, hash, Pair, members_of, pairs_of}
use Rattle.pp_values.specs.Keys.{value_at}
use Rattle.pp_ops.specs.declared.refusal.Refusal.{Refusal}
use Rattle.pp_ops.specs.declared.refusal.Refusal.TheVariants.{Operand}
use Rattle.pp_ops.specs.Lists.{as_list}

-- the member at a place, which is negative from the end on; `negsuc n` is the integer -1 - n
abbrev pub member_at : ℤ → List Datum → Option Datum
member_at (pos n) ds = slice_get ds n
member_at (negsuc n) ds = if nat_lt n (length ds) then slice_get ds (length ds - suc n) else None

-- the first place of a part of a list of this length: negative from the end on, and at least 0
abbrev pub first_place : ℤ → ℕ → ℕ
first_place (pos n) size = n
first_place (negsuc n) size = size - suc n

-- the place behind the part: `count` places on, even where it began before the list;
-- a negative count is the place of the last member, from the end
abbrev pub end_place : ℤ → ℤ → ℕ → ℕ
end_place from (negsuc n) size = size - n
end_place (pos n) (pos count) size = n + count
end_place (negsuc n) (pos count) size = size + count - suc n

abbrev pub part : ℤ → ℤ → List Datum → List Datum
part from count ds =
    take (end_place from count (length ds) - first_place from (length ds)) (drop (first_place from (length ds)) ds)

abbrev pub of_list : List Datum → List Datum → Result Datum Refusal
of_list ds (int at ∷ []) = Ok (unwrap_or (member_at at ds) undef)
of_list ds (int from ∷ int count ∷ []) = Ok (as_list (part from count ds))
of_list ds arguments = Err Operand

abbrev pub of_hash : List Pair → List Datum → Result Datum Refusal
of_hash ps (key ∷ []) = Ok (unwrap_or (value_at key ps) undef)
of_hash ps arguments = Err Operand

abbrev pub accessed : Datum → Datum → Result Datum Refusal
accessed (list ds) (list arguments) = of_list (members_of ds) (members_of arguments)
accessed (hash es) (list arguments) = of_hash (pairs_of es) (members_of arguments)
accessed a b = Err Operand
