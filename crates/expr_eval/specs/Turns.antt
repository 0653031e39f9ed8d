-- What a function calls its lambda with, turn by turn. Another number of parameters, or of arguments, and a value that
-- is neither a list nor a hash are a fault that names the function, also where there is nothing to go through.
use Rattle.std.specs.Prelude.{ℕ, suc, ◌==◌, if◌then◌else◌, Option, None, Some, option_map, Result, List, [], ◌∷◌}
use Rattle.std.specs.Prelude.{length, map, codes, pos}
use Rattle.pp_values.specs.declared.fault.Fault.{Fault}
use Rattle.pp_values.specs.declared.place.Place.{Place}
use Rattle.pp_values.specs.Datum.{Datum, int, list, hash, Pair, members_of, pairs_of}
use Rattle.pp_ops.specs.Lists.{pair_list}
use Rattle.expr_eval.specs.declared.functions.Iteration.{Iteration}
use Rattle.expr_eval.specs.Faults.{or_wrong}
use Rattle.expr_eval.specs.Names.{name}

abbrev pub Turn : Type 0
Turn = List Datum

abbrev pub only : Datum → Turn
only d = d ∷ []

abbrev pub two : Pair → Turn
two p = p.0 ∷ p.1 ∷ []

-- what is gone through, one by one: the members of a list, the pairs of a hash as lists of two
abbrev pub members : Datum → Option (List Datum)
members (list ds) = Some (members_of ds)
members (hash es) = Some (map pair_list (pairs_of es))
members d = None

-- the members, each with its place, from place `n` on
abbrev pub numbered : ℕ → List Datum → List Turn
numbered n [] = []
numbered n (d ∷ ds) = (int (pos n) ∷ d ∷ []) ∷ numbered (suc n) ds

-- the turns of a lambda of one parameter, and of two: a place and a member, or a key and its value
abbrev pub turns_of_one : Datum → Option (List Turn)
turns_of_one d = option_map (map only) (members d)

abbrev pub turns_of_two : Datum → Option (List Turn)
turns_of_two (list ds) = Some (numbered 0 (members_of ds))
turns_of_two (hash es) = Some (map two (pairs_of es))
turns_of_two d = None

abbrev pub turns : ℕ → Datum → Option (List Turn)
turns n d = if n == 1 then turns_of_one d else (if n == 2 then turns_of_two d else None)

-- `each`, `map`, `filter`, `any` and `all` of this value, by a lambda of so many parameters
abbrev pub turns_of : Iteration → Datum → ℕ → Place → Result (List Turn) Fault
turns_of f d n at = or_wrong (name f) at (turns n d)

-- what `reduce` goes through: the start value, where one is given, and the members
abbrev pub reduce_members : List Datum → Option (List Datum)
reduce_members (d ∷ []) = members d
reduce_members (d ∷ start ∷ []) = option_map (λ ds. start ∷ ds) (members d)
reduce_members arguments = None

-- The first is the first memo. With each further one the lambda, of two parameters, is called, and gives the next memo.
-- Where there is none, the value is Undef.
abbrev pub reduced_over : List Datum → ℕ → Place → Result (List Datum) Fault
reduced_over arguments n at = or_wrong (codes "reduce") at (if n == 2 then reduce_members arguments else None)

-- the one turn of `with`: its arguments, as many as the lambda's parameters
abbrev pub turn_of_with : List Datum → ℕ → Place → Result Turn Fault
turn_of_with arguments n at = or_wrong (codes "with") at (if length arguments == n then Some arguments else None)
