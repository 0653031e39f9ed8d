-- What `each`, `map`, `filter`, `any` and `all` make of what their lambda gave.
use Rattle.std.specs.Prelude.{Bool, true, false, not, if◌then◌else◌, List, [], ◌∷◌}
use Rattle.std.specs.List.{list_all, list_any}
use Rattle.pp_values.specs.Datum.{Datum, flag, list, hash, members_of, pairs_of}
use Rattle.pp_ops.specs.Lists.{as_list, as_hash}
use Rattle.expr_eval.specs.declared.functions.Iteration.{Iteration}
use Rattle.expr_eval.specs.declared.functions.Iteration.TheVariants as iteration
use Rattle.expr_eval.specs.Truth.{is_true}

-- those whose results count as true
abbrev pub kept : {A : Type 0} → List A → List Datum → List A
kept (x ∷ xs) (r ∷ rs) = if is_true r then x ∷ kept xs rs else kept xs rs
kept xs rs = []

-- of a list a list, of a hash a hash
abbrev pub filtered : Datum → List Datum → Datum
filtered (list ds) rs = as_list (kept (members_of ds) rs)
filtered (hash es) rs = as_hash (kept (pairs_of es) rs)
filtered d rs = d

abbrev pub gathered : Iteration → Datum → List Datum → Datum
gathered iteration.Each d rs = d
gathered iteration.Map d rs = as_list rs
gathered iteration.Filter d rs = filtered d rs
gathered iteration.Any d rs = flag (list_any is_true rs)
gathered iteration.All d rs = flag (list_all is_true rs)

-- whether this result ends the call
abbrev pub decides : Iteration → Datum → Bool
decides iteration.Any r = is_true r
decides iteration.All r = not (is_true r)
decides f r = false
