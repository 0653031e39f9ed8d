-- What the rest from the index on tells is what all of it tells.
use Rattle.std.proofs.Common.{◌≡◌, drop, map}
use Rattle.std.specs.List.{list_any}
use Rattle.pp_ops.specs.Same.{same}
use Rattle.pp_values.specs.Views.{view}
use Rattle.pp_funcs.proofs.seen.has_same.Given as goal

abbrev pub invariant-loop-other : goal.invariant-loop-other
invariant-loop-other l = list_any (same (view l.value)) (map (λ v. view v.now) l.alike)
    ≡ list_any (same (view l.value)) (map (λ v. view v.now) (drop l.other-index l.alike))
