-- What the rest from the index on adds to what is there, or tells, is what all of it does.
use Rattle.std.proofs.Common.{◌≡◌, drop}
use Rattle.std.specs.List.{list_any}
use Rattle.pp_values.specs.Views.{view, pair_views}
use Rattle.pp_values.specs.Equal.{equal}
use Rattle.pp_ops.proofs.membership.has_key.Given as goal

abbrev pub invariant-loop-key : goal.invariant-loop-key
invariant-loop-key l = list_any (λ p. equal (view l.value) p.0) (pair_views l.pairs)
    ≡ list_any (λ p. equal (view l.value) p.0) (pair_views (drop l.key-index l.pairs))
