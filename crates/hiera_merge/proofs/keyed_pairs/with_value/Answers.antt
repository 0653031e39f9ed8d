use Rattle.pp_values.specs.Views.{view, pair_views}
use Rattle.hiera_merge.proofs.Placing.{kept_whole}
use Rattle.hiera_merge.proofs.keyed_pairs.with_value.Goals as goal

pub invariant_of-result : goal.invariant_of-result
invariant_of-result c =
    kept_whole c.pairs.inside.places (view c.args.value) c.args.place
    (pair_views c.pairs.inside.items.items) _ c.pairs.invariant c.set_value.ensures
