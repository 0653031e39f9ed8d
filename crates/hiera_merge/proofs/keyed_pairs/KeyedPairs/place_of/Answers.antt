use Rattle.pp_values.specs.Views.{view, pair_views}
use Rattle.hiera_merge.proofs.Placing.{told_place}
use Rattle.hiera_merge.proofs.keyed_pairs.KeyedPairs.place_of.Goals as goal

pub returns : goal.returns
returns c =
    told_place c.self.inside.places (view c.args.key.now) (pair_views c.self.inside.items.items) _ _
    c.self.invariant.1 c.self.view_is c.get.ensures
