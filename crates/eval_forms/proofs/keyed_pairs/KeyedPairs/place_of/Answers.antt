use Rattle.pp_values.specs.Views.{view, pair_views}
use Rattle.eval_forms.proofs.Placing.{told_place}
use Rattle.eval_forms.proofs.keyed_pairs.KeyedPairs.place_of.Goals as goal

pub returns : goal.returns
returns c =
    told_place c.self.inside.numbers c.self.inside.texts (view c.args.key.now) (pair_views c.self.inside.items.items) _ _
    c.self.invariant.1 c.self.view_is c.place_in.ensures
