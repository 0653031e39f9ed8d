use Rattle.pp_values.specs.Views.{view, pair_views}
use Rattle.eval_forms.proofs.Placing.{kept_whole}
use Rattle.eval_forms.proofs.keyed_pairs.with_value.Goals as goal

pub invariant_of-result : goal.invariant_of-result
invariant_of-result c =
    kept_whole c.pairs.inside.numbers c.pairs.inside.texts (view c.args.value) c.args.place
    (pair_views c.pairs.inside.items.items) _ c.pairs.invariant c.set_value.ensures
