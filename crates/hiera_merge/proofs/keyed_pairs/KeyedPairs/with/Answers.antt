use Rattle.std.proofs.Common.{sym, ◌∙◌}
use Rattle.pp_values.specs.Views.{view}
use Rattle.hiera_merge.proofs.Placing.{pair_set}
use Rattle.hiera_merge.proofs.keyed_pairs.KeyedPairs.with.Goals as goal

pub returns-in-Some : goal.returns-in-Some
returns-in-Some c =
    pair_set (view c.args.key) (view c.args.value) c.args.self _ c.in-Some.place
    (sym c.place_of.ensures ∙ c.in-Some.is) c.with_value.ensures
