-- What the rest from the index on has for the name is what all of it has.
use Rattle.std.proofs.Common.{◌≡◌, drop}
use Rattle.pp_values.specs.Views.{pair_views}
use Rattle.eval_calls.specs.Templates.{given_for}
use Rattle.eval_calls.proofs.templates.given_for.Given as goal

abbrev pub invariant-loop-key : goal.invariant-loop-key
invariant-loop-key l = given_for l.name (pair_views l.given) ≡ given_for l.name (pair_views (drop l.key-index l.given))
