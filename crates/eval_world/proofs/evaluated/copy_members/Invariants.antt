-- What was copied and what is left are all.
use Rattle.std.proofs.Common.{◌≡◌, ◌++◌, drop}
use Rattle.pp_values.specs.Views.{views}
use Rattle.eval_world.proofs.evaluated.copy_members.Given as goal

abbrev pub invariant-loop-value : goal.invariant-loop-value
invariant-loop-value l = views l.items.items ++ views (drop l.value-index l.values) ≡ views l.values
