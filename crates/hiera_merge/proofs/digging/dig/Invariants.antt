-- What the rest of the steps leads to from here is what all of them lead to.
use Rattle.std.proofs.Common.{◌≡◌, drop, map}
use Rattle.pp_values.specs.Views.{view}
use Rattle.hiera_merge.specs.Digging.{dug}
use Rattle.hiera_merge.proofs.digging.dig.Given as goal

abbrev pub invariant-loop-step : goal.invariant-loop-step
invariant-loop-step l = dug (map (λ x. x.now) (drop l.step-index l.steps)) (view l.found) ≡ dug (map (λ x. x.now) l.steps) (view l.value)
