-- From what the call of a look-up answers to the step that looks up, and to the answer with its place.
use Rattle.std.proofs.Common.{◌≡◌, Option, option_map, Ok, Err, refl, sym}
use Rattle.hiera_config.specs.Meant.{Meant}
use Rattle.hiera_lookup.specs.Finds.{Finds}
use Rattle.pp_values.specs.Answers.{IsRefused, fault_told}
use Rattle.pp_values.specs.Datum.{Datum}
use Rattle.pp_values.specs.Views.{view}
use Rattle.pp_values.specs.declared.fault.Stop.{Stop}
use Rattle.pp_values.specs.declared.fault.Stop.TheVariants as stop
use Rattle.pp_values.specs.declared.place.Place.{Place}
use Rattle.pp_values.specs.declared.value.Value.{Value}
use Rattle.eval_world.specs.Data.{placed}
use Rattle.eval_world.specs.Outcomes.{Gives, answered, same}
use Rattle.eval_world.specs.declared.world.World.{World}

module _ (at : Place) (meant : Meant (Option Datum)) where
  -- a value that was found is the answer's
  pub found_placed : (o : Option Value) → Finds at (Ok o) meant → placed at meant ≡ Ok (option_map view o)
  found_placed o is = rw is refl

  -- a fault is the answer's, at the place of the look-up
  pub refused_placed : (s : Stop) → Finds at (Err s) meant → IsRefused (fault_told s) (placed at meant)
  refused_placed (stop.Fault f) is = rw (sym is.0) (rw is.1 refl)
  refused_placed stop.Memory is = tt

  -- the same of the step
  pub refused_step : (w : World) (s : Stop) → Finds at (Err s) meant
      → Gives same (answered (placed at meant) w) (Err s) w
  refused_step w (stop.Fault f) is = rw (refused_placed (stop.Fault f) is) refl
  refused_step w stop.Memory is = tt
