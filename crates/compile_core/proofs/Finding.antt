-- From what the call of a look-up answers to what is told of it.
use Rattle.std.proofs.Common.{◌≡◌, ℕ, List, Option, Some, None, Ok, Err, refl, sym}
use Rattle.hiera_config.specs.Meant.{Meant}
use Rattle.hiera_lookup.specs.Finds.{Finds}
use Rattle.pp_values.specs.Answers.{IsRefused, fault_told}
use Rattle.pp_values.specs.Datum.{Datum}
use Rattle.pp_values.specs.Faults.{fault}
use Rattle.pp_values.specs.Views.{view}
use Rattle.pp_values.specs.declared.fault.Stop.{Stop}
use Rattle.pp_values.specs.declared.fault.Stop.TheVariants as stop
use Rattle.pp_values.specs.declared.fault.What.TheVariants.{LookupMissing}
use Rattle.pp_values.specs.declared.place.Place.{Place}
use Rattle.pp_values.specs.declared.value.Value.{Value}
use Rattle.compile_core.specs.LookUp.{found_or_missing}

module _ (at : Place) (key : List ℕ) (meant : Meant (Option Datum)) where
  pub has : (v : Value) → Finds at (Ok (Some v)) meant → found_or_missing at key meant ≡ Ok (view v)
  has v is = rw is refl

  pub lacks : Finds at (Ok None) meant → found_or_missing at key meant ≡ Err (fault at (LookupMissing key))
  lacks is = rw is refl

  pub refused : (s : Stop) → Finds at (Err s) meant → IsRefused (fault_told s) (found_or_missing at key meant)
  refused (stop.Fault f) is = rw (sym is.0) (rw is.1 refl)
  refused stop.Memory is = tt
