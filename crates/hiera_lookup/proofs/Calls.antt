-- From the look-up within others to the call.
use Rattle.std.proofs.Common.{◌≡◌, ℕ, List, [], Option, option_map, Result, Ok, Err, refl, subst, ap, ◌∙◌}
use Rattle.pp_values.specs.Views.{view}
use Rattle.pp_values.specs.declared.fault.Stop.{Stop}
use Rattle.pp_values.specs.declared.fault.Stop.TheVariants as stop
use Rattle.pp_values.specs.declared.fault.What.{What}
use Rattle.pp_values.specs.declared.place.Place.{Place}
use Rattle.hiera_config.specs.Documents.{File}
use Rattle.hiera_config.specs.Meant.{Meant, go_on, MeetsBy}
use Rattle.hiera_config.specs.Sources.{module_of}
use Rattle.hiera_config.specs.Variables.{Variables}
use Rattle.hiera_config.specs.declared.refused.Refused.{Refused}
use Rattle.hiera_config.specs.declared.refused.Refused.TheVariants as refused
use Rattle.hiera_merge.specs.declared.merge.Merge.{Merge}
use Rattle.hiera_lookup.specs.declared.looked.Looked.{Looked}
use Rattle.hiera_lookup.specs.Finds.{Finds, Stops}
use Rattle.hiera_lookup.specs.Look.{look, looked_up}
use Rattle.hiera_lookup.specs.Looked.{Found, looked_view}
use Rattle.hiera_lookup.specs.World.{World, world_of}

value_of : (o : Meant Found) (f : Found) → o ≡ Ok f → go_on o (λ found. Ok found.0) ≡ Ok f.0
unfolding go_on
value_of o f e = rw e refl

fault_of : (o : Meant Found) (w : What) → o ≡ Err w → go_on o (λ found. Ok found.0) ≡ Err w
unfolding go_on
fault_of o w e = rw e refl

-- the code's variables, keys and texts are those of the definition
pub begun : (files : List File) (V V' : Variables) (busy : List (List ℕ)) (m : Option (List ℕ)) (k key : List ℕ)
    (merge : Option Merge) (r : Result Looked Refused)
    → V ≡ V' → busy ≡ [] → m ≡ module_of k → k ≡ key
    → MeetsBy looked_view r (look (world_of files V) 200 busy m k merge)
    → MeetsBy looked_view r (look (world_of files V') 200 [] (module_of key) key merge)
begun files V V' busy m k key merge r v b o e h =
    subst (λ x. MeetsBy looked_view r (look (world_of files V') 200 [] (module_of x) x merge)) e
    (subst (λ x. MeetsBy looked_view r (look (world_of files V') 200 [] x k merge)) o
    (subst (λ x. MeetsBy looked_view r (look (world_of files V') 200 x m k merge)) b
    (subst (λ x. MeetsBy looked_view r (look (world_of files x) 200 busy m k merge)) v h)))

pub ends_ok : (w : World) (key : List ℕ) (merge : Option Merge) (l : Looked)
    → MeetsBy looked_view (Ok l) (look w 200 [] (module_of key) key merge)
    → looked_up w key merge ≡ Ok (option_map view l.value)
ends_ok w key merge l h = value_of (look w 200 [] (module_of key) key merge) (looked_view l) (h.ok l refl)

pub ends_err : (w : World) (key : List ℕ) (merge : Option Merge) (at : Place) (s : Refused) (t : Stop)
    → MeetsBy looked_view (Err s) (look w 200 [] (module_of key) key merge) → Stops at s t
    → Finds at (Err t) (looked_up w key merge)
ends_err w key merge at (refused.Fault f) (stop.Fault g) h placed =
    (placed.0, fault_of (look w 200 [] (module_of key) key merge) f (h.fault f refl) ∙ ap Err placed.1)
ends_err w key merge at refused.Memory (stop.Fault g) h placed = absurd placed
ends_err w key merge at s stop.Memory h placed = tt
