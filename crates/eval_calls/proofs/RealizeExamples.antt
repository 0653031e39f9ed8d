-- The function `realize` at worked examples. Each line holds by computing.
use Rattle.std.proofs.Common.{◌≡◌, pos, List, [], ◌∷◌, Option, Some, map, Result, Ok, Err, refl, codes}
use Rattle.pp_values.specs.Datum as d
use Rattle.pp_values.specs.Datum.{Datum, data_of}
use Rattle.pp_values.specs.Faults as faults
use Rattle.pp_values.specs.declared.fault.Fault.{Fault}
use Rattle.pp_values.specs.declared.fault.Subject.TheVariants as subject
use Rattle.pp_values.specs.declared.fault.What.{What}
use Rattle.pp_values.specs.declared.fault.What.TheVariants as what
use Rattle.pp_values.specs.declared.place.Place.{Place}
use Rattle.pp_values.specs.declared.reference.Reference.{Reference}
use Rattle.eval_world.specs.Environment.{Environment}
use Rattle.eval_world.specs.Outcomes.{Outcome}
use Rattle.eval_world.specs.Owners.{owner_at}
use Rattle.eval_world.specs.Worlds.{empty, top}
use Rattle.eval_collectors.specs.Collectors.{realize_rule, register_reference, register}
use Rattle.eval_calls.specs.Realizing.{arguments_from, references_from, realize_from, realize_all, realized}

-- ---- references and values

abbrev notify_a : Reference
notify_a = record { kind = codes "notify"; title = codes "a" }

abbrev vhost_b : Reference
vhost_b = record { kind = codes "web::vhost"; title = codes "b" }

abbrev class_a : Reference
class_a = record { kind = codes "class"; title = codes "a" }

abbrev to : Reference → Datum
to r = d.reference r

abbrev list : List Datum → Datum
list ds = d.list (data_of ds)

-- ---- what a call does in the empty world

abbrev place : Place
place = record { file = codes "manifests/site.pp"; line = 3 }

abbrev left_by : Outcome Datum → Result (Datum × List (Option Reference)) Fault
left_by (Ok p) = Ok (p.0, map (λ c. c.realized) p.1.relations.collectors)
left_by (Err f) = Err f

abbrev call : List Datum → Environment → Result (Datum × List (Option Reference)) Fault
call arguments environment = left_by (realized (codes "realize") arguments 3 top (empty environment))

-- it is Undef, and registers a collector of each of these references
abbrev Registers : List Datum → List Reference → Type 0
Registers arguments rs = (environment : Environment) → call arguments environment ≡ Ok (d.undef, map Some rs)

abbrev Fails : List Datum → What → Type 0
Fails arguments details = (environment : Environment) → call arguments environment ≡ Err (faults.fault place details)

-- ---- examples

two : Registers (to vhost_b ∷ to notify_a ∷ []) (vhost_b ∷ notify_a ∷ [])
unfolding realized arguments_from references_from realize_all realize_from realize_rule register_reference register owner_at
two environment = refl

-- lists are flattened; a reference may come twice
in_lists : Registers (list (to notify_a ∷ list (to vhost_b ∷ []) ∷ []) ∷ to notify_a ∷ []) (notify_a ∷ vhost_b ∷ notify_a ∷ [])
unfolding realized arguments_from references_from realize_all realize_from realize_rule register_reference register owner_at
in_lists environment = refl

empty_list : Registers (list [] ∷ []) []
unfolding realized arguments_from references_from realize_all realize_from
empty_list environment = refl

no_argument : Fails [] (what.WrongArguments (codes "realize"))
unfolding realized owner_at
no_argument environment = refl

-- a text is no reference, and all arguments are looked at before a class is refused
a_text : Fails (to class_a ∷ list (d.text (codes "a") ∷ []) ∷ []) (what.WrongArguments (codes "realize"))
unfolding realized arguments_from references_from owner_at
a_text environment = refl

a_number : Fails (d.int (pos 1) ∷ []) (what.WrongArguments (codes "realize"))
unfolding realized arguments_from references_from owner_at
a_number environment = refl

a_class : Fails (to notify_a ∷ to class_a ∷ []) (what.ClassVirtual (subject.Reference class_a))
unfolding realized arguments_from references_from realize_all realize_from realize_rule register_reference register owner_at
a_class environment = refl
