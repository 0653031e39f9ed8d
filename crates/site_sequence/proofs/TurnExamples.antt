-- Turns of requests on small values.
use Rattle.std.proofs.Common.{◌≡◌, ℕ, false, List, [], ◌∷◌, Option, None, Some, Ok, Err, refl}
use Rattle.std.specs.Prelude.{codes, if◌then◌else◌}
use Rattle.std.specs.Str.{bytes_eq}
use Rattle.pp_values.specs.Datum.{Datum, hash, no_entries}
use Rattle.site_core.specs.Asked.{Asked, compile, plain}
use Rattle.res_core.specs.declared.export_set.ExportSet.{ExportSet}
use Rattle.site_core.specs.Meaning.{Meaning}
use Rattle.site_core.specs.Events.{Event, opens, publishes, adds}
use Rattle.site_core.specs.declared.plain.Plain.TheVariants as ask
use Rattle.site_core.specs.declared.reply.ReplyOf.TheVariants as r
use Rattle.site_sequence.specs.Sequence.{turn, turn_for, outcome_of}
use Rattle.site_sequence.specs.SequenceLaws.{are_made_in_turn}

-- A site is a number, which is each catalog. Node `bad` has a fault, and each other one exports nothing. The site lists
-- node `a`.

abbrev nothing : ExportSet
nothing = record { items = [] }

abbrev toy : Meaning ℕ ℕ (List ℕ)
toy site node facts sets = if bytes_eq node (codes "bad") then Err node else Ok (site, nothing)

abbrev none : Datum
none = hash no_entries

abbrev listed : ℕ → List ℕ → Option Datum
listed site node = if bytes_eq node (codes "a") then Some none else None

abbrev start : List (Event ℕ)
start = opens 5 ∷ []

abbrev published : ℕ → ℕ → List ℕ → Event ℕ
published call k node = publishes (record { author = 0; call = call; node = node; facts = none; k = k; set = nothing })

abbrev asks : List ℕ → ℕ → Asked ℕ
asks node seen = compile (record { node = node; facts = None; seen = seen })

abbrev asks_with_facts : List ℕ → Asked ℕ
asks_with_facts node = compile (record { node = node; facts = Some none; seen = 0 })

served : turn_for toy listed 2 start (asks (codes "a") 1) ≡ Some
    (turn (r.Served 1 1 5) (opens 5 ∷ published 0 1 (codes "a") ∷ []))
served = refl

seen_ahead : turn_for toy listed 2 start (asks (codes "b") 2) ≡ Some (turn (r.SeenAhead 1) start)
seen_ahead = refl

not_listed : turn_for toy listed 2 start (asks (codes "b") 1) ≡ Some (turn (r.UnknownNode 1) start)
not_listed = refl

not_listed_but_given : turn_for toy listed 2 start (asks_with_facts (codes "b")) ≡ Some
    (turn (r.Served 1 1 5) (opens 5 ∷ published 0 1 (codes "b") ∷ []))
not_listed_but_given = refl

refused : turn_for toy listed 2 start (asks_with_facts (codes "bad")) ≡ Some (turn (r.Refused 1 (codes "bad")) start)
refused = refl

full : turn_for toy listed 1 start (asks (codes "a") 0) ≡ Some (turn (r.HistoryFull 1) start)
full = refl

refused_before_full : turn_for toy listed 1 start (asks_with_facts (codes "bad")) ≡ Some
    (turn (r.Refused 1 (codes "bad")) start)
refused_before_full = refl

removed : turn_for toy listed 2 start (plain (ask.Deactivate (codes "b")))
    ≡ Some (turn (r.Deactivated 1) (opens 5 ∷ adds 0 0 (ask.Deactivate (codes "b")) ∷ []))
removed = refl

no_room_to_remove : turn_for toy listed 1 start (plain (ask.Deactivate (codes "b"))) ≡ Some (turn (r.HistoryFull 1) start)
no_room_to_remove = refl

deployed : turn_for toy listed 2 start (plain (ask.Deploy 6))
    ≡ Some (turn (r.Deployed 1) (opens 5 ∷ adds 0 0 (ask.Deploy 6) ∷ []))
deployed = refl

served_by_the_site_in_force :
    turn_for toy listed 3 (opens 5 ∷ adds 0 0 (ask.Deploy 6) ∷ []) (asks (codes "a") 0)
    ≡ Some (turn (r.Served 2 2 6) (opens 5 ∷ adds 0 0 (ask.Deploy 6) ∷ published 1 2 (codes "a") ∷ []))
served_by_the_site_in_force = refl

no_site_no_turn : turn_for toy listed 2 [] (asks (codes "a") 0) ≡ None
no_site_no_turn = refl

three : outcome_of toy listed 9 start (asks (codes "a") 0 ∷ asks_with_facts (codes "bad") ∷ asks (codes "a") 2 ∷ [])
    ≡ Some (record {
      replies = r.Served 1 1 5 ∷ r.Refused 2 (codes "bad") ∷ r.Served 2 2 5 ∷ [];
      history = opens 5 ∷ published 0 1 (codes "a") ∷ published 1 2 (codes "a") ∷ [];
    })
unfolding outcome_of
three = refl

made_from_too_few : are_made_in_turn 0 (opens 5 ∷ published 0 1 (codes "a") ∷ published 1 1 (codes "a") ∷ []) ≡ false
made_from_too_few = refl
