-- The definitions on small values.
use Rattle.std.proofs.Common.{◌≡◌, ℕ, true, false, [], ◌∷◌, ◌≤◌, List, None, Some, Ok, Err, length, refl, ap, arith}
use Rattle.std.specs.Prelude.{◌*◌, codes, pos, reverse, take, if◌then◌else◌}
use Rattle.std.specs.Str.{bytes_eq}
use Rattle.std.proofs.Math.Dec.{lit≤}
use Rattle.std.specs.FinMap as fin
use Rattle.pp_values.specs.Datum.{Datum, undef, int, text, list, hash, default, no_data, datum, no_entries, entry}
use Rattle.res_core.specs.declared.export_set.ExportSet.{ExportSet}
use Rattle.export_store.specs.Sets.{Sets}
use Rattle.pp_values.specs.Facts.{are_facts}
use Rattle.site_core.specs.Meaning.{Meaning}
use Rattle.site_core.specs.declared.history.TheConstants.{MOST_ENTRIES}
use Rattle.site_core.specs.Events.{Event, opens, publishes, adds, calls_of}
use Rattle.site_core.specs.Sets.{sets_at, site_at, latest_set}
use Rattle.site_core.specs.Legal.{meaning_at, Legal}
use Rattle.site_core.specs.Steps.{snap, done, drop_call, add, opened_state, after_steps}
use Rattle.site_core.specs.declared.plain.Plain.TheVariants as ask

-- facts

a_and_b : are_facts (hash (entry (text (codes "a")) (int (pos 1))
    (entry (text (codes "b")) (list (datum undef no_data)) no_entries))) ≡ true
a_and_b = refl

no_facts_at_all : are_facts (hash no_entries) ≡ true
no_facts_at_all = refl

keys_fall : are_facts (hash (entry (text (codes "b")) undef (entry (text (codes "a")) undef no_entries))) ≡ false
keys_fall = refl

key_twice : are_facts (hash (entry (text (codes "a")) undef (entry (text (codes "a")) undef no_entries))) ≡ false
key_twice = refl

number_as_key : are_facts (hash (entry (int (pos 1)) undef no_entries)) ≡ false
number_as_key = refl

default_within : are_facts (hash (entry (text (codes "a")) (list (datum default no_data)) no_entries)) ≡ false
default_within = refl

no_hash : are_facts (text (codes "a")) ≡ false
no_hash = refl

-- the most entries of a history
limit : MOST_ENTRIES ≡ 1024 * 1024
limit = refl

-- A site is a number, and a node exports nothing or one notice. In this language node `x` has a fault, and each other
-- node exports the
-- notice; a catalog is what it was made from.

abbrev nothing : ExportSet
nothing = record { items = [] }

abbrev one : ExportSet
one = record {
  items = record {
    node_place = record { file = codes "manifests/site.pp"; line = 1 };
    item = record { kind = codes "notify"; title = codes "n"; attributes = []; tags = [] };
  } ∷ [];
}

abbrev toy : Meaning ℕ (ℕ × Sets) (List ℕ)
toy site node facts sets = if bytes_eq node (codes "x") then Err node else Ok ((site, sets), one)

abbrev none : Datum
none = hash no_entries

abbrev published : ℕ → ℕ → ℕ → List ℕ → Event ℕ
published author call k node = publishes (record {
  author = author;
  call = call;
  node = node;
  facts = none;
  k = k;
  set = one;
})

abbrev removed : ℕ → ℕ → List ℕ → Event ℕ
removed author call node = adds author call (ask.Deactivate node)

-- what was published and removed
abbrev short : List (Event ℕ)
short = opens 5 ∷ published 0 0 1 (codes "a") ∷ removed 0 1 (codes "a") ∷ []

none_at_first : sets_at short 1 ≡ fin.empty
none_at_first = refl

then_one : sets_at short 2 ≡ fin.insert fin.empty (codes "a") one
then_one = refl

then_none : sets_at short 3 ≡ fin.remove (fin.insert fin.empty (codes "a") one) (codes "a")
then_none = refl

latest_at_two : latest_set (codes "a") (reverse (take 2 short)) ≡ Some one
latest_at_two = refl

latest_at_three : latest_set (codes "a") (reverse (take 3 short)) ≡ None
latest_at_three = refl

others_have_none : latest_set (codes "b") (reverse short) ≡ None
others_have_none = refl

-- a set that is published once more takes the place of the first one
latest_counts : latest_set (codes "a") (reverse (published 0 0 1 (codes "a") ∷
    publishes (record { author = 1; call = 0; node = codes "a"; facts = none; k = 1; set = nothing }) ∷ [])) ≡ Some
    nothing
latest_counts = refl

site_is_five : site_at short 3 ≡ Some 5
site_is_five = refl

no_site_yet : site_at short 0 ≡ None
no_site_yet = refl

calls_are_two : calls_of 0 short ≡ 2
calls_are_two = refl

calls_are_none : calls_of 1 short ≡ 0
calls_are_none = refl

meant_for_x : meaning_at toy short 2 (codes "x") none ≡ Some (Err (codes "x"))
meant_for_x = refl

-- which histories are legal

short_is_legal : Legal toy short
short_is_legal = (record { numbered = refl; some = lit≤ tt; earlier = lit≤ tt; exported = refl }, (refl, tt))

empty_is_not : Legal toy [] → ⊥
empty_is_not legal = legal

opened_late : Legal toy (opens 5 ∷ opens 6 ∷ []) → ⊥
opened_late legal = legal.0

call_once_more : Legal toy (opens 5 ∷ published 0 0 1 (codes "a") ∷ published 0 0 1 (codes "a") ∷ []) → ⊥
call_once_more legal = let wrong : 0 ≡ 1 = legal.1.0.numbered in omega (arith, wrong)

made_from_nothing : Legal toy (opens 5 ∷ published 0 0 0 (codes "a") ∷ []) → ⊥
made_from_nothing legal = let wrong : 1 ≤ 0 = legal.0.some in omega (arith, wrong)

made_from_itself : Legal toy (opens 5 ∷ published 0 0 2 (codes "a") ∷ []) → ⊥
made_from_itself legal = let wrong : 2 ≤ 1 = legal.0.earlier in omega (arith, wrong)

published_a_fault : Legal toy (opens 5 ∷ published 0 0 1 (codes "x") ∷ []) → ⊥
published_a_fault legal = legal.0.exported

empty_beside_a_right_catalog : Legal toy (opens 5 ∷
    publishes (record { author = 0; call = 0; node = codes "a"; facts = none; k = 1; set = nothing }) ∷ []) → ⊥
empty_beside_a_right_catalog legal = let wrong : 1 ≡ 0 = ap (λ (s : ExportSet). length s.items) legal.0.exported in
    omega (arith, wrong)

-- what may happen

published_and_removed :
    after_steps toy 3 (opened_state 5) (snap ∷ done 0 0 (codes "a") none ∷ add 0 (ask.Deactivate (codes "a")) ∷ [])
    ≡ Some (record {
      history = short;
      version = fin.remove (fin.insert fin.empty (codes "a") one) (codes "a");
      site = 5;
      flights = [];
    })
published_and_removed = refl

-- the compile that ends last publishes last, though it began first
two_in_flight :
    after_steps toy 9 (opened_state 5) (snap ∷ snap ∷ done 1 1 (codes "a") none ∷ done 0 0 (codes "a") none ∷ [])
    ≡ Some (record {
      history = opens 5 ∷ published 1 0 1 (codes "a") ∷ published 0 0 1 (codes "a") ∷ [];
      version = fin.insert (fin.insert fin.empty (codes "a") one) (codes "a") one;
      site = 5;
      flights = [];
    })
two_in_flight = refl

begins_with_all_entries :
    after_steps toy 9 (opened_state 5) (add 0 (ask.Deactivate (codes "a")) ∷ snap ∷ [])
    ≡ Some (record {
      history = opens 5 ∷ removed 0 0 (codes "a") ∷ [];
      version = fin.remove fin.empty (codes "a");
      site = 5;
      flights = 2 ∷ [];
    })
begins_with_all_entries = refl

no_room : after_steps toy 2 (opened_state 5) (snap ∷ snap ∷ done 0 0 (codes "a") none ∷ done 0 0 (codes "a") none ∷
    []) ≡ None
no_room = refl

no_room_for_a_removal : after_steps toy 1 (opened_state 5) (add 0 (ask.Deactivate (codes "a")) ∷ []) ≡ None
no_room_for_a_removal = refl

faults_publish_nothing : after_steps toy 9 (opened_state 5) (snap ∷ done 0 0 (codes "x") none ∷ []) ≡ None
faults_publish_nothing = refl

no_call_in_flight : after_steps toy 9 (opened_state 5) (snap ∷ drop_call 0 ∷ done 0 0 (codes "a") none ∷ []) ≡ None
no_call_in_flight = refl
