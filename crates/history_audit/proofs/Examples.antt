-- The definitions on small values.
use Rattle.std.proofs.Common.{◌≡◌, ℕ, true, false, [], ◌∷◌, List, Ok, Err, refl}
use Rattle.std.specs.Prelude.{codes, pos, if◌then◌else◌}
use Rattle.std.specs.Str.{bytes_eq}
use Rattle.std.specs.Fmt.{digits}
use Rattle.pp_values.specs.Datum.{Datum, int, text, hash, no_entries}
use Rattle.res_core.specs.declared.export_set.ExportSet.{ExportSet}
use Rattle.site_core.specs.Meaning.{Meaning}
use Rattle.site_core.specs.Events.{Event, opens, publishes, adds}
use Rattle.site_core.specs.declared.plain.Plain.TheVariants as ask
use Rattle.export_store.specs.Sameness.{same_set}
use Rattle.history_audit.specs.Audits.{audited_from, audited}
use Rattle.history_audit.specs.VerdictTexts.{verdict_form}
use Rattle.history_audit.specs.declared.verdict.Part.TheVariants as part
use Rattle.history_audit.specs.declared.verdict.Verdict.TheVariants as v

abbrev nothing : ExportSet
nothing = record { items = [] }

-- a notice that is declared in this line, with this message
abbrev notice : ℕ → Datum → ExportSet
notice line message = record {
  items = record {
    node_place = record { file = codes "manifests/site.pp"; line = line };
    item = record {
      kind = codes "notify";
      title = codes "n";
      attributes = (codes "message", message) ∷ [];
      tags = codes "one" ∷ [];
    };
  } ∷ [];
}

-- sets that are the same, in every part

itself : same_set (notice 5 (text (codes "m"))) (notice 5 (text (codes "m"))) ≡ true
itself = refl

another_line : same_set (notice 5 (text (codes "m"))) (notice 6 (text (codes "m"))) ≡ false
another_line = refl

another_case : same_set (notice 5 (text (codes "m"))) (notice 5 (text (codes "M"))) ≡ false
another_case = refl

another_kind_of_value : same_set (notice 5 (text (codes "1"))) (notice 5 (int (pos 1))) ≡ false
another_kind_of_value = refl

one_and_none : same_set (notice 5 (text (codes "m"))) nothing ≡ false
one_and_none = refl

-- A site is a number. In this language node `x` has a fault; each other node exports a notice in the line of that
-- number.

abbrev toy : Meaning ℕ (List ℕ) (List ℕ)
toy site node facts sets =
    if bytes_eq node (codes "x") then Err node else Ok (node, notice site (int (pos 1)))

abbrev published : ℕ → ℕ → ℕ → List ℕ → ExportSet → Event ℕ
published author call k node set =
    publishes (record { author = author; call = call; node = node; facts = hash no_entries; k = k; set = set })

abbrev from_five : ExportSet
from_five = notice 5 (int (pos 1))

abbrev from_seven : ExportSet
from_seven = notice 7 (int (pos 1))

-- legal histories

opened : audited toy (opens 5 ∷ []) ≡ v.Legal 1
unfolding audited audited_from
opened = refl

-- after a deployment the old site still counts for what was made from the entries before it
all_kinds : audited toy (
    opens 5 ∷ published 0 0 1 (codes "a") from_five ∷ published 1 0 1 (codes "b") from_five
    ∷ adds 0 1 (ask.Deactivate (codes "a")) ∷ adds 2 0 (ask.Deploy 7) ∷ published 0 2 5 (codes "b") from_seven
    ∷ published 3 0 4 (codes "b") from_five ∷ []) ≡ v.Legal 7
unfolding audited audited_from
all_kinds = refl

-- each part broken

call_again : audited toy (opens 5 ∷ published 0 0 1 (codes "a") from_five ∷ published 0 0 2 (codes "b") from_five ∷ [])
    ≡ v.Broken 2 part.Call
unfolding audited audited_from
call_again = refl

call_too_great : audited toy (opens 5 ∷ adds 0 1 (ask.Deactivate (codes "a")) ∷ []) ≡ v.Broken 1 part.Call
unfolding audited audited_from
call_too_great = refl

call_of_all : audited toy (opens 5 ∷ published 0 0 1 (codes "a") from_five ∷ adds 1 1 (ask.Deploy 7) ∷ [])
    ≡ v.Broken 2 part.Call
unfolding audited audited_from
call_of_all = refl

k_none : audited toy (opens 5 ∷ published 0 0 0 (codes "a") from_five ∷ []) ≡ v.Broken 1 part.K
unfolding audited audited_from
k_none = refl

k_too_great : audited toy (opens 5 ∷ published 0 0 2 (codes "a") from_five ∷ []) ≡ v.Broken 1 part.K
unfolding audited audited_from
k_too_great = refl

fault : audited toy (opens 5 ∷ published 0 0 1 (codes "x") from_five ∷ []) ≡ v.Broken 1 part.Fault
unfolding audited audited_from
fault = refl

set_empty : audited toy (opens 5 ∷ published 0 0 1 (codes "a") nothing ∷ []) ≡ v.Broken 1 part.Set
unfolding audited audited_from
set_empty = refl

-- what the site before the deployment meant, and what the site after it means
set_of_old_site : audited toy (opens 5 ∷ adds 0 0 (ask.Deploy 7) ∷ published 1 0 2 (codes "b") from_five ∷ [])
    ≡ v.Broken 2 part.Set
unfolding audited audited_from
set_of_old_site = refl

set_of_new_site : audited toy (opens 5 ∷ adds 0 0 (ask.Deploy 7) ∷ published 1 0 1 (codes "b") from_seven ∷ [])
    ≡ v.Broken 2 part.Set
unfolding audited audited_from
set_of_new_site = refl

-- of two broken entries the first one is told

two_entries : audited toy (
    opens 5 ∷ published 0 0 1 (codes "a") from_five ∷ published 1 0 1 (codes "b") nothing
    ∷ published 0 0 1 (codes "x") from_five ∷ [])
    ≡ v.Broken 2 part.Set
unfolding audited audited_from
two_entries = refl

-- of two broken rules in one entry the first one

call_and_k : audited toy (opens 5 ∷ published 0 1 0 (codes "a") from_five ∷ []) ≡ v.Broken 1 part.Call
unfolding audited audited_from
call_and_k = refl

call_and_set : audited toy (opens 5 ∷ published 0 1 1 (codes "a") nothing ∷ []) ≡ v.Broken 1 part.Call
unfolding audited audited_from
call_and_set = refl

k_and_fault : audited toy (opens 5 ∷ published 0 0 0 (codes "x") nothing ∷ []) ≡ v.Broken 1 part.K
unfolding audited audited_from
k_and_fault = refl

-- lists that no history has

no_entry : audited toy [] ≡ v.Broken 0 part.Call
unfolding audited audited_from
no_entry = refl

no_opening : audited toy (adds 0 0 (ask.Deploy 5) ∷ []) ≡ v.Broken 0 part.Call
unfolding audited audited_from
no_opening = refl

opened_again : audited toy (opens 5 ∷ opens 6 ∷ []) ≡ v.Broken 1 part.Call
unfolding audited audited_from
opened_again = refl

-- texts

legal_text : verdict_form (v.Legal 12) ≡ codes "legal 12"
unfolding digits
legal_text = refl

call_text : verdict_form (v.Broken 2 part.Call) ≡ codes "entry 2 call"
unfolding digits
call_text = refl

k_text : verdict_form (v.Broken 10 part.K) ≡ codes "entry 10 k"
unfolding digits
k_text = refl

fault_text : verdict_form (v.Broken 1 part.Fault) ≡ codes "entry 1 fault"
unfolding digits
fault_text = refl

set_text : verdict_form (v.Broken 3 part.Set) ≡ codes "entry 3 set"
unfolding digits
set_text = refl
