-- A site that takes another one's place, reports, and a history that is gone on with.
use Rattle.std.proofs.Common.{◌≡◌, ℕ, ◌≤◌, [], ◌∷◌, List, Option, None, Some, Result, Ok, Err, length, refl, ap, arith}
use Rattle.std.specs.Prelude.{codes, if◌then◌else◌, nat_eq}
use Rattle.std.proofs.Math.Dec.{lit≤}
use Rattle.std.specs.FinMap as fin
use Rattle.pp_values.specs.Datum.{Datum, hash, no_entries}
use Rattle.res_core.specs.declared.export_set.ExportSet.{ExportSet}
use Rattle.agent_machine.specs.declared.report.Report.{Report}
use Rattle.site_core.specs.Asked.{Asked, compile, plain, filed}
use Rattle.site_core.specs.Meaning.{Meaning}
use Rattle.site_core.specs.Events.{Event, opens, publishes, adds}
use Rattle.site_core.specs.Fits.{Fits, had, named}
use Rattle.site_core.specs.Legal.{Legal}
use Rattle.site_core.specs.Resuming.{base_of, Resumes}
use Rattle.site_core.specs.Sets.{sets_at, site_at}
use Rattle.site_core.specs.Steps.{snap, done, add, resumed_state, after_steps}
use Rattle.site_core.specs.declared.plain.Plain.TheVariants as ask
use Rattle.site_core.specs.declared.reply.ReplyOf.{ReplyOf}
use Rattle.site_core.specs.declared.reply.ReplyOf.TheVariants as r
use Rattle.site_core.specs.declared.resume_stop.ResumeStop.TheVariants as stop

-- A site is a number, which is each catalog. Under site 5 a node exports one notice, under any other one nothing.

abbrev nothing : ExportSet
nothing = record { items = [] }

abbrev one : ExportSet
one = record {
  items = record {
    node_place = record { file = codes "manifests/site.pp"; line = 1 };
    item = record { kind = codes "notify"; title = codes "n"; attributes = []; tags = [] };
  } ∷ [];
}

abbrev toy : Meaning ℕ ℕ (List ℕ)
toy site node facts sets = Ok (site, if nat_eq site 5 then one else nothing)

abbrev none : Datum
none = hash no_entries

abbrev listed : ℕ → List ℕ → Option Datum
listed site node = Some none

abbrev published : ℕ → ℕ → ℕ → ExportSet → Event ℕ
published author call k set =
    publishes (record { author = author; call = call; node = codes "a"; facts = none; k = k; set = set })

abbrev report : Report
report = record { node = codes "a"; lines = [] }

-- While author 0 compiles node `a` the second time, author 1 deploys site 6. Then a report is filed.
abbrev before : List (Event ℕ)
before = opens 5 ∷ published 0 0 1 one ∷ adds 1 0 (ask.Deploy 6) ∷ []

abbrev five : List (Event ℕ)
five = opens 5 ∷ published 0 0 1 one ∷ adds 1 0 (ask.Deploy 6) ∷ published 0 1 2 one ∷ adds 0 2 (filed report) ∷ []

-- the site in force

opened_first : site_at five 2 ≡ Some 5
opened_first = refl

deployed_then : site_at five 3 ≡ Some 6
deployed_then = refl

goes_on_being_in_force : site_at five 5 ≡ Some 6
goes_on_being_in_force = refl

deployment_leaves_the_sets : sets_at five 3 ≡ sets_at five 2
deployment_leaves_the_sets = refl

report_leaves_the_sets : sets_at five 5 ≡ fin.insert (fin.insert fin.empty (codes "a") one) (codes "a") one
report_leaves_the_sets = refl

-- which histories are legal

-- a publication that was made from entries before the deployment has the exports of the site that was in force then
legal : Legal toy five
legal = (
  record { numbered = refl; some = lit≤ tt; earlier = lit≤ tt; exported = refl },
  (refl, (record { numbered = refl; some = lit≤ tt; earlier = lit≤ tt; exported = refl }, (refl, tt))),
)

exports_of_the_new_site_too_early : Legal toy (opens 5 ∷ adds 1 0 (ask.Deploy 6) ∷ published 0 0 1 nothing ∷ []) → ⊥
exports_of_the_new_site_too_early legal =
    let wrong : 1 ≡ 0 = ap (λ (s : ExportSet). length s.items) legal.1.0.exported in omega (arith, wrong)

exports_of_the_old_site_too_late : Legal toy (opens 5 ∷ adds 1 0 (ask.Deploy 6) ∷ published 0 0 2 one ∷ []) → ⊥
exports_of_the_old_site_too_late legal =
    let wrong : 0 ≡ 1 = ap (λ (s : ExportSet). length s.items) legal.1.0.exported in omega (arith, wrong)

exports_of_the_new_site : Legal toy (opens 5 ∷ adds 1 0 (ask.Deploy 6) ∷ published 0 0 2 nothing ∷ [])
exports_of_the_new_site =
    (refl, (record { numbered = refl; some = lit≤ tt; earlier = lit≤ tt; exported = refl }, tt))

deployed_with_a_number_twice : Legal toy (opens 5 ∷ adds 1 0 (ask.Deploy 6) ∷ adds 1 0 (ask.Deploy 7) ∷ []) → ⊥
deployed_with_a_number_twice legal = let wrong : 0 ≡ 1 = legal.1.0 in omega (arith, wrong)

-- what fits

abbrev FitsFive : ℕ → ℕ → Asked ℕ → ReplyOf ℕ (List ℕ) → Type 0
FitsFive = Fits toy listed five 5

abbrev asks : Asked ℕ
asks = compile (record { node = codes "a"; facts = None; seen = 0 })

-- a compile in flight keeps the site of its k
served_by_the_old_site : FitsFive 0 2 asks (r.Served 3 2 5)
served_by_the_old_site = (
  record { had = lit≤ tt; told = lit≤ tt; low = lit≤ tt; high = lit≤ tt },
  record {
    later = lit≤ tt;
    inside = lit≤ tt;
    facts = none;
    set = one;
    call = 1;
    means = record { site = 5; site_is = refl; facts_are = refl; meant = refl };
    at = refl;
  },
)

abbrev catalog_in : Result (ℕ × ExportSet) (List ℕ) → ℕ
catalog_in (Ok made) = made.0
catalog_in (Err fault) = 9

abbrev or_nine : Option ℕ → ℕ
or_nine None = 9
or_nine (Some n) = n

not_by_the_new_site : FitsFive 0 2 asks (r.Served 3 2 6) → ⊥
not_by_the_new_site (fresh, is) = let at : 5 ≡ is.means.site = ap or_nine is.means.site_is in
    let made : is.means.site ≡ 6 = ap (λ m. catalog_in m) is.means.meant in omega (arith, at, made)

deployed : FitsFive 1 1 (plain (ask.Deploy 6)) (r.Deployed 2)
deployed = (refl, lit≤ tt, record { inside = lit≤ tt; call = 0; at = refl })

reported : FitsFive 0 4 (plain (filed report)) (r.Reported 4)
reported = (refl, lit≤ tt, record { inside = lit≤ tt; call = 2; at = refl })

full_for_a_deployment : FitsFive 1 3 (plain (ask.Deploy 7)) (r.HistoryFull 5)
full_for_a_deployment = (refl, refl)

-- what doesn't

abbrev author_in : Option (Event ℕ) → ℕ
author_in (Some (adds author call what)) = author
author_in e = 9

abbrev site_in : Option (Event ℕ) → ℕ
site_in (Some (adds author call (ask.Deploy site))) = site
site_in e = 9

another_site : FitsFive 1 1 (plain (ask.Deploy 7)) (r.Deployed 2) → ⊥
another_site (kind, low, is) = omega (arith, ap site_in is.at)

no_removal : FitsFive 1 1 (plain (ask.Deploy 6)) (r.Deactivated 2) → ⊥
no_removal (kind, low, is) = absurd (cc kind)

no_report : FitsFive 0 1 (plain (filed report)) (r.Deployed 4) → ⊥
no_report (kind, low, is) = absurd (cc kind)

another_authors_deployment : FitsFive 0 1 (plain (ask.Deploy 6)) (r.Deployed 2) → ⊥
another_authors_deployment (kind, low, is) = omega (arith, ap author_in is.at)

-- what was seen and named

seen_after_a_deployment : had {C = ℕ} {F = List ℕ} 1 (r.Deployed 2) ≡ 3
seen_after_a_deployment = refl

seen_after_a_report : had {C = ℕ} {F = List ℕ} 1 (r.Reported 4) ≡ 5
seen_after_a_report = refl

named_by_a_deployment : named {C = ℕ} {F = List ℕ} (r.Deployed 2) ≡ 2 ∷ []
named_by_a_deployment = refl

named_by_a_report : named {C = ℕ} {F = List ℕ} (r.Reported 4) ≡ 4 ∷ []
named_by_a_report = refl

-- a history that is gone on with

base_is_past_all_authors : base_of five ≡ 2
base_is_past_all_authors = refl

base_of_an_opening : base_of {S = ℕ} (opens 5 ∷ []) ≡ 0
base_of_an_opening = refl

-- each author's entries are numbered on from those in the history
numbered_on :
    after_steps toy 9 (resumed_state five 6) (add 0 (ask.Deactivate (codes "a")) ∷ add 2 (ask.Deploy 7) ∷ snap ∷ [])
    ≡ Some (record {
      history = opens 5 ∷ published 0 0 1 one ∷ adds 1 0 (ask.Deploy 6) ∷ published 0 1 2 one ∷ adds 0 2 (filed report)
          ∷ adds 0 3 (ask.Deactivate (codes "a")) ∷ adds 2 0 (ask.Deploy 7) ∷ [];
      version = fin.remove (fin.insert (fin.insert fin.empty (codes "a") one) (codes "a") one) (codes "a");
      site = 7;
      flights = 7 ∷ [];
    })
numbered_on = refl

-- a compile that began before a deployment publishes what its own site means
ends_behind_a_deployment :
    after_steps toy 9 (resumed_state (opens 5 ∷ []) 5) (snap ∷ add 1 (ask.Deploy 6) ∷ done 0 0 (codes "a") none ∷ [])
    ≡ Some (record {
      history = opens 5 ∷ adds 1 0 (ask.Deploy 6) ∷ published 0 0 1 one ∷ [];
      version = fin.insert fin.empty (codes "a") one;
      site = 6;
      flights = [];
    })
ends_behind_a_deployment = refl

gone_on_with : Resumes five 9 (Ok (record { history = five; limit = 9 }))
gone_on_with = (lit≤ tt, refl)

too_great : Resumes {S = ℕ} (opens 5 ∷ adds 2147483649 0 (ask.Deploy 6) ∷ []) 9 (Err (stop.Authors 2147483649))
too_great = (refl, lit≤ tt)

not_too_great : Resumes {S = ℕ} (opens 5 ∷ adds 2147483648 0 (ask.Deploy 6) ∷ []) 9 (Err (stop.Authors 2147483648)) → ⊥
not_too_great (is, wrong) = let less : 2147483649 ≤ 2147483648 = wrong in omega (arith, less)
