-- No document that is made as a tree has a float, so that its text is exact.
use Rattle.std.proofs.Common.{◌≡◌, ℕ, Bool, true, false, ◌||◌, List, [], ◌∷◌, map, refl, ap, ◌∙◌}
use Rattle.std.specs.declared.cmp.Ordering.TheVariants.{Less, Equal, Greater}
use Rattle.std.specs.Cmp.Lexicographic.{slice_cmp}
use Rattle.std.specs.Ordering.{nat_cmp, match_ordering}
use Rattle.serde_json.specs.Data.{Data, null, Members, no_members, member, put, string, array}
use Rattle.serde_json.specs.View.{items_of}
use Rattle.serde_json.specs.Written.{has_float, members_have_float}
use Rattle.pp_values.specs.Datum.{Datum}
use Rattle.res_core.specs.declared.export_set.ExportSet.{ExportSet}
use Rattle.res_core.specs.declared.exported.Exported.{Exported}
use Rattle.agent_machine.specs.declared.report.Report.{Report}
use Rattle.site_core.specs.Events.{Event, opens, publishes, adds}
use Rattle.site_core.specs.declared.plain.Plain.{Plain}
use Rattle.site_core.specs.declared.plain.Plain.TheVariants as ask
use Rattle.json_values.specs.ValueForm.{form, put_all}
use Rattle.json_values.proofs.Floats.{either, form_no_float, settings_no_float, all_no_float}
use Rattle.site_bundle.specs.SiteView.{SiteView, Filed}
use Rattle.site_docs.specs.SiteText.{site_object, file_settings, site_data}
use Rattle.agent_docs.specs.ReportText.{report_data}
use Rattle.agent_docs.proofs.ReportFloats.{report_no_float}
use Rattle.site_docs.specs.JournalText.{export_object, export_data, set_data, opening_object, publication_object, deactivation_object, deployment_object, filing_object, count_object, plain_data, entry_data}
use Rattle.site_docs.specs.ReplyText.{refused_object, full_object, ahead_object, unknown_object, deactivated_object, deployed_object, reported_object, memory_object}

or_first : (a b : Bool) → (a || b) ≡ false → a ≡ false
or_first true b h = h
or_first false b h = refl

or_second : (a b : Bool) → (a || b) ≡ false → b ≡ false
or_second true b h = absurd cc
or_second false b h = h

put_no_float : (name : List ℕ) (d : Data) (ms : Members) → has_float d ≡ false → members_have_float ms ≡ false →
    members_have_float (put name d ms) ≡ false
put_no_float name d no_members one all = either _ _ one refl
put_no_float name d (member l e ms) one all =
    elim (slice_cmp nat_cmp name l) as (λ r. members_have_float
    (match_ordering r (member name d (member l e ms)) (member l d ms) (member l e (put name d ms))) ≡ false) [
      | Less ↦ either _ _ one all
      | Equal ↦ either _ _ one (or_second (has_float e) (members_have_float ms) all)
      | Greater ↦
          either _ _ (or_first (has_float e) (members_have_float ms) all)
          (put_no_float name d ms one (or_second (has_float e) (members_have_float ms) all))
    ]

files_no_float : (fs : List Filed) (ms : Members) → members_have_float ms ≡ false →
    members_have_float (put_all (file_settings fs) ms) ≡ false
files_no_float [] ms none = none
files_no_float (f ∷ fs) ms none =
    files_no_float fs (put f.0 (string f.1) ms) (put_no_float f.0 (string f.1) ms refl none)

pub site_no_float : (s : SiteView) → has_float (site_data s) ≡ false
unfolding site_data site_object
site_no_float s =
    either _ _ (files_no_float s.data (put_all (file_settings s.manifests) no_members)
    (files_no_float s.manifests no_members refl))
    (either _ _ (settings_no_float s.nodes) refl)

export_no_float : (e : Exported) → has_float (export_data e) ≡ false
unfolding export_data export_object
export_no_float e = either _ _ (settings_no_float e.item.attributes)
    (either _ _ (all_no_float string (λ t. refl) e.item.tags) refl)

pub set_no_float : (set : ExportSet) → has_float (set_data set) ≡ false
set_no_float set = all_no_float export_data export_no_float set.items

opening_no_float : (n : ℕ) (s : SiteView) → has_float (opening_object n (site_data s)) ≡ false
unfolding opening_object
opening_no_float n s = either _ _ (site_no_float s) refl

publication_no_float : (author call entry k : ℕ) (facts : Datum) (node : List ℕ) (set : List Exported) →
    has_float (publication_object author call entry (form facts) k node
    (array (items_of (map export_data set)))) ≡ false
unfolding publication_object
publication_no_float author call entry k facts node set =
    either _ _ (form_no_float facts) (either _ _ (all_no_float export_data export_no_float set) refl)

deactivation_no_float : (author call entry : ℕ) (node : List ℕ) →
    has_float (deactivation_object author call entry node) ≡ false
unfolding deactivation_object
deactivation_no_float author call entry node = refl

deployment_no_float : (author call entry : ℕ) (s : SiteView) →
    has_float (deployment_object author call entry (site_data s)) ≡ false
unfolding deployment_object
deployment_no_float author call entry s = either _ _ (site_no_float s) refl

filing_no_float : (author call entry : ℕ) (node : List ℕ) (r : Report) →
    has_float (filing_object author call entry node (report_data r)) ≡ false
unfolding filing_object
filing_no_float author call entry node r = either _ _ (report_no_float r) refl

-- what is there in the place of a report has none
pub unfiled_form : (author call entry : ℕ) (node : List ℕ) (f d : Data) → f ≡ filing_object author call entry node d → d ≡ null →
    has_float f ≡ false
unfolding filing_object
unfiled_form author call entry node f d made none = ap has_float (made ∙ ap (filing_object author call entry node) none)

plain_no_float : (author call entry : ℕ) (what : Plain SiteView) → has_float (plain_data author call entry what) ≡ false
unfolding plain_data
plain_no_float author call entry (ask.Deactivate node) = deactivation_no_float author call entry node
plain_no_float author call entry (ask.Deploy site) = deployment_no_float author call entry site
plain_no_float author call entry (ask.Report node report) = filing_no_float author call entry node report

pub entry_no_float : (n : ℕ) (e : Event SiteView) → has_float (entry_data n e) ≡ false
unfolding entry_data
entry_no_float n (opens site) = opening_no_float n site
entry_no_float n (publishes p) = publication_no_float p.author p.call n p.k p.facts p.node p.set.items
entry_no_float n (adds author call what) = plain_no_float author call n what

pub count_no_float : (n : ℕ) → has_float (count_object n) ≡ false
unfolding count_object
count_no_float n = refl

pub refused_no_float : (reply k : ℕ) (fault : List ℕ) → has_float (refused_object reply k fault) ≡ false
unfolding refused_object
refused_no_float reply k fault = refl

pub full_no_float : (reply length : ℕ) → has_float (full_object reply length) ≡ false
unfolding full_object
full_no_float reply length = refl

pub ahead_no_float : (reply length seen : ℕ) → has_float (ahead_object reply length seen) ≡ false
unfolding ahead_object
ahead_no_float reply length seen = refl

pub unknown_no_float : (reply k : ℕ) (node : List ℕ) → has_float (unknown_object reply k node) ≡ false
unfolding unknown_object
unknown_no_float reply k node = refl

pub deactivated_no_float : (reply entry : ℕ) → has_float (deactivated_object reply entry) ≡ false
unfolding deactivated_object
deactivated_no_float reply entry = refl

pub deployed_no_float : (reply entry : ℕ) → has_float (deployed_object reply entry) ≡ false
unfolding deployed_object
deployed_no_float reply entry = refl

pub reported_no_float : (reply entry : ℕ) → has_float (reported_object reply entry) ≡ false
unfolding reported_object
reported_no_float reply entry = refl

pub memory_no_float : (reply : ℕ) → has_float (memory_object reply) ≡ false
unfolding memory_object
memory_no_float reply = refl
