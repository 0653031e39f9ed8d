-- What a history tells: its entries, with what each value in them says.
use Rattle.std.specs.Prelude.{◌≡◌, ◌⊎◌, ℕ, Bool, true, false, ◌==◌, ◌&&◌, List, [], ◌∷◌, Option, None, Some, refl}
use Rattle.std.proofs.Common.{inl, inr}
use Rattle.std.specs.List.{list_all, count_by}
use Rattle.std.specs.Coded.{Coded, code_by, coded×, coded⊎, coded_list, coded_ℕ}
use Rattle.pp_values.specs.Datum.{Datum}
use Rattle.pp_values.specs.Codes.{coded_text, coded_datum}
use Rattle.res_core.specs.declared.export_set.ExportSet.{ExportSet}
use Rattle.res_core.specs.ExportSetCodes.{coded_export_set}
use Rattle.pp_values.specs.Facts.{are_facts}
use Rattle.agent_machine.specs.declared.report.Report.{Report}
use Rattle.agent_machine.specs.ReportCodes.{coded_report}
use Rattle.site_core.specs.declared.plain.Plain.{Plain}
use Rattle.site_core.specs.declared.plain.Plain.TheVariants as ask

-- a node's exports take the place of those that it had; `call` numbers the author's entries from 0,
-- and the set was made from the first `k` entries
pub record Publication : Type 0 where
  pub author : ℕ
  pub call : ℕ
  pub node : List ℕ
  pub facts : Datum
  pub k : ℕ
  pub set : ExportSet

-- `adds` is a plain entry: one that may stand behind any others
pub data Event (S : Type 0) : Type 0 where
  opens : S → Event S
  publishes : Publication → Event S
  adds : (author call : ℕ) → Plain S → Event S

module _ {S : Type 0} where
  abbrev pub is_opening : Event S → Bool
  is_opening (opens site) = true
  is_opening (publishes p) = false
  is_opening (adds author call what) = false

  -- may stand behind other entries: it opens no site, and has facts where it has any
  abbrev pub is_later : Event S → Bool
  is_later (opens site) = false
  is_later (publishes p) = are_facts p.facts
  is_later (adds author call what) = true

  -- the first one opens a site, and no other one does
  abbrev pub are_entries : List (Event S) → Bool
  are_entries [] = false
  are_entries (e ∷ es) = is_opening e && list_all is_later es

  abbrev pub is_by : ℕ → Event S → Bool
  is_by author (opens site) = false
  is_by author (publishes p) = p.author == author
  is_by author (adds adder call what) = adder == author

  -- whose entry it is
  abbrev pub author_of : Event S → Option ℕ
  author_of (opens site) = None
  author_of (publishes p) = Some p.author
  author_of (adds author call what) = Some author

  -- how many of the entries are of this author
  abbrev pub calls_of : ℕ → List (Event S) → ℕ
  calls_of author h = count_by (is_by author) h

  -- the author's next entry behind the entries h
  abbrev pub publication : List (Event S) → ℕ → List ℕ → Datum → ℕ → ExportSet → Event S
  publication h author node facts k set =
      publishes (record { author = author; call = calls_of author h; node = node; facts = facts; k = k; set = set })

  abbrev pub next_entry : List (Event S) → ℕ → Plain S → Event S
  next_entry h author what = adds author (calls_of author h) what

-- the codes by which a proof tells entries apart
abbrev pub coded_publication : Coded Publication
coded_publication =
    code_by ((ℕ × ℕ) × ((List ℕ × Datum) × (ℕ × ExportSet)))
    (coded× (coded× coded_ℕ coded_ℕ) (coded× (coded× coded_text coded_datum) (coded× coded_ℕ coded_export_set)))
    (λ p. ((p.author, p.call), ((p.node, p.facts), (p.k, p.set))))
    (λ q. record { author = q.0.0; call = q.0.1; node = q.1.0.0; facts = q.1.0.1; k = q.1.1.0; set = q.1.1.1 })
    (λ _. refl)

module _ {S : Type 0} where
  abbrev pub plain_cases : Plain S → List ℕ ⊎ (S ⊎ (List ℕ × Report))
  plain_cases (ask.Deactivate node) = inl node
  plain_cases (ask.Deploy site) = inr (inl site)
  plain_cases (ask.Report node report) = inr (inr (node, report))

  abbrev pub plain_of : List ℕ ⊎ (S ⊎ (List ℕ × Report)) → Plain S
  plain_of (inl node) = ask.Deactivate node
  plain_of (inr (inl site)) = ask.Deploy site
  plain_of (inr (inr filed)) = ask.Report filed.0 filed.1

  pub plain-cases : (what : Plain S) → plain_of (plain_cases what) ≡ what
  plain-cases (ask.Deactivate node) = refl
  plain-cases (ask.Deploy site) = refl
  plain-cases (ask.Report node report) = refl

  abbrev pub coded_plain : Coded S → Coded (Plain S)
  coded_plain site = code_by (List ℕ ⊎ (S ⊎ (List ℕ × Report)))
      (coded⊎ coded_text (coded⊎ site (coded× coded_text coded_report))) plain_cases plain_of plain-cases

  abbrev pub cases : Event S → S ⊎ (Publication ⊎ ((ℕ × ℕ) × Plain S))
  cases (opens site) = inl site
  cases (publishes p) = inr (inl p)
  cases (adds author call what) = inr (inr ((author, call), what))

  abbrev pub event : S ⊎ (Publication ⊎ ((ℕ × ℕ) × Plain S)) → Event S
  event (inl site) = opens site
  event (inr (inl p)) = publishes p
  event (inr (inr q)) = adds q.0.0 q.0.1 q.1

  pub event-cases : (e : Event S) → event (cases e) ≡ e
  event-cases (opens site) = refl
  event-cases (publishes p) = refl
  event-cases (adds author call what) = refl

  abbrev pub coded_event : Coded S → Coded (Event S)
  coded_event site = code_by (S ⊎ (Publication ⊎ ((ℕ × ℕ) × Plain S)))
      (coded⊎ site (coded⊎ coded_publication (coded× (coded× coded_ℕ coded_ℕ) (coded_plain site)))) cases event
      event-cases

  abbrev pub coded_events : Coded S → Coded (List (Event S))
  coded_events site = coded_list (coded_event site)
