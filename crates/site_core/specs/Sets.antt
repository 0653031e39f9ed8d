-- The exported sets and the site after the first entries of a history.
use Rattle.std.specs.Prelude.{◌≡◌, ℕ, if◌then◌else◌, List, [], ◌∷◌, take, reverse, Option, None, Some}
use Rattle.std.specs.Str.{bytes_eq}
use Rattle.std.specs.FinMap as fin
use Rattle.std.specs.Option.{unwrap_or}
use Rattle.res_core.specs.declared.export_set.ExportSet.{ExportSet}
use Rattle.export_store.specs.Sets.{Sets}
use Rattle.site_core.specs.Events.{Event, opens, publishes, adds}
use Rattle.site_core.specs.declared.plain.Plain.TheVariants as ask

module _ {S : Type 0} where
  -- one more entry: a publication takes the place of its node's set, a deactivation takes its node's set away, and no
  -- other one changes a set
  abbrev pub sets_after : Sets → Event S → Sets
  sets_after sets (opens site) = sets
  sets_after sets (publishes p) = fin.insert sets p.node p.set
  sets_after sets (adds author call (ask.Deactivate node)) = fin.remove sets node
  sets_after sets (adds author call (ask.Deploy site)) = sets
  sets_after sets (adds author call (ask.Report node report)) = sets

  abbrev pub sets_from : Sets → List (Event S) → Sets
  sets_from sets [] = sets
  sets_from sets (e ∷ es) = sets_from (sets_after sets e) es

  -- the sets after the first k entries
  abbrev pub sets_at : List (Event S) → ℕ → Sets
  sets_at h k = sets_from fin.empty (take k h)

  -- of entries from the latest to the first: the set of the node's latest publication, unless a deactivation of the
  -- node came later
  abbrev pub latest_set : List ℕ → List (Event S) → Option ExportSet
  latest_set node [] = None
  latest_set node (opens site ∷ earlier) = latest_set node earlier
  latest_set node (publishes p ∷ earlier) = if bytes_eq node p.node then Some p.set else latest_set node earlier
  latest_set node (adds author call (ask.Deactivate gone) ∷ earlier) =
      if bytes_eq node gone then None else latest_set node earlier
  latest_set node (adds author call (ask.Deploy site) ∷ earlier) = latest_set node earlier
  latest_set node (adds author call (ask.Report about report) ∷ earlier) = latest_set node earlier

  -- the site that an entry carries: an opening and a deployment carry one
  abbrev pub site_in : Event S → Option S
  site_in (opens site) = Some site
  site_in (publishes p) = None
  site_in (adds author call (ask.Deactivate node)) = None
  site_in (adds author call (ask.Deploy site)) = Some site
  site_in (adds author call (ask.Report node report)) = None

  abbrev pub first_of : Option S → Option S → Option S
  first_of None later = later
  first_of (Some site) later = Some site

  -- of entries from the latest to the first: the site of the latest that carries one
  abbrev pub latest_site : List (Event S) → Option S
  latest_site [] = None
  latest_site (e ∷ earlier) = first_of (site_in e) (latest_site earlier)

  -- the site after the first k entries
  abbrev pub site_at : List (Event S) → ℕ → Option S
  site_at h k = latest_site (reverse (take k h))

  -- one more entry: the site in force stays, unless the entry carries one
  abbrev pub site_after : S → Event S → S
  site_after now e = unwrap_or (site_in e) now

-- After the first k entries each node has the set of its last publication among them after which no deactivation of it
-- stands
-- among them, and the other nodes have none.
abbrev pub SetsAreTheLatest : Type 0 → Type 0
SetsAreTheLatest S = (h : List (Event S)) (k : ℕ) (node : List ℕ) →
    fin.get (sets_at h k) node ≡ latest_set node (reverse (take k h))
