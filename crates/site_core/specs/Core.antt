-- What a `CoreState` is seen as, and what it keeps.
use Rattle.std.specs.Prelude.{◌≡◌, ℕ, ◌≤◌, List, [], ◌∷◌, ◌++◌, length, Some, refl}
use Rattle.std.specs.Coded.{Coded, code_by, coded×, coded_ℕ}
use Rattle.export_store.specs.Sets.{Sets}
use Rattle.site_core.specs.Meaning.{Meaning}
use Rattle.site_core.specs.Events.{Event, opens, coded_events}
use Rattle.site_core.specs.Sets.{sets_at, site_at}
use Rattle.site_core.specs.Legal.{Legal}
use Rattle.site_core.specs.declared.history.TheConstants.{MOST_ENTRIES}

-- a history, and how many entries it may have
pub record Core (S : Type 0) : Type 0 where
  pub history : List (Event S)
  pub limit : ℕ

abbrev pub coded_core : {S : Type 0} → Coded S → Coded (Core S)
coded_core {S} site =
    code_by (List (Event S) × ℕ) (coded× (coded_events site) coded_ℕ) (λ c. (c.history, c.limit))
    (λ p. record { history = p.0; limit = p.1 }) (λ _. refl)

-- just opened
abbrev pub opened : {S : Type 0} → S → ℕ → Core S
opened site limit = record { history = opens site ∷ []; limit = limit }

-- with one more entry
abbrev pub with_event : {S : Type 0} → Core S → Event S → Core S
with_event core e = record { history = core.history ++ e ∷ []; limit = core.limit }

-- the history is legal and within its limit
pub record IsSound {S C F : Type 0} (meaning : Meaning S C F) (core : Core S) : Type 0 where
  pub legal : Legal meaning core.history
  pub within : length core.history ≤ core.limit
  pub bounded : core.limit ≤ MOST_ENTRIES

-- besides, the version that is kept beside it is the sets after all entries, and the site is the one after all entries
pub record IsKept {S C F : Type 0} (meaning : Meaning S C F) (core : Core S) (version : Sets) (site : S) : Type 0 where
  pub sound : IsSound meaning core
  pub version_is : version ≡ sets_at core.history (length core.history)
  pub site_is : site_at core.history (length core.history) ≡ Some site
