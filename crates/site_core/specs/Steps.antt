-- What may happen to a core, and what it comes to.
use Rattle.std.specs.Prelude.{◌≡◌, ℕ, ◌≤◌, nat_lt, if◌then◌else◌, List, [], ◌∷◌, ◌++◌, length, remove, slice_get}
use Rattle.std.specs.Prelude.{Option, None, Some, Result, Ok, Err, option_map, option_and_then}
use Rattle.std.specs.List.{All}
use Rattle.std.specs.FinMap as fin
use Rattle.pp_values.specs.Datum.{Datum}
use Rattle.res_core.specs.declared.export_set.ExportSet.{ExportSet}
use Rattle.export_store.specs.Sets.{Sets}
use Rattle.site_core.specs.Meaning.{Meaning}
use Rattle.site_core.specs.Events.{Event, opens, publication, next_entry}
use Rattle.site_core.specs.Sets.{sets_at, sets_after, site_at, site_after}
use Rattle.site_core.specs.Legal.{meaning_at, Legal}
use Rattle.site_core.specs.Core.{IsKept}
use Rattle.site_core.specs.declared.history.TheConstants.{MOST_ENTRIES}
use Rattle.site_core.specs.declared.plain.Plain.{Plain}

-- A compile begins (`snap`) and ends: it publishes (`done`), or its call is dropped. The calls in flight are numbered
-- from 0. A plain entry is added at once (`add`).
pub data Step (S : Type 0) : Type 0 where
  snap : Step S
  done : (flight author : ℕ) (node : List ℕ) (facts : Datum) → Step S
  drop_call : (flight : ℕ) → Step S
  add : (author : ℕ) → Plain S → Step S

-- a history, the version and the site that are kept beside it, and of each call in flight the number of entries that it
-- began with
pub record State (S : Type 0) : Type 0 where
  pub history : List (Event S)
  pub version : Sets
  pub site : S
  pub flights : List ℕ

-- the exports, where what is meant is no fault
abbrev pub made_set : {C F : Type 0} → Result (C × ExportSet) F → Option ExportSet
made_set (Ok made) = Some made.1
made_set (Err fault) = None

module _ {S : Type 0} where
  -- just opened, with no call in flight
  abbrev pub opened_state : S → State S
  opened_state site = record { history = opens site ∷ []; version = fin.empty; site = site; flights = [] }

  -- over a history that was handed in, after which this site is in force
  abbrev pub resumed_state : List (Event S) → S → State S
  resumed_state h site = record { history = h; version = sets_at h (length h); site = site; flights = [] }

  -- one more entry, by which version and site are kept up
  abbrev pub with_entry : State S → Event S → State S
  with_entry s e = record s {
    history = s.history ++ e ∷ [];
    version = sets_after s.version e;
    site = site_after s.site e;
  }

  -- one more call in flight, which begins with the entries so far
  abbrev pub with_flight : State S → State S
  with_flight s = record s { flights = s.flights ++ length s.history ∷ [] }

  abbrev pub without_flight : State S → ℕ → State S
  without_flight s flight = record s { flights = remove s.flights flight }

module _ {S C F : Type 0} (meaning : Meaning S C F) (limit : ℕ) where
  -- the call with that k publishes, where its meaning at k is no fault
  abbrev pub after_done : State S → ℕ → ℕ → List ℕ → Datum → ℕ → Option (State S)
  after_done s flight author node facts k =
      option_map (λ set. without_flight (with_entry s (publication s.history author node facts k set)) flight)
      (option_and_then made_set (meaning_at meaning s.history k node facts))

  -- the state after a step, or nothing where the step can't be taken
  abbrev pub after_step : State S → Step S → Option (State S)
  after_step s snap = Some (with_flight s)
  after_step s (done flight author node facts) =
      if nat_lt (length s.history) limit then option_and_then (after_done s flight author node facts)
      (slice_get s.flights flight) else None
  after_step s (drop_call flight) = if nat_lt flight (length s.flights) then Some (without_flight s flight) else None
  after_step s (add author what) =
      if nat_lt (length s.history) limit then Some (with_entry s (next_entry s.history author what)) else None

  -- the state after all steps in turn
  abbrev pub after_steps : State S → List (Step S) → Option (State S)
  after_steps s [] = Some s
  after_steps s (step ∷ steps) = option_and_then (λ t. after_steps t steps) (after_step s step)

  -- the history is legal and within its limit, the version and the site are those after all entries,
  -- and each call in flight began with entries of the history
  pub record IsSoundState (s : State S) : Type 0 where
    pub kept : IsKept meaning (record { history = s.history; limit = limit }) s.version s.site
    pub flights : All (λ k. (1 ≤ k) × (k ≤ length s.history)) s.flights

-- whatever the steps from the opening on
abbrev pub RunsAreSound : {S C F : Type 0} → Meaning S C F → Type 0
RunsAreSound {S} meaning =
    (limit : ℕ) (site : S) (steps : List (Step S)) (s : State S) → 1 ≤ limit → limit ≤ MOST_ENTRIES →
    after_steps meaning limit (opened_state site) steps ≡ Some s → IsSoundState meaning limit s

-- and whatever the steps from a legal history on
abbrev pub ResumedRunsAreSound : {S C F : Type 0} → Meaning S C F → Type 0
ResumedRunsAreSound {S} meaning =
    (limit : ℕ) (h : List (Event S)) (site : S) (steps : List (Step S)) (s : State S) → Legal meaning h →
    length h ≤ limit → limit ≤ MOST_ENTRIES → site_at h (length h) ≡ Some site →
    after_steps meaning limit (resumed_state h site) steps ≡ Some s → IsSoundState meaning limit s
