-- Every run keeps a core sound.
use Rattle.std.proofs.Common.{◌≡◌, ℕ, ◌<◌, ◌≤◌, suc, Bool, true, false, List, [], ◌∷◌, ◌++◌, length, take, drop, Option, None, Some, Result, Ok, Err, refl, ap, subst, arith}
use Rattle.std.specs.Prelude.{IsSomeAnd, if◌then◌else◌, nat_lt, slice_get, remove, option_map, option_and_then}
use Rattle.std.specs.List.{All}
use Rattle.std.proofs.lemmas.Bool.{ltb-true}
use Rattle.std.proofs.lemmas.List.{length-append}
use Rattle.std.proofs.lemmas.List.Elements.{All-nil, All-append, All-push, All-take, All-drop, All-weaker, All-get_or}
use Rattle.std.proofs.lemmas.Option.{slice_get_within, get_or_from_slice_get}
use Rattle.pp_values.specs.Datum.{Datum}
use Rattle.res_core.specs.declared.export_set.ExportSet.{ExportSet}
use Rattle.site_core.specs.Meaning.{Meaning, HasExports}
use Rattle.site_core.specs.Events.{Event, publication, next_entry}
use Rattle.site_core.specs.Sets.{sets_after, site_at, site_after}
use Rattle.site_core.specs.Legal.{meaning_at, MayFollow, Legal}
use Rattle.site_core.specs.Core.{Core, IsSound}
use Rattle.site_core.specs.declared.history.TheConstants.{MOST_ENTRIES}
use Rattle.site_core.specs.Steps.{Step, snap, done, drop_call, add, State, made_set, opened_state, resumed_state, with_entry, with_flight, without_flight, after_done, after_step, after_steps, IsSoundState, RunsAreSound, ResumedRunsAreSound}
use Rattle.site_core.proofs.Keeping.{kept_push}

-- what makes a result of options be there
when_some : {X : Type 0} (b : Bool) (o : Option X) (x : X) → (if b then o else None) ≡ Some x → (b ≡ true)
    × (o ≡ Some x)
when_some true o x is = (refl, is)
when_some false o x is = cc

and_then_some : {X Y : Type 0} (f : X → Option Y) (o : Option X) (y : Y) → option_and_then f o ≡ Some y → (x : X)
    × (o ≡ Some x) × (f x ≡ Some y)
and_then_some f None y is = cc
and_then_some f (Some x) y is = (x, refl, is)

map_some : {X Y : Type 0} (f : X → Y) (o : Option X) (y : Y) → option_map f o ≡ Some y → (x : X) × (o ≡ Some x)
    × (f x ≡ y)
map_some f None y is = cc
map_some f (Some x) y is = (x, refl, cc)

exports_are : {C F : Type 0} (meant : Result (C × ExportSet) F) (set : ExportSet) → made_set meant ≡ Some set →
    HasExports meant set
exports_are (Ok made) set is = cc
exports_are (Err fault) set is = cc

exports_are_at : {C F : Type 0} (o : Option (Result (C × ExportSet) F)) (set : ExportSet) →
    option_and_then made_set o ≡ Some set → IsSomeAnd o (λ meant. HasExports meant set)
exports_are_at None set is = cc
exports_are_at (Some meant) set is = exports_are meant set is

abbrev Within : ℕ → ℕ → Type 0
Within n k = (1 ≤ k) × (k ≤ n)

longer : {X : Type 0} (h : List X) (e : X) (flights : List ℕ) → All (Within (length h)) flights →
    All (Within (length (h ++ e ∷ []))) flights
longer h e flights all = All-weaker (Within (length h)) (Within (length (h ++ e ∷ [])))
    (λ k within. rw (length-append h (e ∷ [])) (within.0, omega arith)) flights all

without : (n : ℕ) (flights : List ℕ) (flight : ℕ) → All (Within n) flights → All (Within n) (remove flights flight)
without n flights flight all =
    All-append (Within n) (take flight flights) (drop (suc flight) flights) (All-take (Within n) flight flights all)
    (All-drop (Within n) (suc flight) flights all)

module _ {S C F : Type 0} (meaning : Meaning S C F) (limit : ℕ) where
  entry_sound : (s : State S) (e : Event S) → IsSoundState meaning limit s → MayFollow meaning s.history e →
      length s.history < limit → IsSoundState meaning limit (with_entry s e)
  entry_sound s e sound follows room =
      record {
        kept = kept_push meaning (record { history = s.history; limit = limit }) s.version (sets_after s.version e)
            s.site (site_after s.site e) e sound.kept follows room
            (ap (λ v. sets_after v e) sound.kept.version_is) refl;
        flights = longer s.history e s.flights sound.flights;
      }

  without_sound : (s : State S) (flight : ℕ) → IsSoundState meaning limit s →
      IsSoundState meaning limit (without_flight s flight)
  without_sound s flight sound = record {
    kept = sound.kept;
    flights = without (length s.history) s.flights flight sound.flights;
  }

  legal_length : (core : Core S) → IsSound meaning core → 1 ≤ length core.history
  legal_length core sound = elim core.history as (λ h. Legal meaning h → 1 ≤ length h)
      [ [] ↦ λ l. absurd l | e ∷ es ↦ λ l. omega arith ] sound.legal

  flight_sound : (s : State S) → IsSoundState meaning limit s → IsSoundState meaning limit (with_flight s)
  flight_sound s sound =
      record {
        kept = sound.kept;
        flights = All-push (Within (length s.history)) s.flights (length s.history) sound.flights
            (legal_length _ sound.kept.sound, omega arith);
      }

  done_sound : (s t : State S) (flight author : ℕ) (node : List ℕ) (facts : Datum) (k : ℕ) →
      IsSoundState meaning limit s → length s.history < limit →
      slice_get s.flights flight ≡ Some k → after_done meaning limit s flight author node facts k ≡ Some t →
      IsSoundState meaning limit t
  done_sound s t flight author node facts k sound room at is =
      let found = map_some _ (option_and_then made_set (meaning_at meaning s.history k node facts)) t is in
      let within : Within (length s.history) k =
      subst (Within (length s.history)) (get_or_from_slice_get s.flights flight k 0 at)
      (All-get_or (Within (length s.history)) s.flights flight 0 (slice_get_within s.flights flight k at)
      sound.flights) in
      subst (IsSoundState meaning limit) found.2
      (without_sound (with_entry s (publication s.history author node facts k found.0)) flight
      (entry_sound s (publication s.history author node facts k found.0) sound
      (record { numbered = refl; some = within.0; earlier = within.1; exported = exports_are_at _ found.0 found.1 })
      room))

  step_sound : (s t : State S) (step : Step S) → IsSoundState meaning limit s → after_step meaning limit s step ≡ Some t →
      IsSoundState meaning limit t
  step_sound s t snap sound is = let e : with_flight s ≡ t = cc in
      subst (IsSoundState meaning limit) e (flight_sound s sound)
  step_sound s t (done flight author node facts) sound is =
      let room = when_some (nat_lt (length s.history) limit) _ t is in
      let call = and_then_some (after_done meaning limit s flight author node facts) (slice_get s.flights flight) t
      room.1 in
      done_sound s t flight author node facts call.0 sound (ltb-true (length s.history) limit room.0) call.1 call.2
  step_sound s t (drop_call flight) sound is =
      let there = when_some (nat_lt flight (length s.flights)) (Some (without_flight s flight)) t is in
      let e : without_flight s flight ≡ t = cc in
      subst (IsSoundState meaning limit) e (without_sound s flight sound)
  step_sound s t (add author what) sound is =
      let room = when_some (nat_lt (length s.history) limit) (Some (with_entry s (next_entry s.history author what)))
      t is in
      let e : with_entry s (next_entry s.history author what) ≡ t = cc in
      subst (IsSoundState meaning limit) e (entry_sound s (next_entry s.history author what) sound refl
      (ltb-true (length s.history) limit room.0))

  steps_sound : (steps : List (Step S)) (s t : State S) → IsSoundState meaning limit s →
      after_steps meaning limit s steps ≡ Some t → IsSoundState meaning limit t
  steps_sound [] s t sound is = let e : s ≡ t = cc in subst (IsSoundState meaning limit) e sound
  steps_sound (step ∷ steps) s t sound is =
      let next = and_then_some (λ u. after_steps meaning limit u steps) (after_step meaning limit s step) t is in
      steps_sound steps next.0 t (step_sound s next.0 step sound next.1) next.2

  opened_sound : (site : S) → 1 ≤ limit → limit ≤ MOST_ENTRIES → IsSoundState meaning limit (opened_state site)
  opened_sound site some most =
      record {
        kept = record {
          sound = record { legal = tt; within = some; bounded = most };
          version_is = refl;
          site_is = refl;
        };
        flights = All-nil (Within 1);
      }

  resumed_sound : (h : List (Event S)) (site : S) → Legal meaning h → length h ≤ limit → limit ≤ MOST_ENTRIES →
      site_at h (length h) ≡ Some site → IsSoundState meaning limit (resumed_state h site)
  resumed_sound h site legal within most is =
      record {
        kept = record {
          sound = record { legal = legal; within = within; bounded = most };
          version_is = refl;
          site_is = is;
        };
        flights = All-nil (Within (length h));
      }

pub runs : {S C F : Type 0} (meaning : Meaning S C F) → RunsAreSound meaning
runs meaning limit site steps s some most is = steps_sound meaning limit steps (opened_state site) s
    (opened_sound meaning limit site some most) is

pub resumed_runs : {S C F : Type 0} (meaning : Meaning S C F) → ResumedRunsAreSound meaning
resumed_runs meaning limit h site steps s legal within most at is = steps_sound meaning limit steps (resumed_state h site)
    s (resumed_sound meaning limit h site legal within most at) is
