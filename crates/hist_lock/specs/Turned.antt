-- The rule of the lock: what is true of its two words, its slot and all views between any two steps.
-- Word 0 counts the turns that were given back, word 1 the tickets that were drawn, both modulo 2^64.
use Rattle.std.specs.Prelude.{◌≡◌, ℕ, ◌+◌, ◌%◌, ◌<◌, ◌≤◌, ◌⊎◌, true, List, [], ◌∷◌, length, Option, Some, slice_get}
use mathlib.Core.Option.{some, none}
use mathlib.Core.List.{IsPrefix}
use lib.ListN.{get_elem?}
use Rattle.atomic_table.specs.Table.{State}
use Rattle.list_sums.specs.Counts.{total, below, times}
use Rattle.hist_lock.specs.Calls.{AreCalls}
use Rattle.hist_lock.specs.Views.{waiting, holding, has_ticket, room_of, held_of, has_number}
use Rattle.hist_lock.specs.declared.view.View.{View}

-- One view beside the list now. `served` turns were given back, and `rooms` is the room of all views together.
pub record Fits {E : Type 0} (author : E → Option ℕ) (served : ℕ) (now : List E) (rooms : ℕ) (v : View E) : Type 0 where
  -- a view without a number has no ticket
  pub counted : waiting v ≤ held_of v
  pub front : IsPrefix v.front now
  pub met : IsPrefix v.met now
  -- whoever has the turn has the ticket that is served, and knows the list
  pub turn : v.holds ≡ true → (v.waits ≡ true) × (v.ticket ≡ served) × (v.front ≡ now)
  -- no other view has room beside this one
  pub only_room : 0 < v.room → rooms ≡ v.room
  pub calls : AreCalls author v.calls v.numbers now
  pub seen : (k : ℕ) → 0 < times k v.calls → k < length v.front

pub record Turned {V E : Type 0} (entries : V → List E) (author : E → Option ℕ) (s : State (Option V) (View E))
    : Type 0 where
  pub served : ℕ
  pub drawn : ℕ
  -- the list now
  pub now : List E
  pub words : s.words ≡ served % 18446744073709551616 ∷ drawn % 18446744073709551616 ∷ []
  -- each ticket that was drawn was served, or is out with one view
  pub tickets : (t : ℕ) → total (has_ticket t) s.views + below served t ≡ below drawn t
  pub drawn_is : drawn ≡ served + total waiting s.views
  -- the authors so far, and those that can still be made
  pub few : total room_of s.views + total held_of s.views ≡ 65536
  -- each number below the count of authors stands in one view, once
  pub once : (a : ℕ) → total (has_number a) s.views ≡ below (total held_of s.views) a
  -- no entry is by an author that was not made
  pub known : (k : ℕ) (e : E) (a : ℕ) → slice_get now k ≡ Some e → author e ≡ Some a → a < total held_of s.views
  pub each : (i : ℕ) (v : View E) → get_elem? s.views i ≡ some v → Fits author served now (total room_of s.views) v
  -- the value is at home and stands for the list now, or it is out with the one view that has the turn
  pub place : ((value : V) × (s.homes ≡ some (Some value) ∷ []) × (entries value ≡ now) × (total holding s.views ≡ 0))
      ⊎ ((s.homes ≡ none ∷ []) × (total holding s.views ≡ 1))
