-- How a pass and a note stand over seats of the table.
use Rattle.std.specs.Prelude.{◌≡◌, ℕ, ◌+◌, ◌≤◌, Bool, true, false, [], ◌∷◌, length, Option, Some, None, slice_get}
use Rattle.atomic_table.specs.declared.shared.Seat.{Seat}
use Rattle.hist_lock.specs.Calls.{AreCalls}
use Rattle.hist_lock.specs.Held.{Held, Noted}
use Rattle.hist_lock.specs.declared.view.View.{View}

module _ {V E : Type 0} where
  abbrev pub held_by : Seat (Option V) (View E) → ℕ → Held E
  held_by s author = record {
    lock = s.table_id;
    front = s.me.0.front;
    calls = s.me.0.calls;
    numbers = s.me.0.numbers;
    room = s.me.0.room;
    author = author;
    turn = s.me.0.holds;
  }

  -- a seat with the turn has taken the slot, whose value is out of it; one without has neither slot nor ticket
  abbrev pub IsPlaced : Bool → Seat (Option V) (View E) → Type 0
  IsPlaced true s = s.me.1 ≡ (0, None) ∷ []
  IsPlaced false s = (s.me.0.waits ≡ false) × (s.me.1 ≡ [])

  pub record IsPass (author : E → Option ℕ) (s : Seat (Option V) (View E)) (spare number : ℕ) : Type 0 where
    pub spare_is : spare ≡ s.me.0.room
    pub few : s.me.0.room + length s.me.0.numbers ≤ 65536
    pub mine : slice_get s.me.0.numbers 0 ≡ Some number
    -- its calls are the entries of its authors in its front
    pub own : AreCalls author s.me.0.calls s.me.0.numbers s.me.0.front
    pub placed : IsPlaced s.me.0.holds s

  abbrev pub noted_by : Seat (Option V) (View E) → Noted E
  noted_by s = record { lock = s.table_id; front = s.me.0.front }

  -- a note has no ticket, no author, no room and no call
  pub record IsNote (s : Seat (Option V) (View E)) : Type 0 where
    pub waits : s.me.0.waits ≡ false
    pub holds : s.me.0.holds ≡ false
    pub numbers : s.me.0.numbers ≡ []
    pub room : s.me.0.room ≡ 0
    pub calls : s.me.0.calls ≡ []
    pub slots : s.me.1 ≡ []
