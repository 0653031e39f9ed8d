-- A view read in numbers, and what each step makes of it.
use Rattle.std.specs.Prelude.{ℕ, ◌+◌, ◌-◌, true, false, cond, nat_le, List, [], ◌∷◌, ◌++◌, length}
use Rattle.list_sums.specs.Counts.{bit, same, times}
use Rattle.hist_lock.specs.declared.view.View.{View}

module _ {E : Type 0} where
  abbrev pub waiting : View E → ℕ
  waiting v = bit v.waits

  abbrev pub holding : View E → ℕ
  holding v = bit v.holds

  -- 1 where it has this ticket, else 0
  abbrev pub has_ticket : ℕ → View E → ℕ
  has_ticket t v = cond v.waits (same t v.ticket) 0

  abbrev pub room_of : View E → ℕ
  room_of v = v.room

  abbrev pub held_of : View E → ℕ
  held_of v = length v.numbers

  abbrev pub has_number : ℕ → View E → ℕ
  has_number a v = times a v.numbers

  -- the view of the first pass, of a note, and of a pass that was joined into another
  abbrev pub first_view : List E → View E
  first_view now =
      record {
        waits = false;
        ticket = 0;
        holds = false;
        front = now;
        room = 65535;
        numbers = 0 ∷ [];
        calls = [];
        met = [];
      }

  abbrev pub note_view : List E → View E
  note_view front =
      record { waits = false; ticket = 0; holds = false; front = front; room = 0; numbers = []; calls = []; met = [] }

  abbrev pub spent : View E
  spent = note_view []

  abbrev pub drawing : View E → ℕ → View E
  drawing v t = record v { waits = true; ticket = t }

  abbrev pub seizing : View E → List E → View E
  seizing v now = record v { holds = true; front = now }

  abbrev pub giving : View E → List E → List ℕ → View E
  giving v front calls = record v { waits = false; holds = false; front = front; calls = calls }

  -- one author less to make; and the new one, whose number is the count of those so far
  abbrev pub dividing : View E → View E
  dividing v = record v { room = v.room - 1 }

  abbrev pub divided : View E → View E
  divided v = record (note_view v.front) { numbers = (65536 - v.room) ∷ [] }

  -- two views in one: it keeps the shorter front as `met`
  abbrev pub joined : View E → View E → View E
  joined v w =
      record v {
        front = cond (nat_le (length w.front) (length v.front)) v.front w.front;
        met = cond (nat_le (length w.front) (length v.front)) w.front v.front;
        room = v.room + w.room;
        numbers = v.numbers ++ w.numbers;
        calls = v.calls ++ w.calls;
      }
