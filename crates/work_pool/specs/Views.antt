-- A view read in numbers, and what each step makes of it.
use Rattle.std.specs.Prelude.{ℕ, ◌+◌, ◌-◌, max, [], ◌∷◌, ◌++◌}
use Rattle.list_sums.specs.Counts.{times}
use Rattle.work_pool.specs.declared.view.View.{View}

abbrev pub has_number : ℕ → View → ℕ
has_number a v = times a v.numbers

abbrev pub room_of : View → ℕ
room_of v = v.room

abbrev pub held_of : View → ℕ
held_of v = v.held

abbrev pub past_of : View → ℕ
past_of v = v.past

-- the view of the first seat, and of a seat that was joined into another
abbrev pub first_view : ℕ → View
first_view count = record { count = count; numbers = []; known = 0; room = 65535; held = 1; past = 0 }

abbrev pub spent : View
spent = record { count = 0; numbers = []; known = 0; room = 0; held = 0; past = 0 }

abbrev pub looking : View → ℕ → View
looking v found = record v { known = found }

-- a number was left, or none was
abbrev pub claiming : View → ℕ → View
claiming v found = record v { numbers = v.numbers ++ found ∷ []; known = found + 1 }

abbrev pub passing : View → ℕ → View
passing v found = record v { known = found + 1; past = v.past + 1 }

abbrev pub dividing : View → View
dividing v = record v { room = v.room - 1 }

abbrev pub divided : View → View
divided v = record { count = v.count; numbers = []; known = v.known; room = 0; held = 1; past = 0 }

abbrev pub joined : View → View → View
joined v w =
    record v {
      numbers = v.numbers ++ w.numbers;
      known = max v.known w.known;
      room = v.room + w.room;
      held = v.held + w.held;
      past = v.past + w.past;
    }
