-- What a caller sees of a pass and of a note, and what each call makes of it.
use Rattle.std.specs.Prelude.{◌≡◌, ℕ, ◌+◌, ◌-◌, Bool, true, false, List, [], ◌∷◌, ◌++◌, length}
use Rattle.atomic_table.specs.Seated.{TableId}

-- which lock it is
abbrev pub LockId : Type 0
LockId = TableId

pub record Held (E : Type 0) : Type 0 where
  pub lock : LockId
  -- the entries that it has seen, from the first on
  pub front : List E
  -- the places of the entries that its authors wrote
  pub calls : List ℕ
  -- the authors that it stands for, its own first
  pub numbers : List ℕ
  -- how many authors can still be made from it
  pub room : ℕ
  pub author : ℕ
  -- whether it has the turn
  pub turn : Bool

pub record Noted (E : Type 0) : Type 0 where
  pub lock : LockId
  pub front : List E

module _ {E : Type 0} where
  -- how many authors it stands for
  abbrev pub held : Held E → ℕ
  held p = length p.numbers

  -- a pass of this lock without the turn, which accounts for so many of its 65,536 authors, those that can still be
  -- made included
  abbrev pub IsShare : LockId → ℕ → Held E → Type 0
  IsShare lock count p = (p.lock ≡ lock) × (p.turn ≡ false) × (p.room + held p ≡ count)

  abbrev pub first_pass : LockId → List E → Held E
  first_pass lock now =
      record { lock = lock; front = now; calls = []; numbers = 0 ∷ []; room = 65535; author = 0; turn = false }

  abbrev pub taking : Held E → List E → Held E
  taking p now = record p { front = now; turn = true }

  abbrev pub giving_back : Held E → Held E
  giving_back p = record p { turn = false }

  -- one entry more in the list, which is a call of this pass
  abbrev pub adding : Held E → List E → Held E
  adding p now = record p { front = now; calls = p.calls ++ length p.front ∷ []; turn = false }

  -- the pass that a new one was split from, and the new one: its author's number is the count of authors so far
  abbrev pub splitting : Held E → Held E
  splitting p = record p { room = p.room - 1 }

  abbrev pub split_off : Held E → Held E
  split_off p =
      record {
        lock = p.lock;
        front = p.front;
        calls = [];
        numbers = (65536 - p.room) ∷ [];
        room = 0;
        author = 65536 - p.room;
        turn = false;
      }

  abbrev pub note_of : Held E → Noted E
  note_of p = record { lock = p.lock; front = p.front }

  abbrev pub meeting : Held E → List E → Held E
  meeting p front = record p { front = front }

  abbrev pub joining : Held E → Held E → List E → Held E
  joining p q front =
      record p { front = front; calls = p.calls ++ q.calls; numbers = p.numbers ++ q.numbers; room = p.room + q.room }
