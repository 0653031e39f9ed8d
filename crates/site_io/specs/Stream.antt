-- What contracts see of an object of the outside, and what a call does to it.
use Rattle.std.specs.Prelude.{◌≡◌, ℕ, ◌+◌, ◌-◌, ◌^◌, ◌≤◌, min, Bool, true, List, [], Option, option_map}
use Rattle.std.specs.Io.KnownBytes.{Consumes, append_known}
use Rattle.site_io.specs.Events.{Event, Since, Move, Sends}

-- A count of faults, and what the object tells of its bytes: `None` where it tells nothing.
pub record Stream : Type 0 where
  pub faults : ℕ
  -- the bytes still to be read
  pub left : Option (List ℕ)
  -- the bytes read so far
  pub read : Option (List ℕ)
  -- the bytes written so far
  pub written : Option (List ℕ)
  -- whether it was shut, as a connection is; a source and a sink are never shut, and tell nothing of it
  pub shut : Option Bool
  -- its reads and writes so far, in the order of the calls
  pub events : Option (List Event)

-- one more, but a u64 stands still at its last value
abbrev pub next_count : ℕ → ℕ
next_count n = min (n + 1) (2 ^ 64 - 1)

-- the count rose, or it stands at the last value of a u64
abbrev pub Rose : ℕ → ℕ → Type 0
Rose before now = next_count before ≤ now

-- These bytes were read, and nothing else changed but, perhaps, the count. They are the next ones where the
-- stream tells what it has left; a stream that doesn't may begin to, as at its end.
pub record HasRead (bytes : List ℕ) (before after : Stream) : Type 0 where
  pub later : before.faults ≤ after.faults
  pub left : Consumes before.left after.left bytes
  pub read : after.read ≡ append_known before.read bytes
  pub written : after.written ≡ before.written
  pub shut : after.shut ≡ before.shut
  pub events : Since (Move bytes []) before.events after.events

-- these bytes were written, and nothing else changed but, perhaps, the count
pub record HasWritten (bytes : List ℕ) (before after : Stream) : Type 0 where
  pub later : before.faults ≤ after.faults
  pub left : after.left ≡ before.left
  pub read : after.read ≡ before.read
  pub written : after.written ≡ append_known before.written bytes
  pub shut : after.shut ≡ before.shut
  pub events : Since (Sends bytes) before.events after.events

-- the count rose, and nothing else changed
pub record HasFailed (before after : Stream) : Type 0 where
  pub later : before.faults ≤ after.faults
  pub rose : Rose before.faults after.faults
  pub left : after.left ≡ before.left
  pub read : after.read ≡ before.read
  pub written : after.written ≡ before.written
  pub shut : after.shut ≡ before.shut
  pub events : after.events ≡ before.events

-- it was shut, and nothing else changed but, perhaps, the count
pub record HasShut (before after : Stream) : Type 0 where
  pub later : before.faults ≤ after.faults
  pub left : after.left ≡ before.left
  pub read : after.read ≡ before.read
  pub written : after.written ≡ before.written
  pub shut : after.shut ≡ option_map (λ _. true) before.shut
  pub events : after.events ≡ before.events

-- these bytes were read and those were written, in turns, and nothing else changed but, perhaps, the count
pub record HasTraded (bytes text : List ℕ) (before after : Stream) : Type 0 where
  pub later : before.faults ≤ after.faults
  pub left : Consumes before.left after.left bytes
  pub read : after.read ≡ append_known before.read bytes
  pub written : after.written ≡ append_known before.written text
  pub shut : after.shut ≡ before.shut
  pub events : Since (Move bytes text) before.events after.events
