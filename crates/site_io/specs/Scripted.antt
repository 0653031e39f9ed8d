-- What contracts see of a form in memory that is told which of its calls are to fail.
use Rattle.std.specs.Prelude.{◌≡◌, ℕ, Bool, false, if◌then◌else◌, nat_eq, nat_lt, ◌||◌, ◌&&◌, List, [], Some, None}
use Rattle.std.specs.List.{list_any}
use Rattle.site_io.specs.Stream.{Stream, next_count}

pub record Scripted : Type 0 where
  pub stream : Stream
  -- how many calls it has met
  pub calls : ℕ
  -- the numbers of the calls that are to fail, counted from 1
  pub failing : List ℕ

-- whether the next call is to fail
abbrev pub is_failing_next : Scripted → Bool
is_failing_next s = list_any (λ n. nat_eq n (next_count s.calls)) s.failing

-- One call was counted, and a fault where it was to fail.
pub record IsNextCall (failed : Bool) (before after : Scripted) : Type 0 where
  pub calls : after.calls ≡ next_count before.calls
  pub failing : after.failing ≡ before.failing
  pub faults : after.stream.faults ≡ (if failed then next_count before.stream.faults else before.stream.faults)

-- No call was counted.
pub record IsNoCall (before after : Scripted) : Type 0 where
  pub calls : after.calls ≡ before.calls
  pub failing : after.failing ≡ before.failing
  pub faults : after.stream.faults ≡ before.stream.faults

-- the stream of a source in memory, from which these bytes were read and those are left
abbrev pub source_stream : ℕ → List ℕ → List ℕ → Stream
source_stream faults read left =
    record { faults = faults; left = Some left; read = Some read; written = None; shut = None; events = None }

-- the stream of a sink in memory, to which these bytes were written
abbrev pub sink_stream : ℕ → List ℕ → Stream
sink_stream faults bytes = record { faults = faults; left = None; read = None; written = Some bytes; shut = None; events = None }

-- the stream of a connection in memory
abbrev pub conn_stream : ℕ → List ℕ → List ℕ → List ℕ → Bool → Stream
conn_stream faults read left written shut =
    record { faults = faults; left = Some left; read = Some read; written = Some written; shut = Some shut; events = None }

-- a sink that has room for so many bytes more
pub record ScriptedSink : Type 0 where
  pub scripted : Scripted
  pub room : ℕ

-- whether a write of `count` bytes is to fail, or finds no room
abbrev pub is_refused : ScriptedSink → ℕ → Bool
is_refused s count = is_failing_next s.scripted || (nat_eq s.room 0 && nat_lt 0 count)

-- a source of these bytes, and a sink with this room, before their first calls
abbrev pub new_source : List ℕ → List ℕ → Scripted
new_source bytes failing = record { stream = source_stream 0 [] bytes; calls = 0; failing = failing }

abbrev pub new_sink : ℕ → List ℕ → ScriptedSink
new_sink room failing =
    record { scripted = record { stream = sink_stream 0 []; calls = 0; failing = failing }; room = room }

-- a connection with these bytes to be read and this room, before its first call
abbrev pub new_conn : List ℕ → ℕ → List ℕ → ScriptedSink
new_conn bytes room failing =
    record { scripted = record { stream = conn_stream 0 [] bytes [] false; calls = 0; failing = failing }; room = room }
