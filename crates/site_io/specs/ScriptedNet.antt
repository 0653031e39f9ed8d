-- What contracts see of a listener in memory.
use Rattle.std.specs.Prelude.{◌≡◌, ℕ, Bool, true, false, if◌then◌else◌, nat_eq, List, [], map, reverse, Option, Some}
use Rattle.std.specs.Prelude.{option_map}
use Rattle.std.specs.List.{list_any}
use Rattle.site_io.specs.declared.connection.Accept.{Accept}
use Rattle.site_io.specs.declared.connection.Accept.TheVariants as accept
use Rattle.site_io.specs.declared.connection.Bound.{Bound}
use Rattle.site_io.specs.declared.connection.Bound.TheVariants as bound
use Rattle.site_io.specs.Stream.{Stream, next_count}
use Rattle.site_io.specs.Scripted.{ScriptedSink}
use Rattle.site_io.specs.Net.{Net, Lines}

abbrev pub stream_of : ScriptedSink → Stream
stream_of c = c.scripted.stream

-- connections that wait, the next one last, and those that were given
abbrev pub lines_of : List ScriptedSink → List (Option ScriptedSink) → Lines
lines_of waiting given = record { waiting = map stream_of (reverse waiting); given = map (option_map stream_of) given }

pub record ScriptedNet : Type 0 where
  pub net : Net
  -- how many calls it has met
  pub calls : ℕ
  -- the numbers of the calls that are to fail, counted from 1
  pub failing : List ℕ

-- whether the next call is to fail
abbrev pub is_failing_now : ScriptedNet → Bool
is_failing_now s = list_any (λ n. nat_eq n (next_count s.calls)) s.failing

-- One call was counted, and a fault where it was to fail.
pub record IsNextTurn (failed : Bool) (before after : ScriptedNet) : Type 0 where
  pub calls : after.calls ≡ next_count before.calls
  pub failing : after.failing ≡ before.failing
  pub faults : after.net.faults ≡ (if failed then next_count before.net.faults else before.net.faults)

-- No call was counted.
pub record IsNoTurn (before after : ScriptedNet) : Type 0 where
  pub calls : after.calls ≡ before.calls
  pub failing : after.failing ≡ before.failing
  pub faults : after.net.faults ≡ before.net.faults

abbrev pub is_failed_bound : Bound → Bool
is_failed_bound bound.Listening = false
is_failed_bound bound.Failed = true

abbrev pub is_failed_accept : {C : Type 0} → Accept C → Bool
is_failed_accept (accept.Connection c) = false
is_failed_accept accept.Closed = false
is_failed_accept accept.Failed = true

-- a listener with these connections, before its first call
abbrev pub new_listener : List Stream → List ℕ → ScriptedNet
new_listener waiting failing =
    record {
      net = record { faults = 0; told = Some (record { waiting = waiting; given = [] }) };
      calls = 0;
      failing = failing;
    }
