-- A run by waves so far.
use Rattle.std.specs.Prelude.{◌≡◌, ℕ, ◌<◌, List, [], ◌++◌, map, length, get_or, Vec, Result, MatchResult}
use Rattle.std.specs.List.{All}
use Rattle.std.specs.declared.alloc.Global.{Global}
use Rattle.pp_values.specs.declared.memory.Memory.{Memory}
use Rattle.rel_graph.specs.Before.{Before, Direct}
use Rattle.agent_machine.specs.Machines.{Told}
use Rattle.agent_machine.specs.declared.report_line.ReportLine.{ReportLine}
use Rattle.agent_marks.specs.Spreads.{Marking}
use Rattle.agent_transaction.specs.Marking.{planned_pair, AreMarks}
use Rattle.agent_transaction.specs.Runs.{Turned, has_failed, signals}
use Rattle.agent_transaction.specs.declared.planned.Planned.{Planned}
use Rattle.agent_transaction.specs.declared.task.Task.{Task}
use Rattle.wide_apply.specs.Waves.{AreWaves}
use Rattle.wide_apply.specs.WideRuns.{turn_of, together, turns_of, lines_at, rising_lines, IsTurnedApart, GiveBack}
use Rattle.wide_apply.specs.WideRuns.{TakeWaves, AreFirst}

-- what contains what, what comes before what, and by which of these changes are signalled
pub record Related : Type 0 where
  pub containers : List (ℕ × ℕ)
  pub edges : List (ℕ × ℕ)
  pub signals : List (ℕ × ℕ)

abbrev pub comes : Related → ℕ → ℕ → Type 0
comes r = Before r.containers r.edges

abbrev pub leads : Related → ℕ → ℕ → Type 0
leads r = Direct r.containers r.signals

-- the lines of each resource
pub record AreFiled (turned : List Turned) (slots : List (Vec ReportLine Global)) : Type 0 where
  pub lines : (at : ℕ) (d : Vec ReportLine Global) → at < length slots → (get_or slots at d).items ≡ lines_at at turned

-- what is known of those that had their turns
pub record AreKnown (r : Related) (turned : List Turned) (slots : List (Vec ReportLine Global))
    (blocked signalled : Marking) : Type 0 where
  pub filed : AreFiled turned slots
  pub blocks : AreMarks has_failed (comes r) turned blocked
  pub sources : AreMarks signals (leads r) turned signalled

abbrev pub tasks_in : List (Vec Planned Global) → List (List (ℕ × Task))
tasks_in = map (λ wave. map planned_pair wave.items)

-- the indexes are those of resources
pub record AreWithin (ats : List ℕ) (slots : List (Vec ReportLine Global)) (blocked signalled : Marking) : Type 0 where
  pub in_slots : All (λ at. at < length slots) ats
  pub in_blocked : All (λ at. at < blocked.count) ats
  pub in_signalled : All (λ at. at < signalled.count) ats

-- so many as before
pub record SameSizes (slots slots_after : List (Vec ReportLine Global))
    (blocked blocked_after signalled signalled_after : Marking) : Type 0 where
  pub same_slots : length slots_after ≡ length slots
  pub same_blocked : blocked_after.count ≡ blocked.count
  pub same_signalled : signalled_after.count ≡ signalled.count

-- the turns of a wave, as the machine was found and left
pub record IsWave (r : Related) (earlier : List Turned) (tasks : List (ℕ × Task)) (slots : List (Vec ReportLine Global))
    (blocked signalled : Marking) (found after : Told) : Type 0 where
  pub wave : List Turned
  pub whose : map turn_of wave ≡ tasks
  pub apart : All (IsTurnedApart (comes r) (leads r) earlier found) wave
  pub back : GiveBack wave found after
  pub known : AreKnown r (earlier ++ wave) slots blocked signalled

pub record IsCutWave (r : Related) (earlier : List Turned) (tasks : List (ℕ × Task)) (found after : Told) : Type 0 where
  pub begun : List Turned
  pub left : List (ℕ × Task)
  pub first : map turn_of begun ++ left ≡ tasks
  pub apart : All (IsTurnedApart (comes r) (leads r) earlier found) begun
  pub back : GiveBack begun found after

abbrev pub WaveGives : Related → List Turned → List (ℕ × Task) → Result Unit Memory → List (Vec ReportLine Global) →
    Marking → Marking → Told → Told → Type 0
WaveGives r earlier tasks result slots blocked signalled found after =
    MatchResult result (λ _. IsWave r earlier tasks slots blocked signalled found after)
    (λ _. IsCutWave r earlier tasks found after)

-- some waves are done, and others left
pub record Going (r : Related) (waves left : List (List (ℕ × Task))) (slots : List (Vec ReportLine Global))
    (blocked signalled : Marking) (start now : Told) : Type 0 where
  pub done : List (List Turned)
  pub whose : turns_of done ++ left ≡ waves
  pub each : TakeWaves (comes r) (leads r) [] done start now
  pub known : AreKnown r (together done) slots blocked signalled

-- some waves were done, and of the next one some turns
pub record IsCutRun (r : Related) (waves : List (List (ℕ × Task))) (start after : Told) : Type 0 where
  pub done : List (List Turned)
  pub begun : List Turned
  pub left : List (List (ℕ × Task))
  pub middle : Told
  pub whose : turns_of done ++ left ≡ waves
  pub each : TakeWaves (comes r) (leads r) [] done start middle
  pub first : AreFirst (map turn_of begun) left
  pub apart : All (IsTurnedApart (comes r) (leads r) (together done) middle) begun
  pub back : GiveBack begun middle after

pub record IsWholeRun (r : Related) (waves : List (List (ℕ × Task))) (count : ℕ) (lines : List ReportLine)
    (start after : Told) : Type 0 where
  pub done : List (List Turned)
  pub whose : turns_of done ≡ waves
  pub each : TakeWaves (comes r) (leads r) [] done start after
  pub rising : lines ≡ rising_lines 0 count (together done)

abbrev pub WavesGive : Related → List (List (ℕ × Task)) → ℕ → Result (List ReportLine) Memory → Told → Told → Type 0
WavesGive r waves count result start after =
    MatchResult result (λ lines. IsWholeRun r waves count lines start after) (λ _. IsCutRun r waves start after)

-- the turns of a plan by waves, of which each is that of a resource
pub record IsSorted (Comes : ℕ → ℕ → Type 0) (plan : List Planned) (lists : List (Vec Planned Global)) : Type 0 where
  pub waves : AreWaves Comes (map planned_pair plan) (tasks_in lists)
  pub below : (count : ℕ) → All (λ p. p.at < count) plan → All (λ wave. All (λ p. p.at < count) wave.items) lists
