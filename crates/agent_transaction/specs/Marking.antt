-- Marks as turns set them.
use Rattle.std.specs.Prelude.{◌≡◌, ◌⊎◌, ◌↔◌, ℕ, ◌<◌, Bool, true, false, List, [], ◌++◌, map, Result, MatchResult}
use Rattle.std.specs.List.{All}
use Rattle.pp_values.specs.declared.memory.Memory.{Memory}
use Rattle.agent_machine.specs.Machines.{Told}
use Rattle.agent_machine.specs.declared.report_line.ReportLine.{ReportLine}
use Rattle.agent_marks.specs.Spreads.{Marking, Leads, IsMarked}
use Rattle.agent_transaction.specs.Runs.{Turned, Reaches, has_failed, signals, AreTurned}
use Rattle.agent_transaction.specs.Turns.{IsTurn, IsBroken, skipped_line}
use Rattle.agent_transaction.specs.declared.planned.Planned.{Planned}
use Rattle.agent_transaction.specs.declared.task.Task.{Task}

abbrev pub planned_pair : Planned → ℕ × Task
planned_pair p = (p.at, p.ready)

-- a source has marked what it leads to
pub record IsSpread (at : ℕ) (before after : Marking) : Type 0 where
  pub leads : (x y : ℕ) → Leads after x y ↔ Leads before x y
  pub size : after.count ≡ before.count
  pub marked : (x : ℕ) → IsMarked after x ↔ (IsMarked before x ⊎ Leads before at x)

abbrev pub SpreadsIf : Bool → ℕ → Marking → Marking → Type 0
SpreadsIf true at before after = IsSpread at before after
SpreadsIf false at before after = after ≡ before

-- the line of a resource by the marks: skipped where it is blocked, else its turn
abbrev pub IsLineBy : Marking → Marking → ℕ → Task → ReportLine → Told → Told → Type 0
IsLineBy blocked signalled at task line before after =
    (IsMarked blocked at × (line ≡ skipped_line task.what) × (after ≡ before))
    ⊎ (¬ (IsMarked blocked at)
    × ((due : Bool) × ((due ≡ true) ↔ IsMarked signalled at) × IsTurn task due line before after))

abbrev pub LineGives : Marking → Marking → ℕ → Task → Result ReportLine Memory → Told → Told → Type 0
LineGives blocked signalled at task result before after =
    MatchResult result (λ line. IsLineBy blocked signalled at task line before after)
    (λ _. ¬ (IsMarked blocked at) × IsBroken task before after)

-- exactly what such lines reach is marked
pub record AreMarks (P : ReportLine → Bool) (R : ℕ → ℕ → Type 0) (turned : List Turned) (marks : Marking) : Type 0 where
  pub leads : (x y : ℕ) → Leads marks x y ↔ R x y
  pub marked : (x : ℕ) → IsMarked marks x ↔ Reaches P R turned x

-- a run so far
pub record Going (Comes Signals : ℕ → ℕ → Type 0) (tasks left : List (ℕ × Task)) (lines : List ReportLine)
    (blocked signalled : Marking) (before now : Told) : Type 0 where
  pub turned : List Turned
  pub whose : map (λ t. (t.at, t.task)) turned ++ left ≡ tasks
  pub told : map (λ t. t.line) turned ≡ lines
  pub each : AreTurned Comes Signals [] turned before now
  pub blocks : AreMarks has_failed Comes turned blocked
  pub sources : AreMarks signals Signals turned signalled

abbrev pub AreBelow : ℕ → List Planned → Type 0
AreBelow count plan = All (λ p. p.at < count) plan
