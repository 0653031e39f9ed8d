-- Laws of turns.
use Rattle.std.specs.Prelude.{◌≡◌, ℕ, Bool, Some}
use Rattle.agent_machine.specs.Contents.{Content}
use Rattle.agent_machine.specs.Machines.{Told}
use Rattle.agent_machine.specs.declared.report_line.ReportLine.{ReportLine}
use Rattle.agent_transaction.specs.ToldTurns.{turn}
use Rattle.agent_transaction.specs.Turns.{IsTurn}
use Rattle.agent_transaction.specs.declared.task.Task.{Task}

-- On a machine that tells its content a turn has exactly one line, and leaves exactly one content.
abbrev pub ToldTurn : Type 0
ToldTurn = (task : Task) (signalled : Bool) (line : ReportLine) (before after : Told) (c : Content) →
    before.content ≡ Some c → IsTurn task signalled line before after →
    (line ≡ (turn task signalled c).0) × (after.content ≡ Some (turn task signalled c).1)

-- And there is one, however many faults the machine has counted: a machine that tells its content has memory.
abbrev pub SomeToldTurn : Type 0
SomeToldTurn = (task : Task) (signalled : Bool) (c : Content) (faults : ℕ) → (after : Told)
    × IsTurn task signalled (turn task signalled c).0 (record { content = Some c; faults = faults }) after
    × (after.content ≡ Some (turn task signalled c).1)
