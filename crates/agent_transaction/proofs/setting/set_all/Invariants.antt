-- However the rest goes on, the whole goes so, with what was changed before it.
use Rattle.std.proofs.Common.{ℕ, ◌+◌, ◌≤◌, List, ◌++◌, length}
use Rattle.std.specs.Prelude.{vec_capacity}
use Rattle.agent_machine.specs.Machines.{Told}
use Rattle.agent_transaction.specs.Turns.{SetsAll}
use Rattle.agent_transaction.specs.declared.ended.Ended.{Ended}
use Rattle.agent_transaction.proofs.setting.set_all.Given as goal

abbrev pub invariant-loop-want : goal.invariant-loop-want
invariant-loop-want g l =
    let state = g.M.Machine.state in
    record {
      on : (rest : List (List ℕ)) (end : Ended) (after : Told) → SetsAll l.noop l.what l.left rest end (state l.machine) after →
          SetsAll l.noop l.what l.fn.wants (l.changes.items ++ rest) end (state l.fn.machine) after;
      room : length l.changes.items + length l.left ≤ vec_capacity l.changes;
    }

abbrev pub decreases-loop-want : goal.decreases-loop-want
decreases-loop-want g l = length l.left
