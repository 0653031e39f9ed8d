-- What was asked before, and each node below the number.
use Rattle.std.proofs.Common.{◌-◌, ◌≡◌, ◌≤◌, ◌++◌, IsTrue}
use Rattle.res_core.specs.AskedFacts.{give_facts}
use Rattle.command_outputs.specs.Demo.{once_each}
use Rattle.command_outputs.proofs.demo_site.ask_each.Given as goal

abbrev pub invariant-loop-number : goal.invariant-loop-number
invariant-loop-number l =
    (l.requests ≡ l.fn.requests ++ once_each l.number) × IsTrue (give_facts l.requests) × (l.number ≤ l.nodes)

abbrev pub decreases-loop-number : goal.decreases-loop-number
decreases-loop-number l = l.nodes - l.number
