-- Each node below the number is listed.
use Rattle.std.proofs.Common.{◌-◌, ◌≡◌, ◌≤◌}
use Rattle.command_outputs.specs.Demo.{demo_nodes}
use Rattle.command_outputs.proofs.demo_site.demo_nodes.Given as goal

abbrev pub invariant-loop-number : goal.invariant-loop-number
invariant-loop-number l = (l.nodes ≡ demo_nodes l.number) × (l.number ≤ l.count)

abbrev pub decreases-loop-number : goal.decreases-loop-number
decreases-loop-number l = l.count - l.number
