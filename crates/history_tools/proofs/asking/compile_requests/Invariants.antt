-- The requests so far are for the nodes before the index.
use Rattle.std.proofs.Common.{◌≡◌, take}
use Rattle.history_tools.specs.Rounds.{asked_of}
use Rattle.history_tools.proofs.asking.compile_requests.Given as goal

abbrev pub invariant-loop-node : goal.invariant-loop-node
invariant-loop-node l = l.requests ≡ asked_of (take l.node-index l.node-items)
