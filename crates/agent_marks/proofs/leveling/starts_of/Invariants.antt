-- The begins of the resources before the index are marked, and no other node is.
use Rattle.std.proofs.Common.{◌≡◌, ◌↔◌, ℕ, Contains, length, take}
use Rattle.rel_graph.specs.Marks.{Marked}
use Rattle.agent_marks.specs.Nodes.{begin_of}
use Rattle.agent_marks.proofs.leveling.starts_of.Given as goal

abbrev pub invariant-loop-at : goal.invariant-loop-at
invariant-loop-at l = record {
  long : length l.starts.items ≡ l.nodes;
  marked : (v : ℕ) → Marked l.starts.items v ↔ ((x : ℕ) × Contains (take l.at-index l.counted) x × (v ≡ begin_of x));
}
