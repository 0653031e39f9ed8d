-- Tables of where pairs lead.
use Rattle.std.specs.Prelude.{◌≡◌, ℕ, length, map}
use Rattle.rel_graph.specs.Pairs.{AllBelow, flip}
use Rattle.rel_graph.specs.Steps.{AreTargets}
use Rattle.rel_graph.specs.declared.ways.Ways.{Ways}

-- the tables of where the pairs lead
pub record AreWays (count : ℕ) (ways : Ways) : Type 0 where
  pub below : AllBelow ways.containers.items count
  pub edges_below : AllBelow ways.edges.items count
  pub outward : ways.outward.items ≡ map flip ways.containers.items
  pub up_long : length ways.up.items ≡ count
  pub up : AreTargets ways.outward.items ways.up.items
  pub across_long : length ways.across.items ≡ count
  pub across : AreTargets ways.edges.items ways.across.items
  pub down_long : length ways.down.items ≡ count
  pub down : AreTargets ways.containers.items ways.down.items
