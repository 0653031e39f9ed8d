-- The indexes of the resources before this one.
use Rattle.std.proofs.Common.{◌≡◌, map, take}
use Rattle.agent_transaction.specs.declared.planned.Planned.{Planned}
use Rattle.wide_apply.proofs.waves.indexes_of.Given as goal

abbrev pub invariant-loop-planned : goal.invariant-loop-planned
invariant-loop-planned l = l.indexes.items ≡ map (λ (p : Planned). p.at) (take l.planned-index l.plan)
