use Rattle.std.proofs.Common.{◌≡◌, ◌++◌, map, drop}
use Rattle.agent_transaction.proofs.relating.put_pairs.Given as goal

abbrev pub invariant-loop-container : goal.invariant-loop-container
invariant-loop-container l =
    l.pairs.items ++ map (λ c. (c, l.member)) (drop l.container-index l.containers)
    ≡ l.initial.pairs.items ++ map (λ c. (c, l.member)) l.containers
