-- What the rest of the table from the index on tells is what all of it tells.
use Rattle.std.proofs.Common.{◌≡◌, map, drop}
use Rattle.pp_funcs.specs.Names.{is_listed}
use Rattle.pp_funcs.proofs.evaluated.is_listed.Given as goal

abbrev pub invariant-loop-written : goal.invariant-loop-written
invariant-loop-written l =
    is_listed (map (λ n. n.now) l.table) l.name
    ≡ is_listed (map (λ n. n.now) (drop l.written-index l.table)) l.name
