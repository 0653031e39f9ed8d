-- What the rest of the table from the index on tells is what all of it tells.
use Rattle.std.proofs.Common.{◌≡◌, map, drop}
use Rattle.expr_eval.specs.Names.{function_named}
use Rattle.expr_eval.proofs.functions.named.Given as goal

abbrev pub invariant-loop-written : goal.invariant-loop-written
invariant-loop-written l =
    function_named (map (λ f. (f.0.now, f.1)) l.table) l.name
    ≡ function_named (map (λ f. (f.0.now, f.1)) (drop l.written-index l.table)) l.name
