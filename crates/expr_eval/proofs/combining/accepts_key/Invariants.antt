-- What the rest from the index on tells is what all of it tells.
use Rattle.std.proofs.Common.{◌≡◌, drop}
use Rattle.std.specs.List.{list_any}
use Rattle.pp_types.specs.Accepts.{type_accepts}
use Rattle.pp_values.specs.PTypes.{sort}
use Rattle.pp_values.specs.Views.{pair_views}
use Rattle.expr_eval.proofs.combining.accepts_key.Given as goal

abbrev pub invariant-loop-key : goal.invariant-loop-key
invariant-loop-key l = list_any (λ p. type_accepts (sort l.kind) p.0) (pair_views l.pairs)
    ≡ list_any (λ p. type_accepts (sort l.kind) p.0) (pair_views (drop l.key-index l.pairs))
