-- What the rest from the index on tells is what all of it tells.
use Rattle.std.proofs.Common.{◌≡◌, drop}
use Rattle.std.specs.List.{list_any}
use Rattle.pp_types.specs.Accepts.{type_accepts}
use Rattle.pp_values.specs.PTypes.{sort}
use Rattle.pp_values.specs.Views.{views}
use Rattle.expr_eval.proofs.combining.accepts_member.Given as goal

abbrev pub invariant-loop-item : goal.invariant-loop-item
invariant-loop-item l = list_any (type_accepts (sort l.kind)) (views l.items)
    ≡ list_any (type_accepts (sort l.kind)) (views (drop l.item-index l.items))
