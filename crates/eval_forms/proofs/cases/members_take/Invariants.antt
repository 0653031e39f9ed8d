-- What is left decides.
use Rattle.std.proofs.Common.{◌≡◌, drop}
use Rattle.std.specs.List.{list_any}
use Rattle.expr_eval.specs.Testing.{option_takes}
use Rattle.pp_values.specs.Views.{view, views}
use Rattle.eval_forms.proofs.cases.members_take.Given as goal

abbrev pub invariant-loop-member : goal.invariant-loop-member
invariant-loop-member l = list_any (λ d. option_takes d (view l.control)) (views l.members)
    ≡ list_any (λ d. option_takes d (view l.control)) (views (drop l.member-index l.members))
