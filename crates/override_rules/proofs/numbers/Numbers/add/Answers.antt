use Rattle.std.proofs.Common.{[], ◌∷◌, ◌++◌, ap, ◌∙◌, rules}
use Rattle.override_rules.proofs.Both.{on_err}
use Rattle.override_rules.proofs.Tables.{added, unchanged}
use Rattle.override_rules.proofs.numbers.Numbers.add.Goals as goal
use Rattle.override_rules.specs.Numbers.{items_in}

pub returns-in_err-push-clause-keeps : goal.returns-in_err-push-clause-keeps
returns-in_err-push-clause-keeps c =
    let w = c.push.new.self in
    on_err c.from_residual.result
    (unchanged c.args.self.now.by_target (c.get_mut.follows.lender w) c.args.target w
    ((c.get_mut.follows.holds w).3 (search rules)) (c.in_err-push.ensures.items
    ∙ ap items_in c.in-Some.ensures.value))

pub returns-in-Some-clause-adds : goal.returns-in-Some-clause-adds
returns-in-Some-clause-adds c =
    let w = c.push.new.self in
    let n = c.args.number in
    added c.args.self.now.by_target (c.get_mut.follows.lender w) c.args.target w n
    ((c.get_mut.follows.holds w).3 (search rules))
    (c.in_ok-push.ensures.items ∙ ap (λ o. items_in o ++ n ∷ []) c.in-Some.ensures.value)
