use Rattle.std.proofs.Common.{[], ◌∷◌, ◌++◌, sym, ap, ◌∙◌}
use Rattle.override_rules.proofs.Tables.{added}
use Rattle.override_rules.proofs.numbers.Numbers.add_first.Goals as goal

pub returns-clause-adds : goal.returns-clause-adds
returns-clause-adds c =
    let n = c.args.number in
    added c.args.self.now.by_target c.insert.new.self c.args.target c.push.new.self n c.in_ok-insert.ensures.updates
    (c.in_ok-push.ensures.items ∙ ap (λ l. l ++ n ∷ []) (c.new-numbers.ensures.items ∙ sym c.requires))
