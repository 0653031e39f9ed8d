use Rattle.std.proofs.Common.{◌≡◌, [], ◌∷◌, ◌++◌, length, arith, rules, ap, ◌∙◌}
use Rattle.override_rules.proofs.Places.{finds_more}
use Rattle.override_rules.proofs.lines.Lines.push.Goals as goal

pub invariant_of-self-2 : goal.invariant_of-self-2
invariant_of-self-2 c =
    let items = c.self.inside.items.items in
    let all : c.push.new.self.items ≡ items ++ c.args.line ∷ [] =
    c.in_ok-push.ensures.items ∙ ap (λ xs. xs ++ c.args.line ∷ []) c.in_ok-reserve.ensures.items in
    let last : c.len.result ≡ length items = search (rules, arith) in
    rw all (finds_more c.self.inside.numbers.by_target c.add.new.self.by_target items c.args.line c.len.result
    c.in_ok-reference.reference c.in_ok-reference.ensures last c.in_ok-add.ensures.adds c.self.invariant)
