use Rattle.std.proofs.Common.{◌+◌, ◌∙◌, ap, subst}
use mathlib.Core.List.{IsPrefix}
use Rattle.shared_site.specs.Shows.{events_in}
use Rattle.shared_site.proofs.Turns.{parted, part_ready}
use Rattle.shared_site.proofs.site.SharedSite.split.Goals as goal

pub invariant_of-result : goal.invariant_of-result
invariant_of-result g c =
    part_ready g.L.Language.meaning c.pass.inside.pass c.take-turn.new.pass _ c.len-pass-inside.result
    c.author-author.result c.take-turn.result.value c.len-pass-inside.ensures.lasts c.len-pass-inside.ensures.len
    c.take-turn.ensures.pass c.in-Ok.ensures.new
    (c.author-author.ensures ∙ ap (λ t. t.value.terms.base + c.author.result) c.in-Ok.ensures.turn
    ∙ ap (λ n. c.take-turn.result.value.terms.base + n) c.author.ensures)

pub invariant_of-pass : goal.invariant_of-pass
invariant_of-pass g c =
    (parted g.L.Language.meaning c.pass.inside.pass c.take-turn.new.pass c.split.new.pass c.give.new.pass
    c.pass.inside.count c.len-pass-inside.result c.pass.inside.author c.take-turn.result.value c.pass.invariant
    c.len-pass-inside.ensures.lasts c.len-pass-inside.ensures.len c.take-turn.ensures.pass c.in-Ok.ensures.pass
    c.give.ensures c.take-turn.ensures.before).ready

pub returns-clause-front : goal.returns-clause-front
returns-clause-front g c =
    subst (λ p. IsPrefix p.front (events_in c.give.new.pass.front)) c.pass.view_is
    (parted g.L.Language.meaning c.pass.inside.pass c.take-turn.new.pass c.split.new.pass c.give.new.pass
    c.pass.inside.count c.len-pass-inside.result c.pass.inside.author c.take-turn.result.value c.pass.invariant
    c.len-pass-inside.ensures.lasts c.len-pass-inside.ensures.len c.take-turn.ensures.pass c.in-Ok.ensures.pass
    c.give.ensures c.take-turn.ensures.before).later.front
