use Rattle.std.proofs.Common.{subst, arith}
use mathlib.Core.List.{IsPrefix}
use Rattle.site_core.specs.Additions.{entry_of}
use Rattle.shared_site.proofs.Turns.{found, has_added, has_refused, may_add_still, own_number, one_entry}
use Rattle.shared_site.proofs.site.SharedSite.append.Goals as goal

pub add-answer-requires-clause-may : goal.add-answer-requires-clause-may
add-answer-requires-clause-may g c =
    may_add_still g.L.Language.meaning c.args.addition c.args.pass.now.front c.take-turn.result.value.history
    (subst (λ p. IsPrefix p.front c.take-turn.result.value.history) c.pass.view_is
    (found g.L.Language.meaning c.pass.inside.pass c.pass.inside.count c.pass.inside.author c.take-turn.result.value
    c.pass.invariant c.take-turn.ensures.before).events)
    c.requires.may

pub add-answer-requires-clause-own : goal.add-answer-requires-clause-own
add-answer-requires-clause-own g c =
    let mine = own_number g.L.Language.meaning c.args.pass.now c.pass.inside.pass c.pass.inside.count
    c.pass.inside.author c.author-author.result c.take-turn.result.value c.pass.view_is c.author-author.ensures
    c.pass.invariant c.take-turn.ensures.before in omega (arith, mine)

pub give_with-requires-clause-list : goal.give_with-requires-clause-list
give_with-requires-clause-list g c =
    one_entry c.pass.inside.pass c.take-turn.new.pass c.take-turn.result.value c.add-answer.new.self
    c.args.addition c.author-author.result
    (own_number g.L.Language.meaning c.args.pass.now c.pass.inside.pass c.pass.inside.count
    c.pass.inside.author c.author-author.result c.take-turn.result.value c.pass.view_is c.author-author.ensures
    c.pass.invariant c.take-turn.ensures.before)
    c.take-turn.ensures.pass c.in-Ok.ensures.ok

pub invariant_of-pass : goal.invariant_of-pass
invariant_of-pass g c =
    (has_added g.L.Language.meaning c.args.pass.now c.pass.inside.pass c.take-turn.new.pass c.give_with.new.pass
    c.pass.inside.count c.len-pass-inside.result c.pass.inside.author c.in-Ok.entry c.author-author.result
    c.take-turn.result.value c.add-answer.new.self c.args.addition c.pass.view_is c.author-author.ensures
    c.pass.invariant c.len-pass-inside.ensures.lasts c.len-pass-inside.ensures.len c.take-turn.ensures.pass
    c.give_with.ensures.pass c.in-Ok.ensures.ok c.in-Ok.ensures.stop c.take-turn.ensures.before).ready

pub invariant_of-pass-in-Err : goal.invariant_of-pass-in-Err
invariant_of-pass-in-Err g c =
    (has_refused g.L.Language.meaning c.args.pass.now c.pass.inside.pass c.take-turn.new.pass c.give.new.pass
    c.pass.inside.count c.len-pass-inside.result c.pass.inside.author c.take-turn.result.value c.add-answer.new.self
    c.in-Err.stop (entry_of c.args.addition c.args.pass.now.author) c.pass.view_is c.pass.invariant
    c.len-pass-inside.ensures.lasts c.len-pass-inside.ensures.len c.take-turn.ensures.pass c.give.ensures
    c.in-Err.ensures.err c.in-Err.ensures.stop c.take-turn.ensures.before).ready

pub returns-in-Ok-clause-later : goal.returns-in-Ok-clause-later
returns-in-Ok-clause-later g c =
    (has_added g.L.Language.meaning c.args.pass.now c.pass.inside.pass c.take-turn.new.pass c.give_with.new.pass
    c.pass.inside.count c.len-pass-inside.result c.pass.inside.author c.in-Ok.entry c.author-author.result
    c.take-turn.result.value c.add-answer.new.self c.args.addition c.pass.view_is c.author-author.ensures
    c.pass.invariant c.len-pass-inside.ensures.lasts c.len-pass-inside.ensures.len c.take-turn.ensures.pass
    c.give_with.ensures.pass c.in-Ok.ensures.ok c.in-Ok.ensures.stop c.take-turn.ensures.before).later

pub returns-in-Ok-clause-legal : goal.returns-in-Ok-clause-legal
returns-in-Ok-clause-legal g c =
    (has_added g.L.Language.meaning c.args.pass.now c.pass.inside.pass c.take-turn.new.pass c.give_with.new.pass
    c.pass.inside.count c.len-pass-inside.result c.pass.inside.author c.in-Ok.entry c.author-author.result
    c.take-turn.result.value c.add-answer.new.self c.args.addition c.pass.view_is c.author-author.ensures
    c.pass.invariant c.len-pass-inside.ensures.lasts c.len-pass-inside.ensures.len c.take-turn.ensures.pass
    c.give_with.ensures.pass c.in-Ok.ensures.ok c.in-Ok.ensures.stop c.take-turn.ensures.before).legal

pub returns-in-Ok-clause-asked : goal.returns-in-Ok-clause-asked
returns-in-Ok-clause-asked g c =
    (has_added g.L.Language.meaning c.args.pass.now c.pass.inside.pass c.take-turn.new.pass c.give_with.new.pass
    c.pass.inside.count c.len-pass-inside.result c.pass.inside.author c.in-Ok.entry c.author-author.result
    c.take-turn.result.value c.add-answer.new.self c.args.addition c.pass.view_is c.author-author.ensures
    c.pass.invariant c.len-pass-inside.ensures.lasts c.len-pass-inside.ensures.len c.take-turn.ensures.pass
    c.give_with.ensures.pass c.in-Ok.ensures.ok c.in-Ok.ensures.stop c.take-turn.ensures.before).asked

pub returns-in-Err-clause-later : goal.returns-in-Err-clause-later
returns-in-Err-clause-later g c =
    (has_refused g.L.Language.meaning c.args.pass.now c.pass.inside.pass c.take-turn.new.pass c.give.new.pass
    c.pass.inside.count c.len-pass-inside.result c.pass.inside.author c.take-turn.result.value c.add-answer.new.self
    c.in-Err.stop (entry_of c.args.addition c.args.pass.now.author) c.pass.view_is c.pass.invariant
    c.len-pass-inside.ensures.lasts c.len-pass-inside.ensures.len c.take-turn.ensures.pass c.give.ensures
    c.in-Err.ensures.err c.in-Err.ensures.stop c.take-turn.ensures.before).later

pub returns-in-Err-clause-legal : goal.returns-in-Err-clause-legal
returns-in-Err-clause-legal g c =
    (has_refused g.L.Language.meaning c.args.pass.now c.pass.inside.pass c.take-turn.new.pass c.give.new.pass
    c.pass.inside.count c.len-pass-inside.result c.pass.inside.author c.take-turn.result.value c.add-answer.new.self
    c.in-Err.stop (entry_of c.args.addition c.args.pass.now.author) c.pass.view_is c.pass.invariant
    c.len-pass-inside.ensures.lasts c.len-pass-inside.ensures.len c.take-turn.ensures.pass c.give.ensures
    c.in-Err.ensures.err c.in-Err.ensures.stop c.take-turn.ensures.before).legal

pub returns-in-Err-clause-asked : goal.returns-in-Err-clause-asked
returns-in-Err-clause-asked g c =
    (has_refused g.L.Language.meaning c.args.pass.now c.pass.inside.pass c.take-turn.new.pass c.give.new.pass
    c.pass.inside.count c.len-pass-inside.result c.pass.inside.author c.take-turn.result.value c.add-answer.new.self
    c.in-Err.stop (entry_of c.args.addition c.args.pass.now.author) c.pass.view_is c.pass.invariant
    c.len-pass-inside.ensures.lasts c.len-pass-inside.ensures.len c.take-turn.ensures.pass c.give.ensures
    c.in-Err.ensures.err c.in-Err.ensures.stop c.take-turn.ensures.before).asked
