use Rattle.std.proofs.Common.{◌+◌, ◌-◌, ◌≤◌, length, take, refl, sym, subst, arith}
use Rattle.std.specs.Prelude.{IsTrue}
use Rattle.res_core.specs.AskedFacts.{give_facts}
use Rattle.site_core.specs.declared.history.TheConstants.{MOST_ENTRIES}
use Rattle.history_tools.specs.Rounds.{EndsRound}
use Rattle.history_tools.proofs.Opening.{asked_few, asked_facts}
use Rattle.history_tools.proofs.Standing.{made_so, after_so, told_made, ready_made, went_on, ended}
use Rattle.history_tools.proofs.settling.settle.Goals as goal

pub run_round-requires-clause-short : goal.run_round-requires-clause-short
run_round-requires-clause-short g c κs within =
    subst (λ l. length l ≤ MOST_ENTRIES) (sym c.in_ok-requests.ensures) (asked_few MOST_ENTRIES c.args.nodes.now)

pub run_round-requires-clause-facts : goal.run_round-requires-clause-facts
run_round-requires-clause-facts g c κs within =
    subst (λ l. IsTrue (give_facts l)) (sym c.in_ok-requests.ensures) (asked_facts (take MOST_ENTRIES c.args.nodes.now))

pub run_round-requires-clause-authors : goal.run_round-requires-clause-authors
run_round-requires-clause-authors g c =
    let authors = c.loop-sets.invariant.stands.authors in omega (arith, authors, c.requires.few)

pub outcome_of-requires : goal.outcome_of-requires
outcome_of-requires g c =
    told_made g.L.Language.meaning g.L.Language.listed MOST_ENTRIES c.args.site c.args.nodes.now
    c.loop-sets.done c.args.workers c.loop-sets.written.history.entries c.in_ok-now.now.history.entries c.loop-sets.sets
    c.in_ok-now.replies.items
    (made_so g.L.Language.meaning g.L.Language.listed MOST_ENTRIES c.args.site c.args.nodes.now
    c.loop-sets.done c.args.workers c.loop-sets.written.history.entries c.in_ok-now.now.history.entries c.loop-sets.sets
    c.in_ok-now.replies.items c.in_ok-requests.requests c.in_ok-requests.ensures c.requires.nodes c.requires.some
    c.loop-sets.invariant.stands c.in_ok-now.ensures)

pub round_end-requires : goal.round_end-requires
round_end-requires g c =
    ready_made g.L.Language.meaning g.L.Language.listed MOST_ENTRIES c.args.site c.args.nodes.now
    c.loop-sets.done c.args.workers c.loop-sets.written.history.entries c.in_ok-now.now.history.entries c.loop-sets.sets
    c.in_ok-now.replies.items
    c.in_ok-after.after c.in_ok-outcome.outcome c.requires.nodes c.loop-sets.invariant.stands
    (made_so g.L.Language.meaning g.L.Language.listed MOST_ENTRIES c.args.site c.args.nodes.now
    c.loop-sets.done c.args.workers c.loop-sets.written.history.entries c.in_ok-now.now.history.entries c.loop-sets.sets
    c.in_ok-now.replies.items c.in_ok-requests.requests c.in_ok-requests.ensures c.requires.nodes c.requires.some
    c.loop-sets.invariant.stands c.in_ok-now.ensures)
    c.in_ok-outcome.ensures (after_so g.L.Language.meaning g.L.Language.listed MOST_ENTRIES c.args.site c.args.nodes.now
    c.loop-sets.done c.args.workers c.loop-sets.written.history.entries c.in_ok-now.now.history.entries c.loop-sets.sets
    c.in_ok-now.replies.items c.len-start.result c.in_ok-after.after c.len-start.ensures c.in_ok-after.ensures)

pub returns-in-Some-clause-rounds : goal.returns-in-Some-clause-rounds
returns-in-Some-clause-rounds g c =
    ended g.L.Language.meaning g.L.Language.listed MOST_ENTRIES c.args.site c.args.nodes.now
    c.loop-sets.done c.args.workers c.loop-sets.written.history.entries c.in_ok-now.now.history.entries c.loop-sets.sets
    c.in_ok-now.replies.items
    c.in_ok-after.after c.in_ok-outcome.outcome c.in-Some.end c.args.rounds (c.args.rounds - (c.loop-sets.done + 1))
    c.loop-sets.invariant.goes_on refl c.requires.nodes c.loop-sets.invariant.stands
    (made_so g.L.Language.meaning g.L.Language.listed MOST_ENTRIES c.args.site c.args.nodes.now
    c.loop-sets.done c.args.workers c.loop-sets.written.history.entries c.in_ok-now.now.history.entries c.loop-sets.sets
    c.in_ok-now.replies.items c.in_ok-requests.requests c.in_ok-requests.ensures c.requires.nodes c.requires.some
    c.loop-sets.invariant.stands c.in_ok-now.ensures)
    c.in_ok-outcome.ensures (after_so g.L.Language.meaning g.L.Language.listed MOST_ENTRIES c.args.site c.args.nodes.now
    c.loop-sets.done c.args.workers c.loop-sets.written.history.entries c.in_ok-now.now.history.entries c.loop-sets.sets
    c.in_ok-now.replies.items c.len-start.result c.in_ok-after.after c.len-start.ensures c.in_ok-after.ensures)
    (subst (EndsRound c.args.nodes.now c.loop-sets.sets c.in_ok-after.after (c.args.rounds - (c.loop-sets.done + 1))
    c.in_ok-outcome.outcome) c.in-Some.is c.in_ok-end.ensures)

pub returns-in-Some-clause-authors : goal.returns-in-Some-clause-authors
returns-in-Some-clause-authors g c =
    (made_so g.L.Language.meaning g.L.Language.listed MOST_ENTRIES c.args.site c.args.nodes.now
    c.loop-sets.done c.args.workers c.loop-sets.written.history.entries c.in_ok-now.now.history.entries c.loop-sets.sets
    c.in_ok-now.replies.items c.in_ok-requests.requests c.in_ok-requests.ensures c.requires.nodes c.requires.some
    c.loop-sets.invariant.stands c.in_ok-now.ensures).authors

pub loop-sets-preserved : goal.loop-sets-preserved
loop-sets-preserved g c =
    let next = went_on g.L.Language.meaning g.L.Language.listed MOST_ENTRIES c.args.site c.args.nodes.now
    c.loop-sets.done c.args.workers c.loop-sets.written.history.entries c.in_ok-now.now.history.entries c.loop-sets.sets
    c.in_ok-now.replies.items
    c.in_ok-after.after c.in_ok-outcome.outcome (c.args.rounds - (c.loop-sets.done + 1)) c.requires.nodes c.loop-sets.invariant.stands
    (made_so g.L.Language.meaning g.L.Language.listed MOST_ENTRIES c.args.site c.args.nodes.now
    c.loop-sets.done c.args.workers c.loop-sets.written.history.entries c.in_ok-now.now.history.entries c.loop-sets.sets
    c.in_ok-now.replies.items c.in_ok-requests.requests c.in_ok-requests.ensures c.requires.nodes c.requires.some
    c.loop-sets.invariant.stands c.in_ok-now.ensures)
    c.in_ok-outcome.ensures (after_so g.L.Language.meaning g.L.Language.listed MOST_ENTRIES c.args.site c.args.nodes.now
    c.loop-sets.done c.args.workers c.loop-sets.written.history.entries c.in_ok-now.now.history.entries c.loop-sets.sets
    c.in_ok-now.replies.items c.len-start.result c.in_ok-after.after c.len-start.ensures c.in_ok-after.ensures)
    (subst (EndsRound c.args.nodes.now c.loop-sets.sets c.in_ok-after.after (c.args.rounds - (c.loop-sets.done + 1))
    c.in_ok-outcome.outcome) c.in_default.is c.in_ok-end.ensures) in
    let left = next.1 in
    record { stands = next.0; goes_on = omega (arith, left) }
