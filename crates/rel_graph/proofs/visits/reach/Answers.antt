use Rattle.std.proofs.Common.{Contains, sym, subst, arith}
use Rattle.std.proofs.lemmas.List.Elements.{Contains-push}
use Rattle.rel_graph.specs.Visits.{Reaching}
use Rattle.rel_graph.proofs.visits.reach.Goals as goal

pub go_on-requires-clause-at : goal.go_on-requires-clause-at
go_on-requires-clause-at c =
    let s = c.loop-at.invariant in
    let n = s.within c.in-Some.at (subst (λ l. Contains l c.in-Some.at) (sym c.in-Some.ensures.items)
    (Contains-push c.pop.new.self.items c.in-Some.at)) in
    let e = s.news.long in
    omega (arith, n, e)

pub loop-at-preserved : goal.loop-at-preserved
loop-at-preserved c = c.in_ok-go_on.ensures.reaching c.args.marks.now c.args.start.items
    (subst (λ l. Reaching c.args.pairs.now c.args.marks.now c.args.start.items c.loop-at.marks l c.loop-at.found.items)
    c.in-Some.ensures.items c.loop-at.invariant)
