use Rattle.std.proofs.Common.{◌∙◌, ◌<◌, [], ◌∷◌, ◌++◌, length, Contains, All, ap, sym, subst, arith}
use Rattle.std.proofs.lemmas.List.Elements.{All-contains_itself, All-weaker}
use Rattle.rel_graph.specs.Before.{Direct}
use Rattle.rel_graph.specs.Distances.{IsLeastOf}
use Rattle.rel_graph.proofs.Marking.{marked_within}
use Rattle.rel_graph.proofs.TraceLemmas.{only_one, behind_found, step_found, found_either}
use Rattle.rel_graph.proofs.cycles.next_towards.Goals as goal

pub visit-requires-clause-start : goal.visit-requires-clause-start
visit-requires-clause-start c = only_one c.push.new.self.items c.args.from (length c.args.outer.now)
    (c.in_ok-push.ensures.items ∙ ap (λ l. l ++ c.args.from ∷ []) c.new-start.ensures.items)
    c.requires.from

pub least_of-requires-clause-found : goal.least_of-requires-clause-found
least_of-requires-clause-found c =
    let news = c.in_ok-found.ensures.news in
    let long = news.long in
    let inner = c.requires.long in
    let numbers = c.requires.numbers in
    subst (All (λ x. x < length c.args.numbers.now)) (sym c.as_slice.ensures.value)
    (All-weaker (Contains c.in_ok-found.found.items) (λ x. x < length c.args.numbers.now)
    (λ x h. (let n = marked_within c.visit.new.inner x (news.marked x h) in omega (arith, n, long, inner, numbers)))
    c.in_ok-found.found.items (All-contains_itself c.in_ok-found.found.items))

pub least_of-requires-clause-some : goal.least_of-requires-clause-some
least_of-requires-clause-some c =
    let some = c.requires.some in (
      some.0,
      subst (λ l. Contains l some.0) (sym c.as_slice.ensures.value)
          (behind_found (Direct c.args.ways.now.containers.items c.args.ways.now.edges.items) c.push.new.self.items
          c.in_ok-found.found.items c.args.from (c.in_ok-push.ensures.items ∙ ap (λ l. l ++ c.args.from ∷ [])
          c.new-start.ensures.items) c.in_ok-found.ensures.sound c.args.numbers.now c.args.inner.now
          c.visit.new.inner c.in_ok-found.ensures.news c.in_ok-found.ensures.all c.args.left c.requires.farther some.0
          some.1
          some.2),
      some.2,
    )

pub returns-clause-step : goal.returns-clause-step
returns-clause-step c = step_found (Direct c.args.ways.now.containers.items c.args.ways.now.edges.items)
    c.push.new.self.items c.in_ok-found.found.items c.args.from (c.in_ok-push.ensures.items ∙ ap (λ l. l ++
    c.args.from ∷ []) c.new-start.ensures.items) c.in_ok-found.ensures.sound
    c.args.numbers.now c.args.inner.now c.visit.new.inner c.in_ok-found.ensures.news c.in_ok-found.ensures.all
    c.args.left c.requires.farther c.least_of.result
    (subst (λ l. IsLeastOf l c.args.numbers.now c.args.left c.least_of.result) c.as_slice.ensures.value
    c.least_of.ensures)

pub returns-clause-inner : goal.returns-clause-inner
returns-clause-inner c = c.in_ok-found.ensures.news.long

pub returns-clause-found : goal.returns-clause-found
returns-clause-found c = found_either (Direct c.args.ways.now.containers.items c.args.ways.now.edges.items)
    c.push.new.self.items c.in_ok-found.found.items c.args.from (c.in_ok-push.ensures.items ∙ ap (λ l. l ++
    c.args.from ∷ []) c.new-start.ensures.items) c.in_ok-found.ensures.sound
    c.args.numbers.now c.args.inner.now c.visit.new.inner c.in_ok-found.ensures.news
