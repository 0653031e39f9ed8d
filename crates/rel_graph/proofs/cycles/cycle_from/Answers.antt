use Rattle.std.proofs.Common.{◌≡◌, ◌∙◌, ◌<◌, sym, Some, None, length}
use Rattle.std.proofs.lemmas.List.{get_or_read}
use Rattle.rel_graph.specs.Distances.{distance}
use Rattle.rel_graph.proofs.Best.{is_cycle, no_cycle_here}
use Rattle.rel_graph.proofs.cycles.cycle_from.Goals as goal

pub returns-in-Some-clause-some : goal.returns-in-Some-clause-some
returns-in-Some-clause-some c = λ none.
    let within : c.args.start < length c.in_ok-numbers.numbers.items =
    rw c.in_ok-numbers.ensures.long c.requires.start in
    let far : distance c.in_ok-numbers.numbers.items c.args.start ≡ Some c.in-Some.between =
    sym (get_or_read c.in_ok-numbers.numbers.items c.args.start _ within c.index.ensures None) ∙
    c.in-Some.is in
    is_cycle _ _ c.in_ok-numbers.numbers.items c.in_ok-numbers.ensures.distances c.in-Some.between far _
    c.in_ok-cycle-in-Some.ensures.0 none c.in_ok-cycle-in-Some.ensures.1 c.in_ok-cycle-in-Some.ensures.2

pub returns-clause-none : goal.returns-clause-none
returns-clause-none c =
    let within : c.args.start < length c.in_ok-numbers.numbers.items =
    rw c.in_ok-numbers.ensures.long c.requires.start in
    let none : distance c.in_ok-numbers.numbers.items c.args.start ≡ None =
    sym (get_or_read c.in_ok-numbers.numbers.items c.args.start _ within c.index.ensures None) ∙
    c.in-None.is in
    no_cycle_here _ _ c.in_ok-numbers.numbers.items c.in_ok-numbers.ensures.distances none
