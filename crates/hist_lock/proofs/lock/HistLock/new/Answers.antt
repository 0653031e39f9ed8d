use Rattle.std.proofs.Common.{ap, sym, ◌∙◌, ◌++◌, ◌∷◌, [], Some, subst₂}
use Rattle.atomic_table.specs.Table.{opening}
use Rattle.hist_lock.specs.Turned.{Turned}
use Rattle.hist_lock.specs.Views.{first_view}
use Rattle.hist_lock.proofs.Ends.{starts}
use Rattle.hist_lock.proofs.Placed.{first_is}
use Rattle.hist_lock.proofs.lock.HistLock.new.Goals as goal

pub new-requires : goal.new-requires
new-requires g c =
    let entries = g.V.StandsFor.entries in
    let slots = c.push_reserved.ensures.items ∙ ap (λ l. l ++ Some c.args.value ∷ []) c.in-Ok.ensures.items in
    subst₂ (λ l v. Turned entries g.V.StandsFor.author (opening (0 ∷ 0 ∷ []) l (first_view (entries v)))) (sym slots) (sym c.of-key.ensures) (starts entries g.V.StandsFor.author c.args.value c.requires)

pub invariant_of-result-in-Ok-new : goal.invariant_of-result-in-Ok-new
invariant_of-result-in-Ok-new g c =
    first_is g.V.StandsFor.author c.in-Ok-new.seat (g.V.StandsFor.entries c.args.value) (c.in-Ok-new.ensures.ok.4 ∙ ap (λ v. (first_view (g.V.StandsFor.entries v), [])) c.of-key.ensures) c.requires
