-- The key's places with one more are put back.
use Rattle.std.proofs.Common.{◌++◌, [], ◌∷◌, ap, ◌∙◌}
use Rattle.catalog_finish.proofs.NameLemmas.{added}
use Rattle.catalog_finish.proofs.name_places.add_place.Goals as goal

pub returns : goal.returns
returns c =
    added c.args.places.now c.taken-known.new.places c.insert.new.self c.args.key c.args.place _
    (c.in_ok-push.ensures.items ∙ ap (λ ns. ns ++ c.args.place ∷ []) c.taken-known.ensures.value)
    c.taken-known.ensures.rest c.in_ok-insert.ensures.updates.0
