use Rattle.std.proofs.Common.{◌≡◌, ◌++◌, [], ◌∷◌, length, sym, ap, subst, ◌∙◌, arith}
use Rattle.std.proofs.lemmas.List.{map-append}
use lib.ListN.{length-map}
use Rattle.catalog_finish.specs.Naming.{called, all_called}
use Rattle.catalog_finish.specs.NameKeys.{IsTable, AddsPlace}
use Rattle.catalog_finish.proofs.NameLemmas.{table_more}
use Rattle.catalog_finish.proofs.names.with_one_more.Goals as goal

pub invariant_of-result : goal.invariant_of-result
invariant_of-result c =
    let items = c.names.inside.items.items in
    let new = c.add_place.new.places in
    let map_long = length-map items called in
    let long : c.len.result ≡ length (all_called items) = omega (arith, map_long, c.len.ensures) in
    let more : IsTable new (all_called items ++ called c.args.named ∷ []) =
    table_more c.names.inside.places new (all_called items) (called c.args.named) c.len.result c.names.invariant long
    (subst (λ k. AddsPlace k c.len.result c.names.inside.places new) c.requires c.in_ok-add_place.ensures) in
    subst (λ cs. IsTable new cs)
    (sym (ap all_called c.in_ok-push.ensures.items ∙ map-append called items (c.args.named ∷ []))) more
