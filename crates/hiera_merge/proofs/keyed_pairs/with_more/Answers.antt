use Rattle.std.proofs.Common.{◌≡◌, None, [], ◌∷◌, length, ap, ◌∙◌, arith}
use Rattle.std.proofs.lemmas.List.{map-append}
use lib.ListN.{length-map}
use Rattle.pp_values.specs.Places.{place_of}
use Rattle.pp_values.specs.Views.{view, pair_view, pair_views}
use Rattle.hiera_merge.proofs.Placing.{more_whole}
use Rattle.hiera_merge.proofs.keyed_pairs.with_more.Goals as goal

pub invariant_of-result : goal.invariant_of-result
invariant_of-result c =
    let items = c.pairs.inside.items.items in
    let long = length-map items pair_view in
    let last : c.len.result ≡ length (pair_views items) = omega (arith, long, c.len.ensures) in
    let none : place_of (view c.args.key) (pair_views items) ≡ None =
    ap (place_of (view c.args.key)) c.pairs.view_is ∙ c.requires.new in
    more_whole c.pairs.inside.places c.set.new.self
    (view c.args.key) (view c.args.value) c.len.result (pair_views items) _ c.pairs.invariant c.requires.key none last
    c.in_ok-set.ensures
    (ap pair_views c.in_ok-push.ensures.items ∙ map-append pair_view items ((c.args.key, c.args.value) ∷ []))
