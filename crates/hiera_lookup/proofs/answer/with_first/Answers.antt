use Rattle.std.proofs.Common.{◌≡◌, length, ap, ◌∙◌, arith}
use Rattle.hiera_lookup.specs.AnswerPlaces.{place_for}
use Rattle.hiera_lookup.proofs.AnswerLemmas.{first_placed}
use Rattle.hiera_lookup.proofs.answer.with_first.Goals as goal

pub invariant_of-result : goal.invariant_of-result
invariant_of-result c =
    let last : c.len.result ≡ length c.answers.inside.items.items = omega (arith, c.len.ensures) in
    first_placed c.answers.inside.places c.insert.new.self c.args.answer c.in_ok-copy.field-0 c.len.result
    c.answers.inside.items.items _ c.answers.invariant
    (ap (λ xs. place_for xs c.args.answer.0) c.answers.view_is ∙ c.requires)
    (c.in_ok-copy.ensures ∙ ap (λ x. x.0) c.answer.view_is) last c.in_ok-insert.ensures.updates.0
    c.in_ok-push.ensures.items
