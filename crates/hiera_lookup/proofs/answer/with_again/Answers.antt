use Rattle.std.proofs.Common.{sym, ap, ◌∙◌}
use Rattle.hiera_lookup.specs.AnswerPlaces.{place_for}
use Rattle.hiera_lookup.proofs.AnswerLemmas.{again_placed}
use Rattle.hiera_lookup.proofs.answer.with_again.Goals as goal

pub invariant_of-result : goal.invariant_of-result
invariant_of-result c =
    again_placed c.answers.inside.places c.args.answer c.answers.inside.items.items _ c.answers.invariant
    (λ none. c.requires (ap (λ xs. place_for xs c.args.answer.0) (sym c.answers.view_is) ∙ none))
    c.in_ok-push.ensures.items
