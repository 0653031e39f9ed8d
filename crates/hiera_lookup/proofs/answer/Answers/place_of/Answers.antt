use Rattle.std.proofs.Common.{ap, ◌∙◌}
use Rattle.hiera_lookup.specs.AnswerPlaces.{place_for}
use Rattle.hiera_lookup.proofs.answer.Answers.place_of.Goals as goal

pub returns : goal.returns
returns c =
    c.place_in.ensures ∙ c.self.invariant c.args.key.now ∙ ap (λ xs. place_for xs c.args.key.now) c.self.view_is
