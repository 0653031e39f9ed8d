use Rattle.std.proofs.Common.{◌≡◌, [], refl, sym, ap, ◌∙◌}
use Rattle.pp_values.specs.declared.reference.Reference.{Reference}
use Rattle.override_rules.proofs.lines.Lines.new.Goals as goal
use Rattle.override_rules.specs.Lines.{lines_of}
use Rattle.override_rules.specs.Numbers.{places}

none : (r : Reference) → places r [] ≡ []
unfolding places
none r = refl

pub invariant_of-result : goal.invariant_of-result
invariant_of-result c = λ r. c.new-2.ensures r ∙ sym (ap (λ xs. places r (lines_of xs)) c.new.ensures.items ∙ none r)
