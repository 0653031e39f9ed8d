-- The types of a `Variant` as they were given.
use Rattle.std.proofs.Common.{sym, ◌∙◌}
use Rattle.pp_types.proofs.Given.{given_count}
use Rattle.pp_types.proofs.choices.choice_count.Goals as goal

pub returns-in-Given : goal.returns-in-Given
returns-in-Given c = rw c.in-Given.is (c.len.ensures ∙ sym (given_count c.in-Given.types.now))
