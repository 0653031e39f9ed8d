-- The type at a place.
use Rattle.pp_types.proofs.Given.{given_form}
use Rattle.pp_types.proofs.choices.given_at.Goals as goal

pub returns : goal.returns
returns c = given_form c.args.types.now c.args.place _ c.requires c.index-types-place.is
