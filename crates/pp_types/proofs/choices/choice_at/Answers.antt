-- The types of a `Variant` as they were given.
use Rattle.std.proofs.Common.{◌<◌, length, subst}
use Rattle.pp_types.specs.Forms.{list_of}
use Rattle.pp_types.specs.Layers.{choice_forms}
use Rattle.pp_types.proofs.Given.{given_place, list_of-given_forms}
use Rattle.pp_types.proofs.choices.choice_at.Goals as goal

pub given_at-requires : goal.given_at-requires
given_at-requires c =
    given_place c.as_slice.result.now c.in-Given.types.now c.args.place c.as_slice.ensures
    (subst (λ cs. c.args.place < length (list_of (choice_forms cs))) c.in-Given.is c.requires)

pub returns-in-Given : goal.returns-in-Given
returns-in-Given c = rw (c.in-Given.is, list_of-given_forms c.in-Given.types.now, ← c.as_slice.ensures) c.given_at.ensures
