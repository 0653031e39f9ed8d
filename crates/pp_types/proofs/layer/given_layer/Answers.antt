-- The texts of an `Enum` as they were given.
use Rattle.pp_types.proofs.Given.{given_texts-texts_arguments}
use Rattle.pp_types.proofs.layer.given_layer.Goals as goal

pub returns-in-Enum : goal.returns-in-Enum
returns-in-Enum c = rw (c.in-Enum.is, given_texts-texts_arguments c.in-Enum.texts) c.enum_layer.ensures
