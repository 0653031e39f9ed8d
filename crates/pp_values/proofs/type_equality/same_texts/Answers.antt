use Rattle.std.proofs.Common.{arith}
use Rattle.std.proofs.lemmas.Grind.{common_steps}
use Rattle.pp_values.proofs.SameLists.{same_arguments-texts_arguments}
use Rattle.pp_values.proofs.type_equality.same_texts.Goals as goal

pub returns : goal.returns
returns c = grind (arith, common_steps, same_arguments-texts_arguments c.args.a.now c.args.b.now)
