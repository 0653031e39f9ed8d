-- What the letter's own bytes add.
use Rattle.std.proofs.Common.{arith}
use Rattle.std.proofs.lemmas.Grind.{common_steps}
use Rattle.pp_values.proofs.Letters.{escaped-plain}
use Rattle.pp_values.proofs.printing.write_escaped_letter.Goals as goal

pub returns-in_ok-push-3 : goal.returns-in_ok-push-3
returns-in_ok-push-3 c = grind (arith, common_steps, escaped-plain c.args.letter)
