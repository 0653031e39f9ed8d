-- The rest begins with the letter, so it adds the letter as it stands there, and then what is left.
use Rattle.std.proofs.Common.{arith}
use Rattle.std.proofs.lemmas.Grind.{common_steps}
use Rattle.pp_values.proofs.Letters.{capitalised_after-letter}
use Rattle.pp_values.proofs.printing.write_kind.Goals as goal

pub loop-letter-preserved : goal.loop-letter-preserved
loop-letter-preserved c =
    grind (arith, common_steps, capitalised_after-letter c.loop-letter.last c.in-Some.letter c.next.new.self.rest.now)
