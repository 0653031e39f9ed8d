-- The rest begins with the letter, so it adds what the letter adds, and then what is left.
use Rattle.std.proofs.Common.{arith}
use Rattle.std.specs.Char.{encode_utf8}
use Rattle.std.proofs.lemmas.Grind.{common_steps}
use Rattle.pp_values.proofs.Letters.{escaped-append}
use Rattle.pp_values.proofs.printing.write_escaped.Goals as goal

pub loop-letter-preserved : goal.loop-letter-preserved
loop-letter-preserved c =
    grind (arith, common_steps, escaped-append (encode_utf8 c.in-Some.letter) c.next.new.self.rest.now)
